use Rattle.std.proofs.Common.{◌≡◌, ◌++◌, take}
use Rattle.plan_blames.specs.Texts.{numbered}
use Rattle.plan_picture.specs.Regions.{output_member}
use Rattle.plan_picture.proofs.regions.push_outputs.Given as goal

abbrev pub invariant-loop-k : goal.invariant-loop-k
invariant-loop-k l = l.into.items ≡ l.initial.into.items ++ numbered (output_member l.of) 0 (take l.k l.sinks)
