use Rattle.std.proofs.Common.{◌≡◌, ◌++◌, take}
use Rattle.plan_blames.specs.Texts.{numbered}
use Rattle.std.proofs.Common.{codes, decimal}
use Rattle.plan_picture.specs.Regions.{within}
use Rattle.plan_picture.proofs.regions.push_members.Given as goal

abbrev pub invariant-loop-k : goal.invariant-loop-k
invariant-loop-k l = l.into.items ≡ l.initial.into.items ++ numbered (λ k clock. within l.of clock (codes "n" ++ decimal k ++ codes ";")) 0 (take l.k l.of)
