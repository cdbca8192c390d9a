use Rattle.std.proofs.Common.{◌≡◌, ◌++◌, take}
use Rattle.plan_blames.specs.Texts.{numbered}
use Rattle.fallible_infer.specs.Infallible.{mark_at}
use Rattle.plan_picture.specs.Edges.{sink_text}
use Rattle.plan_picture.proofs.edges.push_sinks.Given as goal

abbrev pub invariant-loop-k : goal.invariant-loop-k
invariant-loop-k l = l.into.items ≡ l.initial.into.items ++ numbered (sink_text l.plan (mark_at l.marks) l.refused) 0 (take l.k l.sinks)
