use Rattle.std.proofs.Common.{◌≡◌, ◌++◌, take}
use Rattle.plan_blames.specs.Texts.{numbered}
use Rattle.plan_picture.specs.Edges.{reads, through}
use Rattle.plan_picture.proofs.edges.push_feed.Given as goal

abbrev pub invariant-loop-k : goal.invariant-loop-k
invariant-loop-k l = l.into.items ≡ l.initial.into.items ++ numbered (λ k reader. through (reads reader.op l.buffer) l.plan l.buffer l.node k) 0 (take l.k l.nodes)
