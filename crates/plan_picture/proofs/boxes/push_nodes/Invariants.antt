use Rattle.std.proofs.Common.{◌≡◌, ◌++◌, take}
use Rattle.plan_blames.specs.Texts.{numbered}
use Rattle.fallible_infer.specs.Infallible.{mark_at}
use Rattle.plan_blames.specs.Blames.{node_red}
use Rattle.plan_picture.specs.Boxes.{node_box}
use Rattle.plan_picture.proofs.boxes.push_nodes.Given as goal

abbrev pub invariant-loop-k : goal.invariant-loop-k
invariant-loop-k l = l.into.items ≡ l.initial.into.items ++ numbered (λ k node. node_box l.plan l.silent l.clocks k node (mark_at l.marks k) (node_red l.silent l.reds l.clocks k node.op)) 0 (take l.k l.nodes)
