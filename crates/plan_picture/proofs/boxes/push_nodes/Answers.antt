use Rattle.std.proofs.Common.{ℕ, List, Bool, ◌++◌, take, sym, ap, ◌∙◌, append_assoc}
use Rattle.plan_core.specs.declared.node.Node.{Node}
use Rattle.fallible_infer.specs.Infallible.{mark_at}
use Rattle.plan_blames.specs.Blames.{node_red}
use Rattle.plan_picture.specs.Boxes.{node_box}
use Rattle.plan_blames.specs.Texts.{numbered}
use Rattle.plan_blames.proofs.Numbering.{more}
use Rattle.plan_picture.proofs.boxes.push_nodes.Goals as goal

pub loop-k-preserved : goal.loop-k-preserved
loop-k-preserved c =
    let text : ℕ → Node → List ℕ = (λ k node. node_box c.args.plan.now c.args.silent c.args.clocks.now k node (mark_at c.args.marks.now k) (node_red c.args.silent c.args.reds.now c.args.clocks.now k node.op)) in
    let xs : List Node = c.args.nodes.now in
    let i : ℕ = c.loop-k.k in
    c.in_ok-push_node.ensures
    ∙ ap (λ (b : Bool). c.loop-k.into.items ++ node_box c.args.plan.now c.args.silent c.args.clocks.now i c.index-nodes-k.result b c.in_ok-red.red) c.mark.ensures
    ∙ ap (λ (b : Bool). c.loop-k.into.items ++ node_box c.args.plan.now c.args.silent c.args.clocks.now i c.index-nodes-k.result (mark_at c.args.marks.now i) b) c.in_ok-red.ensures
    ∙ ap (λ (t : List ℕ). t ++ text i c.index-nodes-k.result) c.loop-k.invariant
    ∙ append_assoc c.args.into.now.items (numbered text 0 (take i xs)) (text i c.index-nodes-k.result)
    ∙ ap (λ (t : List ℕ). c.args.into.now.items ++ t) (sym (more text xs i c.index-nodes-k.result c.loop-k-test.true c.index-nodes-k.is))
