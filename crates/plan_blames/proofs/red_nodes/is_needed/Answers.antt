use Rattle.std.proofs.Common.{◌≡◌, ℕ, List, true, sym, ap, ◌∙◌, inl, inr, arith}
use Rattle.plan_core.specs.declared.node.Node.{Node}
use Rattle.plan_blames.specs.Needs.{needs}
use Rattle.plan_blames.proofs.Blaming.{is_found, not_found, not_yet}
use Rattle.plan_blames.proofs.red_nodes.is_needed.Goals as goal
use Rattle.plan_blames.proofs.red_nodes.is_needed.Goals.{else-reds-k-via-then-reds-k+else-needs, else-reds-k-via-else-reds-k}

pub returns-then-needs : goal.returns-then-needs
returns-then-needs c =
    let node : Node = c.index-nodes-k.result in
    let needed : needs node.op node.children c.args.child ≡ true =
    ap (λ (children : List ℕ). needs node.op children c.args.child) (sym c.as_slice.ensures) ∙ sym c.needs.ensures ∙ c.if-needs.true in
    is_found c.args.child c.args.nodes.now c.args.reds.now c.loop-k.k node c.loop-k-test.true c.requires c.index-nodes-k.is c.if-reds-k.true needed

pub loop-k-preserved : goal.loop-k-preserved
loop-k-preserved c =
    let node : Node = c.index-nodes-k.result in
    not_yet c.args.child c.args.nodes.now c.args.reds.now c.loop-k.k node c.loop-k-test.true c.requires c.index-nodes-k.is c.loop-k.invariant (elim c.else-reds-k.branch [
      | else-reds-k-via-then-reds-k+else-needs w ↦ inr (ap (λ (children : List ℕ). needs node.op children c.args.child) (sym w.as_slice.ensures) ∙ sym w.needs.ensures ∙ w.if-needs.false)
      | else-reds-k-via-else-reds-k w ↦ inl w.if-reds-k.false
    ])

pub returns : goal.returns
returns c = not_found c.args.child c.args.nodes.now c.args.reds.now c.loop-k.k (omega arith) c.requires c.loop-k.invariant
