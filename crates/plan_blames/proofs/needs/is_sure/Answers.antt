use Rattle.std.proofs.Common.{◌≡◌, map, inl, inr, sym, ap, ◌∙◌, arith, length}
use Rattle.std.proofs.lemmas.List.{length-map, get_or-map}
use Rattle.std.proofs.lemmas.Bool.{eq-eqb, ne_eqb}
use Rattle.time_pred.specs.View.{view_shared}
use Rattle.plan_blames.proofs.Blaming.{case_done, case_found, case_more}
use Rattle.plan_blames.proofs.needs.is_sure.Goals.{else-always-via-then-always+else-children-k, else-always-via-else-always}
use Rattle.plan_blames.proofs.needs.is_sure.Goals as goal

pub returns-then-children-k : goal.returns-then-children-k
returns-then-children-k c =
    let long : length (map view_shared c.args.preds.now) ≡ length c.args.preds.now = length-map c.args.preds.now view_shared in
    case_found c.args.child (map view_shared c.args.preds.now) c.args.children.now c.loop-k.k (view_shared c.index-preds-k.result) (omega arith) (omega arith)
    (ap view_shared c.index-preds-k.is ∙ sym (get_or-map view_shared c.args.preds.now c.loop-k.k c.index-preds-k.result (view_shared c.index-preds-k.result) (omega arith)))
    (sym c.always.ensures.by_form ∙ c.if-always.true) (eq-eqb _ _ c.if-children-k.true)

pub loop-k-preserved : goal.loop-k-preserved
loop-k-preserved c =
    let long : length (map view_shared c.args.preds.now) ≡ length c.args.preds.now = length-map c.args.preds.now view_shared in
    case_more c.args.child (map view_shared c.args.preds.now) c.args.children.now c.loop-k.k (view_shared c.index-preds-k.result) (omega arith) (omega arith)
    (ap view_shared c.index-preds-k.is ∙ sym (get_or-map view_shared c.args.preds.now c.loop-k.k c.index-preds-k.result (view_shared c.index-preds-k.result) (omega arith)))
    c.loop-k.invariant
    (elim c.else-always.branch [
      | else-always-via-then-always+else-children-k w ↦ inr (ne_eqb _ _ w.if-children-k.false)
      | else-always-via-else-always w ↦ inl (sym c.always.ensures.by_form ∙ w.if-always.false)
    ])

pub returns : goal.returns
returns c =
    let long : length (map view_shared c.args.preds.now) ≡ length c.args.preds.now = length-map c.args.preds.now view_shared in
    case_done c.args.child (map view_shared c.args.preds.now) c.args.children.now c.loop-k.k (omega arith) c.loop-k.invariant
