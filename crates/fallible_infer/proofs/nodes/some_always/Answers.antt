use Rattle.std.proofs.Common.{◌≡◌, map, inl, inr, sym, ap, ◌∙◌, arith, length}
use Rattle.std.proofs.lemmas.List.{length-map, get_or-map}
use Rattle.time_pred.specs.View.{view_shared}
use Rattle.fallible_infer.specs.Infallible.{mark_at}
use Rattle.fallible_infer.proofs.Marking.{pairs_found, pairs_more, pairs_done}
use Rattle.fallible_infer.proofs.nodes.some_always.Goals.{else-always-via-then-always+else-marks-children, else-always-via-else-always}
use Rattle.fallible_infer.proofs.nodes.some_always.Goals as goal

pub returns-then-marks-children : goal.returns-then-marks-children
returns-then-marks-children c =
    let long : length (map view_shared c.args.preds.now) ≡ length c.args.preds.now = length-map c.args.preds.now view_shared in
    pairs_found (mark_at c.args.marks.now) (map view_shared c.args.preds.now) c.args.children.now c.loop-k.k (view_shared c.index-preds-k.result) (omega arith) (omega (arith, c.requires.number))
    (ap view_shared c.index-preds-k.is ∙ sym (get_or-map view_shared c.args.preds.now c.loop-k.k c.index-preds-k.result (view_shared c.index-preds-k.result) c.loop-k-test.true))
    (sym c.always.ensures.by_form ∙ c.if-always.true) c.if-marks-children.true

pub loop-k-preserved : goal.loop-k-preserved
loop-k-preserved c =
    let long : length (map view_shared c.args.preds.now) ≡ length c.args.preds.now = length-map c.args.preds.now view_shared in
    pairs_more (mark_at c.args.marks.now) (map view_shared c.args.preds.now) c.args.children.now c.loop-k.k (view_shared c.index-preds-k.result) (omega arith) (omega (arith, c.requires.number))
    (ap view_shared c.index-preds-k.is ∙ sym (get_or-map view_shared c.args.preds.now c.loop-k.k c.index-preds-k.result (view_shared c.index-preds-k.result) c.loop-k-test.true))
    c.loop-k.invariant
    (elim c.else-always.branch [
      | else-always-via-then-always+else-marks-children w ↦ inr w.if-marks-children.false
      | else-always-via-else-always w ↦ inl (sym c.always.ensures.by_form ∙ w.if-always.false)
    ])

pub returns : goal.returns
returns c =
    let long : length (map view_shared c.args.preds.now) ≡ length c.args.preds.now = length-map c.args.preds.now view_shared in
    pairs_done (mark_at c.args.marks.now) (map view_shared c.args.preds.now) c.args.children.now c.loop-k.k (omega arith) (omega (arith, c.requires.number)) c.loop-k.invariant
