use Rattle.std.proofs.Common.{◌≡◌, get_or, map, inl, refl, sym, ap, ◌∙◌, arith, length}
use Rattle.std.proofs.lemmas.List.{length-map, get_or-map}
use Rattle.time_pred.specs.View.{view_shared}
use Rattle.plan_blames.proofs.Blaming.{case_done, case_found, case_more}
use Rattle.plan_blames.proofs.Needed.{itself}
use Rattle.plan_blames.proofs.needs.first_sure.Goals as goal

pub loop-k-init : goal.loop-k-init
loop-k-init c = λ child. refl

pub returns-then-always-clause-some : goal.returns-then-always-clause-some
returns-then-always-clause-some c =
    let long : length (map view_shared c.args.preds.now) ≡ length c.args.preds.now = length-map c.args.preds.now view_shared in
    sym (case_found (get_or c.args.children.now c.loop-k.k 0) (map view_shared c.args.preds.now) c.args.children.now c.loop-k.k (view_shared c.index-preds-k.result) (omega arith) (omega arith)
    (ap view_shared c.index-preds-k.is ∙ sym (get_or-map view_shared c.args.preds.now c.loop-k.k c.index-preds-k.result (view_shared c.index-preds-k.result) (omega arith)))
    (sym c.always.ensures.by_form ∙ c.if-always.true) (itself (get_or c.args.children.now c.loop-k.k 0)))

pub loop-k-preserved : goal.loop-k-preserved
loop-k-preserved c =
    let long : length (map view_shared c.args.preds.now) ≡ length c.args.preds.now = length-map c.args.preds.now view_shared in
    λ child. case_more child (map view_shared c.args.preds.now) c.args.children.now c.loop-k.k (view_shared c.index-preds-k.result) (omega arith) (omega arith)
    (ap view_shared c.index-preds-k.is ∙ sym (get_or-map view_shared c.args.preds.now c.loop-k.k c.index-preds-k.result (view_shared c.index-preds-k.result) (omega arith)))
    (c.loop-k.invariant child) (inl (sym c.always.ensures.by_form ∙ c.if-always.false))

pub returns-clause-none : goal.returns-clause-none
returns-clause-none c =
    let long : length (map view_shared c.args.preds.now) ≡ length c.args.preds.now = length-map c.args.preds.now view_shared in
    λ none child. sym (case_done child (map view_shared c.args.preds.now) c.args.children.now c.loop-k.k (omega arith) (c.loop-k.invariant child))
