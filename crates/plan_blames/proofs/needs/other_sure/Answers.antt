use Rattle.std.proofs.Common.{◌≡◌, get_or, map, sym, ap, ◌∙◌, arith, length}
use Rattle.std.proofs.lemmas.List.{length-map, get_or-map}
use Rattle.time_pred.specs.View.{view_shared}
use Rattle.plan_blames.proofs.Blaming.{case_found}
use Rattle.plan_blames.proofs.Needed.{case_alone, case_alone_more, itself}
use Rattle.plan_blames.proofs.needs.other_sure.Goals as goal

pub loop-k-init : goal.loop-k-init
loop-k-init c = λ other found. absurd cc

pub returns-then-is_other_case-clause-yes : goal.returns-then-is_other_case-clause-yes
returns-then-is_other_case-clause-yes c = λ yes.
    let long : length (map view_shared c.args.preds.now) ≡ length c.args.preds.now = length-map c.args.preds.now view_shared in
    let both = c.is_other_case.ensures.yes c.if-is_other_case.true in (
      get_or c.args.children.now c.loop-k.k 0,
      sym (case_found (get_or c.args.children.now c.loop-k.k 0) (map view_shared c.args.preds.now) c.args.children.now c.loop-k.k (view_shared c.index-preds-k.result) (omega arith) (omega arith)
          (ap view_shared c.index-preds-k.is ∙ sym (get_or-map view_shared c.args.preds.now c.loop-k.k c.index-preds-k.result (view_shared c.index-preds-k.result) (omega arith)))
          both.0 (itself (get_or c.args.children.now c.loop-k.k 0))),
      both.1,
    )

pub loop-k-preserved : goal.loop-k-preserved
loop-k-preserved c =
    let long : length (map view_shared c.args.preds.now) ≡ length c.args.preds.now = length-map c.args.preds.now view_shared in
    case_alone_more c.args.first (map view_shared c.args.preds.now) c.args.children.now c.loop-k.k (view_shared c.index-preds-k.result) (omega arith) (omega arith)
    (ap view_shared c.index-preds-k.is ∙ sym (get_or-map view_shared c.args.preds.now c.loop-k.k c.index-preds-k.result (view_shared c.index-preds-k.result) (omega arith)))
    c.loop-k.invariant (c.is_other_case.ensures.no c.if-is_other_case.false)

pub returns-clause-no : goal.returns-clause-no
returns-clause-no c =
    let long : length (map view_shared c.args.preds.now) ≡ length c.args.preds.now = length-map c.args.preds.now view_shared in
    λ no. case_alone c.args.first (map view_shared c.args.preds.now) c.args.children.now c.loop-k.k (omega arith) c.loop-k.invariant
