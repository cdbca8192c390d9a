use Rattle.std.proofs.Common.{◌≡◌, ℕ, List, get_or, length, map, sym, ap, ◌∙◌, arith}
use Rattle.std.proofs.lemmas.List.{length-map, get_or-map}
use Rattle.std.proofs.lemmas.List.Folds.{list_any_at}
use Rattle.time_pred.specs.declared.shared.SharedPred.{SharedPred}
use Rattle.time_pred.specs.Predicates.{is_always}
use Rattle.time_pred.specs.View.{view_shared}
use Rattle.plan_blames.proofs.blames.some_always.Goals as goal

pub returns-then-always : goal.returns-then-always
returns-then-always c =
    let xs : List SharedPred = c.args.preds.now in
    let i : ℕ = c.loop-pred.pred-index in
    let p : SharedPred = c.pred-item.result in
    let long : length (map view_shared xs) ≡ length xs = length-map xs view_shared in
    let at : view_shared p ≡ get_or (map view_shared xs) i (view_shared p) =
    ap view_shared c.pred-item.is ∙ sym (get_or-map view_shared xs i p (view_shared p) c.loop-pred-test.true) in
    sym (list_any_at is_always (map view_shared xs) i (view_shared p) (omega arith) (ap is_always (sym at) ∙ sym c.always.ensures.by_form ∙ c.if-always.true))
