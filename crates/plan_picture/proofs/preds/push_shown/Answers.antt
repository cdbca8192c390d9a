use Rattle.std.proofs.Common.{rules, ◌≡◌, arith, false, length}
use Rattle.std.proofs.lemmas.Result.{IfOk-equal}
use Rattle.time_pred.specs.View.{view_pred}
use Rattle.plan_picture.specs.Predicates.{pred_text}
use Rattle.plan_picture.proofs.Cutting.{cut_behind}
use Rattle.plan_picture.proofs.preds.push_shown.Goals as goal

pub returns : goal.returns
returns c =
    let is : c.len-before.result ≡ length c.args.into.now.items = first_of (search rules, omega (arith, c.len-before.ensures)) in
    IfOk-equal c.cut.result c.cut.new.into.items _ _ c.cut.ensures
    (cut_behind c.len-before.result c.args.into.now.items c.push_pred.new.into.items (pred_text false (view_pred c.args.pred.now)) is
    c.in_ok-push_pred.ensures)
