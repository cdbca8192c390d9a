use Rattle.std.specs.List.{list_all, list_any}
use Rattle.time_pred.specs.Predicates.{holds}
use Rattle.time_pred.specs.View.{view_pred}
use Rattle.week_plan.specs.Tables.{IsTableOf}
use Rattle.week_plan.proofs.Parts.{all_table, any_table, if_ok}
use Rattle.week_plan.proofs.preds.+table.Goals as goal

pub table_of-returns-in-All : goal.table_of-returns-in-All
table_of-returns-in-All t c =
    if_ok (λ words. IsTableOf (λ at. list_all (λ p. holds (view_pred p) at) c.deref-in-All.result.now) words.items) (λ words. IsTableOf (holds (view_pred c.args.pred.now)) words.items)
    c.all_table.result (λ words of. all_table c.args.pred.now c.in-All.parts c.deref-in-All.result.now words.items c.in-All.is c.deref-in-All.ensures.value of) c.all_table.ensures

pub table_of-returns-in-Any : goal.table_of-returns-in-Any
table_of-returns-in-Any t c =
    if_ok (λ words. IsTableOf (λ at. list_any (λ p. holds (view_pred p) at) c.deref-in-Any.result.now) words.items) (λ words. IsTableOf (holds (view_pred c.args.pred.now)) words.items)
    c.any_table.result (λ words of. any_table c.args.pred.now c.in-Any.parts c.deref-in-Any.result.now words.items c.in-Any.is c.deref-in-Any.ensures.value of) c.any_table.ensures
