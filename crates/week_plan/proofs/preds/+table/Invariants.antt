use Rattle.std.proofs.Common.{take}
use Rattle.std.specs.List.{list_all, list_any}
use Rattle.time_pred.specs.Predicates.{holds}
use Rattle.time_pred.specs.View.{view_pred}
use Rattle.week_plan.specs.Tables.{IsTableOf}
use Rattle.week_plan.proofs.preds.+table.Given as goal

abbrev pub invariant-all_table-loop-part : goal.invariant-all_table-loop-part
invariant-all_table-loop-part l = IsTableOf (λ at. list_all (λ p. holds (view_pred p) at) (take l.part-index l.parts)) l.words.items

abbrev pub invariant-any_table-loop-part : goal.invariant-any_table-loop-part
invariant-any_table-loop-part l = IsTableOf (λ at. list_any (λ p. holds (view_pred p) at) (take l.part-index l.parts)) l.words.items
