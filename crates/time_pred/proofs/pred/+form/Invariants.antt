use Rattle.std.proofs.Common.{◌≡◌, true, false, take}
use Rattle.std.specs.List.{list_all, list_any}
use Rattle.time_pred.specs.Predicates.{is_always, is_never}
use Rattle.time_pred.specs.View.{view_pred}
use Rattle.time_pred.proofs.pred.+form.Given as goal

abbrev pub invariant-all_always-loop-part : goal.invariant-all_always-loop-part
invariant-all_always-loop-part l = list_all (λ p. is_always (view_pred p)) (take l.part-index l.parts) ≡ true

abbrev pub invariant-all_never-loop-part : goal.invariant-all_never-loop-part
invariant-all_never-loop-part l = list_all (λ p. is_never (view_pred p)) (take l.part-index l.parts) ≡ true

abbrev pub invariant-some_always-loop-part : goal.invariant-some_always-loop-part
invariant-some_always-loop-part l = list_any (λ p. is_always (view_pred p)) (take l.part-index l.parts) ≡ false

abbrev pub invariant-some_never-loop-part : goal.invariant-some_never-loop-part
invariant-some_never-loop-part l = list_any (λ p. is_never (view_pred p)) (take l.part-index l.parts) ≡ false
