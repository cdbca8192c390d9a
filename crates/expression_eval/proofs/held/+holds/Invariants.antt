use Rattle.std.proofs.Common.{◌≡◌, false, take}
use Rattle.std.specs.List.{list_any}
use Rattle.eval_meaning.specs.Calls.{holds_call}
use Rattle.script_grammar.specs.View.{view_added, view_and, view_full, view_multiplied, view_not}
use Rattle.expression_eval.proofs.held.+holds.Given as goal

abbrev pub invariant-fulls_hold-loop-part : goal.invariant-fulls_hold-loop-part
invariant-fulls_hold-loop-part l = list_any (λ x. holds_call (view_full x)) (take l.part-index l.parts) ≡ false

abbrev pub invariant-ands_hold-loop-part : goal.invariant-ands_hold-loop-part
invariant-ands_hold-loop-part l = list_any (λ x. holds_call (view_and x)) (take l.part-index l.parts) ≡ false

abbrev pub invariant-nots_hold-loop-part : goal.invariant-nots_hold-loop-part
invariant-nots_hold-loop-part l = list_any (λ x. holds_call (view_not x)) (take l.part-index l.parts) ≡ false

abbrev pub invariant-addends_hold-loop-part : goal.invariant-addends_hold-loop-part
invariant-addends_hold-loop-part l = list_any (λ x. holds_call (view_added x)) (take l.part-index l.parts) ≡ false

abbrev pub invariant-factors_hold-loop-part : goal.invariant-factors_hold-loop-part
invariant-factors_hold-loop-part l = list_any (λ x. holds_call (view_multiplied x)) (take l.part-index l.parts) ≡ false
