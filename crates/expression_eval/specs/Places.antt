-- The place that a function of the evaluator writes its result into: a value, or the fault that ended evaluation.
use Rattle.std.specs.Prelude.{◌≡◌, ℕ, Bool, true, false, List, [], ◌∷◌, ◌++◌, Option, Some, None, Result, Ok, Err}
use Rattle.expression_eval.specs.Steps.{after_count, noted_value, operation}
use Rattle.expression_eval.specs.declared.steps.Operator.{Operator}
use Rattle.script_values.specs.Gives.{Fails, Gives}
use Rattle.script_values.specs.Numbers.{truth_of}
use Rattle.script_values.specs.Outcomes.{Outcome}
use Rattle.script_values.specs.Values.{Value}
use Rattle.script_values.specs.View.{view_value}
use Rattle.script_values.specs.declared.fault.Stop.{Stop}
use Rattle.script_values.specs.declared.fault.Stop.TheVariants as fault
use Rattle.script_values.specs.declared.machine.Machine.{Machine}
use Rattle.script_values.specs.declared.value.Value as program

-- The result of a step of evaluation, in the place where the program writes it: a value, or the fault that ended
-- evaluation.
abbrev pub Place : Type 0
Place = Result program.Value Stop

-- The result of a step is a fault, and it is the one that evaluation is meant to end with. Want of memory is right at
-- any time.
abbrev pub Failed : {Y : Type 0} → Place → Result Y Stop → Type 0
Failed (Ok v) meant = ⊥
Failed (Err e) meant = Fails e meant

-- One step of evaluation was applied to the result of the one before, and `now` is the new result. Of a value it is
-- what `step` gives; a fault stays as it is. m is the state of evaluation after it.
abbrev pub Goes : (Value → Outcome) → Place → Place → Machine → Type 0
Goes step (Ok v) now m = Gives (λ w. (view_value w, m)) now (step (view_value v))
Goes step (Err e) now m = now ≡ Err e

-- Whether evaluation goes on, as the program says, is right. With true it is meant to, with y; with false the result
-- `now` is the fault that it is meant to end with.
abbrev pub GoesOn : {Y : Type 0} → Bool → Y → Place → Result Y Stop → Type 0
GoesOn true y now meant = meant ≡ Ok y
GoesOn false y now meant = Failed now meant

-- The program made something, and by `view` it is what evaluation is meant to give. Or it made nothing, and the result
-- `now` is the fault that evaluation is meant to end with.
abbrev pub Makes : {X Y : Type 0} → (X → Y) → Option X → Place → Result Y Stop → Type 0
Makes view (Some x) now meant = meant ≡ Ok (view x)
Makes view None now meant = Failed now meant

-- The result `now` of an operator on two operands: `right` is the result of the right one, and what stands behind m
-- that of the left one. A fault of the left stays, and else one of the right. Two values are joined, once one unit of
-- work is counted. m and n are the states before and after.
abbrev pub Joins : Operator → Place → Machine → Place → Place → Machine → Type 0
Joins operator right m (Err e) now n = now ≡ Err e
Joins operator (Err e) m (Ok v) now n = now ≡ Err e
Joins operator (Ok w) m (Ok v) now n = Gives (λ u. (view_value u, n)) now
    (after_count (operation operator (view_value v) (view_value w)) m)

-- The program read a truth value from the result of a step, the first argument. If that is one, `truth` has it;
-- otherwise `truth` is None, and the result `now` is the fault.
abbrev pub Tells : Place → Option Bool → Place → Type 0
Tells (Ok v) truth now = Makes (λ b. b) truth now (truth_of (view_value v))
Tells (Err e) (Some b) now = ⊥
Tells (Err e) None now = now ≡ Err e

-- The value of a step's result was put at the end of a list, if true, in the form that `made` gives. If false, the step
-- had failed or memory was refused, and the result `now` says which. `before` and `after` are the list.
abbrev pub GoesBehind : {X : Type 0} → (Value → X) → Place → Bool → List X → List X → Place → Type 0
GoesBehind made (Ok v) true before after now = after ≡ before ++ made (view_value v) ∷ []
GoesBehind made (Ok v) false before after now = now ≡ Err fault.Memory
GoesBehind made (Err e) true before after now = ⊥
GoesBehind made (Err e) false before after now = now ≡ Err e

-- A call at token `at` made a value, and the sources from number `before` on, which it added, are noted as made by it.
-- A fault stays. `now` is the new result; m and n are the states of evaluation before and after.
abbrev pub Notes : (at before : ℕ) → Place → Machine → Place → Machine → Type 0
Notes at before (Ok v) m now n = Gives (λ w. (view_value w, n)) now (noted_value at before (view_value v) m)
Notes at before (Err e) m now n = now ≡ Err e
