-- What steps give that evaluate no expression.
use Rattle.std.specs.Prelude.{ℕ, Result, Ok}
use Rattle.expression_eval.specs.declared.steps.Operator.{Operator}
use Rattle.expression_eval.specs.declared.steps.Operator.TheVariants as operator
use Rattle.script_values.specs.Machines.{count_work, noted_by}
use Rattle.script_values.specs.Numbers.{added, both, compared, either, multiplied}
use Rattle.script_values.specs.Outcomes.{◌>>=◌, Outcome}
use Rattle.script_values.specs.Values.{Value}
use Rattle.script_values.specs.declared.fault.Stop.{Stop}
use Rattle.script_values.specs.declared.machine.Machine.{Machine}

-- what a step made, a value or a fault, once one unit of work is counted in the state of evaluation, which has a bound
abbrev pub after_count : Result Value Stop → Machine → Outcome
after_count made m = count_work 1 m >>= λ c. made >>= λ v. Ok (v, c)

-- the value that an operator of the language makes of two values, or the fault where it has none
abbrev pub operation : Operator → Value → Value → Result Value Stop
operation operator.Or = either
operation operator.And = both
operation (operator.Sum minus at) = added minus at
operation (operator.Product divide at) = multiplied divide at
operation (operator.Comparison op) = compared op

-- the value v of a call at token `at`, in a state that has the sources from number `before` on noted as made by this
-- call
abbrev pub noted_value : (at before : ℕ) → Value → Machine → Outcome
noted_value at before v m = Ok (v, noted_by at before m)
