-- What a step of evaluation comes to, and the steps behind it.
use Rattle.std.specs.Prelude.{ℕ, length, Result, Ok, Err}
use Rattle.script_values.specs.declared.fault.Stop.{Stop}
use Rattle.script_values.specs.declared.machine.Machine.{Machine}
use Rattle.script_values.specs.Machines.{noted_by}
use Rattle.script_values.specs.Values.{Value}

-- A step of evaluation, and then the next one over the value that it gives. A fault of the first is that of both.
infixl 10 ◌>>=◌
abbrev pub ◌>>=◌ : {A B : Type 0} → Result A Stop → (A → Result B Stop) → Result B Stop
(Ok x) >>= f = f x
(Err e) >>= f = Err e

-- What the evaluation of an expression comes to: its value and the state after it, or why evaluation stops.
abbrev pub Outcome : Type 0
Outcome = Result (Value × Machine) Stop

-- What a call at token `at`, begun in state m, comes to: the value of `made`, which is what it comes to by itself, and
-- its state, with a note that this call made all sources that were made since m.
abbrev pub ascribed : ℕ → Machine → Outcome → Outcome
ascribed at m made = made >>= λ x. Ok (x.0, noted_by at (length m.plan.nodes) x.1)
