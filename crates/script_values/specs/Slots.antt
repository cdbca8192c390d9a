-- Looking up what a name stands for, and the arguments of a call.
use Rattle.std.specs.Prelude.{ℕ, List, [], ◌∷◌, Option, Some, None, cond, nat_eq}
use Rattle.typing_rules.specs.Arguments as arguments
use Rattle.script_values.specs.Values.{Value}

-- A variable of a script with its value, as an environment holds it (no slot of sound). It is known by the token at
-- which its name was bound, as an index.
abbrev pub SlotValue : Type 0
SlotValue = ℕ × Value

-- The value of the variable whose name was bound at token `at`, from the variables in scope: that of the first such in
-- the list; `None` if there is none.
abbrev pub value_at_token : ℕ → List SlotValue → Option Value
value_at_token at [] = None
value_at_token at (s ∷ ss) = cond (nat_eq s.0 at) (Some s.1) (value_at_token at ss)

-- An argument of a call: its label, if it has one, and its value.
abbrev pub Argument : Type 0
Argument = arguments.GivenArgument Value
