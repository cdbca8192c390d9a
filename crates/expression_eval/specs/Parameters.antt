-- The slots of the parameters of a def, by what each of them takes of the arguments.
use Rattle.std.specs.Prelude.{◌≡◌, ◌≢◌, ℕ, List, [], ◌∷◌, ◌++◌, map, get_or, Option, Some, None, option_map, Result, Ok, Err, ⊤}
use Rattle.script_grammar.specs.Tree.{Tree, Many, none, more, AParam, Param, Labelled, Optional}
use Rattle.typing_rules.specs.Arguments.{token_of}
use Rattle.script_values.specs.declared.fault.Stop.{Stop}
use Rattle.script_values.specs.declared.fault.Stop.TheVariants.{Stuck}
use Rattle.script_values.specs.declared.machine.Machine.{Machine}
use Rattle.script_values.specs.declared.slots.Given.{Given as AGiven}
use Rattle.script_values.specs.declared.value.Value.{Value as AValue}
use Rattle.script_values.specs.Outcomes.{◌>>=◌}
use Rattle.script_values.specs.Slots.{SlotValue}
use Rattle.script_values.specs.Values.{Value, UnitValue}
use Rattle.script_values.specs.View.{view_value}
use Rattle.eval_meaning.specs.Meaning.{Surroundings, full}

-- the value of the argument that a parameter takes, from the program's form; None if it takes none
abbrev pub view_taken : Option AValue → Option Value
view_taken o = option_map view_value o

-- the value of the argument with the number `place`, counted from 0, among the arguments gs; that of `()` if there is
-- none
abbrev pub value_at : List AGiven → ℕ → Value
value_at gs place = get_or (map (λ g. view_value g.value) gs) place UnitValue

-- i is none of these numbers of arguments; None stands for a parameter that takes no argument
abbrev pub Lacks : ℕ → List (Option ℕ) → Type 0
Lacks i [] = ⊤
Lacks i (None ∷ os) = Lacks i os
Lacks i (Some j ∷ os) = (j ≢ i) × Lacks i os

-- No two parameters take the same argument. The list has for each the number of the argument that it takes, or None if
-- it takes none.
abbrev pub AreApart : List (Option ℕ) → Type 0
AreApart [] = ⊤
AreApart (None ∷ os) = AreApart os
AreApart (Some i ∷ os) = Lacks i os × AreApart os

-- The values of all arguments, by their numbers, are as they were, `old` before and `new` after. One whose number is
-- given may have changed, since a parameter took it.
abbrev pub AreKept : Option ℕ → (ℕ → Value) → (ℕ → Value) → Type 0
AreKept None old new = (j : ℕ) → new j ≡ old j
AreKept (Some i) old new = (j : ℕ) → j ≢ i → new j ≡ old j

-- Binds one parameter p of a def in a call: to the argument that it takes or, if it takes None, to its default, which
-- is evaluated in s. Without either, evaluation is stuck. m is the state of evaluation before.
unfoldable pub filled : Surroundings → Tree AParam → Option Value → Machine → Result (SlotValue × Machine) Stop
filled s p (Some v) m = Ok ((token_of p, v), m)
filled s (Param at name) None m = Err Stuck
filled s (Labelled at name) None m = Err Stuck
filled s (Optional at name d) None m = full s d m >>= λ x. Ok ((at, x.0), x.1)

-- Binds the parameters of a def in a call, one after another, behind the bindings `slots`: each to its argument in the
-- list or, for None, to its default, which is evaluated in s. m is the state of evaluation before.
unfoldable pub all_filled : Surroundings → Tree (Many AParam) → List (Option Value) → List SlotValue → Machine
    → Result (List SlotValue × Machine) Stop
all_filled s none os slots m = Ok (slots, m)
all_filled s (more p ps) [] slots m = Err Stuck
all_filled s (more p ps) (o ∷ os) slots m = filled s p o m >>= λ x. all_filled s ps os (slots ++ x.0 ∷ []) x.1
