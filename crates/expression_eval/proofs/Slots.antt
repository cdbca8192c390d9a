-- The slots of parameters: each in turn by what it takes, and all of them as their meaning has them.
use Rattle.std.proofs.Common.{◌≡◌, Some, None, Option, List, [], ◌∷◌, ◌++◌, length, Result, Ok, Err, ℕ, suc, ◌+◌, refl, sym, ap, ◌∙◌, arith}
use Rattle.std.proofs.lemmas.List.{map_push}
use Rattle.std.specs.Prelude.{map, option_map}
use Rattle.script_grammar.specs.Tree.{Tree, Many, none, more, AFull, AParam, Param, Labelled, Optional}
use Rattle.script_grammar.specs.View.{view_param}
use Rattle.script_grammar.specs.declared.tree.Param as program_param
use Rattle.script_grammar.specs.declared.tree.ParamForm.{ParamForm}
use Rattle.script_grammar.specs.declared.tree.ParamForm.TheVariants as form
use Rattle.typing_rules.specs.Arguments.{argument, arguments_taken, others, parameters_of, token_of}
use Rattle.script_values.specs.Outcomes.{◌>>=◌, Outcome}
use Rattle.script_values.specs.declared.fault.Stop.{Stop}
use Rattle.script_values.specs.declared.fault.Stop.TheVariants.{Stuck}
use Rattle.script_values.specs.declared.machine.Machine.{Machine}
use Rattle.script_values.specs.declared.slots.Slot as program
use Rattle.script_values.specs.declared.value.Value.{Value as AValue}
use Rattle.script_values.specs.Gives.{Fails}
use Rattle.script_values.specs.Slots.{Argument, SlotValue}
use Rattle.script_values.specs.Values.{Value}
use Rattle.script_values.specs.Views.{view_slot}
use Rattle.eval_meaning.specs.Meaning as meaning
use Rattle.eval_meaning.specs.Meaning.{Surroundings, full, slot_or_default, taken_slot}
use Rattle.expression_eval.specs.Parameters.{all_filled, filled, view_taken}
use Rattle.expression_eval.proofs.Loops.{Steps, fails_on, fails_same}

-- ---- the loop

abbrev pub with_slot : List (Option Value) → List SlotValue → SlotValue × Machine → Result ((List (Option Value) × List SlotValue) × Machine) Stop
with_slot os slots x = Ok ((os, slots ++ x.0 ∷ []), x.1)

-- the slots from what is left to be taken, and from the slots so far
abbrev pub from_taken : Surroundings → Tree (Many AParam) → List (Option Value) × List SlotValue → Machine → Result (List SlotValue × Machine) Stop
from_taken s ts a m = all_filled s ts a.0 a.1 m

-- one slot more
abbrev pub one_filled : Surroundings → Tree AParam → List (Option Value) → List SlotValue → Machine → Result ((List (Option Value) × List SlotValue) × Machine) Stop
one_filled s t [] slots m = Err Stuck
one_filled s t (o ∷ os) slots m = filled s t o m >>= with_slot os slots

bound : (r : Result (SlotValue × Machine) Stop) (os : List (Option Value)) (slots : List SlotValue) (s : Surroundings) (ts : Tree (Many AParam)) → (r >>= λ x. all_filled s ts os (slots ++ x.0 ∷ []) x.1) ≡ ((r >>= with_slot os slots) >>= λ y. from_taken s ts y.0 y.1)
bound (Ok x) os slots s ts = refl
bound (Err e) os slots s ts = refl

opens : (s : Surroundings) (t : Tree AParam) (ts : Tree (Many AParam)) (os : List (Option Value)) (slots : List SlotValue) (m : Machine) → all_filled s (more t ts) os slots m ≡ (one_filled s t os slots m >>= λ y. from_taken s ts y.0 y.1)
unfolding all_filled
opens s t ts [] slots m = refl
opens s t ts (o ∷ os) slots m = bound (filled s t o m) os slots s ts

pub filled_steps : (s : Surroundings) → Steps (from_taken s) (λ t a m. one_filled s t a.0 a.1 m)
filled_steps s = record { opens = λ t ts a m. opens s t ts a.0 a.1 m }

pub filled_none : (s : Surroundings) (os : List (Option Value)) (slots : List SlotValue) (m : Machine) → all_filled s none os slots m ≡ Ok (slots, m)
unfolding all_filled
filled_none s os slots m = refl

-- a slot more, as the program pushes it
pub slot_went : (s : Surroundings) (t : Tree AParam) (o : Option Value) (os rest : List (Option Value)) (xs xs' : List program.Slot) (x : program.Slot) (m n : Machine) → os ≡ o ∷ rest → filled s t o m ≡ Ok (view_slot x, n) → xs' ≡ xs ++ x ∷ [] → one_filled s t os (map view_slot xs) m ≡ Ok ((rest, map view_slot xs'), n)
slot_went s t o os rest xs xs' x m n front is grown =
    ap (λ (l : List (Option Value)). one_filled s t l (map view_slot xs) m) front
    ∙ ap (λ (q : Result (SlotValue × Machine) Stop). q >>= with_slot rest (map view_slot xs)) is ∙ ap (λ (l : List SlotValue). Ok ((rest, l), n)) (sym (ap (map view_slot) grown ∙ map_push view_slot xs x))

-- a fault of a slot
pub slot_fails : (s : Surroundings) (t : Tree AParam) (o : Option Value) (os rest : List (Option Value)) (slots : List SlotValue) (m : Machine) (e : Stop) → os ≡ o ∷ rest → Fails e (filled s t o m) → Fails e (one_filled s t os slots m)
slot_fails s t o os rest slots m e front fault = fails_same e (one_filled s t (o ∷ rest) slots m) (one_filled s t os slots m) (ap (λ (l : List (Option Value)). one_filled s t l slots m) (sym front)) (fails_on e (filled s t o m) (with_slot rest slots) fault)

pub none_fails : (s : Surroundings) (t : Tree AParam) (os : List (Option Value)) (slots : List SlotValue) (m : Machine) → os ≡ [] → Fails Stuck (one_filled s t os slots m)
none_fails s t os slots m empty = ap (λ (l : List (Option Value)). one_filled s t l slots m) empty

-- what comes next of what is left, if anything does
pub next_taken : (xs ys : List (Option AValue)) (o : Option AValue) → xs ≡ o ∷ ys → map view_taken xs ≡ view_taken o ∷ map view_taken ys
next_taken xs ys o items = ap (map view_taken) items

pub none_left : (xs : List (Option AValue)) (n : ℕ) → n ≡ length xs → n ≡ 0 → map view_taken xs ≡ []
none_left [] n long empty = refl
none_left (x ∷ xs) n long empty = absurd (omega (arith, long, empty))

pub one_less : (xs ys : List (Option AValue)) (o : Option AValue) (n m : ℕ) → xs ≡ o ∷ ys → m + 1 ≡ n → n ≡ length xs → m ≡ length ys
one_less xs ys o n m items step long =
    let more : length xs ≡ suc (length ys) = ap length items in
    omega (arith, more, step, long)

-- ---- one parameter

param_token : (at : ℕ) (name : List ℕ) (f : ParamForm) → token_of (view_param (record { at = at; name = name; form = f })) ≡ at
param_token at name form.Plain = refl
param_token at name form.Labelled = refl
param_token at name (form.Optional d) = refl

pub filled_by : (s : Surroundings) (p : program_param.Param) (v : Value) (m : Machine) → filled s (view_param p) (Some v) m ≡ Ok ((p.at, v), m)
unfolding filled
filled_by s p v m = ap (λ (t : ℕ). Ok ((t, v), m)) (param_token p.at p.name p.form)

-- ---- the meaning of all

-- the slots are those of the meaning, behind any others
abbrev AreFilled : Surroundings → Tree (Many AParam) → Type 0
AreFilled s ps = (gs : List Argument) (slots : List SlotValue) (m : Machine) → meaning.parameters s ps gs slots m ≡ all_filled s ps (arguments_taken (parameters_of ps) gs) slots m

abbrev then_others : Surroundings → Tree (Many AParam) → List SlotValue → (SlotValue × List Argument) × Machine → Result (List SlotValue × Machine) Stop
then_others s ps slots x = meaning.parameters s ps x.0.1 (slots ++ x.0.0 ∷ []) x.1

abbrev then_filled : Surroundings → Tree (Many AParam) → List (Option Value) → List SlotValue → SlotValue × Machine → Result (List SlotValue × Machine) Stop
then_filled s ps os slots x = all_filled s ps os (slots ++ x.0 ∷ []) x.1

abbrev first : Option (Value × List Argument) → Option Value
first o = option_map (λ (x : Value × List Argument). x.0) o

plain_filled : (s : Surroundings) (ps : Tree (Many AParam)) (at : ℕ) (name : List ℕ) (gs : List Argument) (slots : List SlotValue) (m : Machine) (o : Option (Value × List Argument)) → AreFilled s ps → (taken_slot at o m >>= then_others s ps slots) ≡ (filled s (Param at name) (first o) m >>= then_filled s ps (arguments_taken (parameters_of ps) (others gs o)) slots)
unfolding filled
plain_filled s ps at name gs slots m None rest = refl
plain_filled s ps at name gs slots m (Some x) rest = rest x.1 (slots ++ (at, x.0) ∷ []) m

labelled_filled : (s : Surroundings) (ps : Tree (Many AParam)) (at : ℕ) (name : List ℕ) (gs : List Argument) (slots : List SlotValue) (m : Machine) (o : Option (Value × List Argument)) → AreFilled s ps → (taken_slot at o m >>= then_others s ps slots) ≡ (filled s (Labelled at name) (first o) m >>= then_filled s ps (arguments_taken (parameters_of ps) (others gs o)) slots)
unfolding filled
labelled_filled s ps at name gs slots m None rest = refl
labelled_filled s ps at name gs slots m (Some x) rest = rest x.1 (slots ++ (at, x.0) ∷ []) m

default_filled : (s : Surroundings) (ps : Tree (Many AParam)) (at : ℕ) (gs : List Argument) (slots : List SlotValue) (r : Outcome) → AreFilled s ps → ((r >>= λ x. Ok (((at, x.0), gs), x.1)) >>= then_others s ps slots) ≡ ((r >>= λ x. Ok ((at, x.0), x.1)) >>= then_filled s ps (arguments_taken (parameters_of ps) gs) slots)
default_filled s ps at gs slots (Ok x) rest = rest gs (slots ++ (at, x.0) ∷ []) x.1
default_filled s ps at gs slots (Err e) rest = refl

optional_filled : (s : Surroundings) (ps : Tree (Many AParam)) (at : ℕ) (name : List ℕ) (d : Tree AFull) (gs : List Argument) (slots : List SlotValue) (m : Machine) (o : Option (Value × List Argument)) → AreFilled s ps → (slot_or_default at o gs (full s d m) m >>= then_others s ps slots) ≡ (filled s (Optional at name d) (first o) m >>= then_filled s ps (arguments_taken (parameters_of ps) (others gs o)) slots)
unfolding filled
optional_filled s ps at name d gs slots m None rest = default_filled s ps at gs slots (full s d m) rest
optional_filled s ps at name d gs slots m (Some x) rest = rest x.1 (slots ++ (at, x.0) ∷ []) m

pub parameters_filled : (s : Surroundings) (ps : Tree (Many AParam)) (gs : List Argument) (slots : List SlotValue) (m : Machine) → meaning.parameters s ps gs slots m ≡ all_filled s ps (arguments_taken (parameters_of ps) gs) slots m
unfolding meaning.parameters meaning.parameter all_filled
parameters_filled s none gs slots m = refl
parameters_filled s (more (Param at name) ps) gs slots m = plain_filled s ps at name gs slots m (argument None gs) (λ hs vs n. parameters_filled s ps hs vs n)
parameters_filled s (more (Labelled at name) ps) gs slots m = labelled_filled s ps at name gs slots m (argument (Some name) gs) (λ hs vs n. parameters_filled s ps hs vs n)
parameters_filled s (more (Optional at name d) ps) gs slots m = optional_filled s ps at name d gs slots m (argument (Some name) gs) (λ hs vs n. parameters_filled s ps hs vs n)
