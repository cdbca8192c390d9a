-- Tables of places, made one place after another.
use Rattle.std.proofs.Common.{◌≡◌, ℕ, ◌+◌, ◌<◌, ◌≤◌, List, [], ◌∷◌, ◌++◌, length, take, get_or, slice_get, Some, None, Option, Bor, Bool, true, false, cond, not, refl, sym, ap, subst, ◌∙◌, nat_eq, arith}
use Rattle.std.specs.List.{HoldsAt, position, position_or_len, find}
use Rattle.std.specs.Option.{option_or, option_and_then}
use Rattle.std.specs.Prelude.{IfSome, MatchOption, map, option_map}
use Rattle.std.proofs.lemmas.List.{length-take-le, length_push, take_more}
use Rattle.std.proofs.lemmas.List.Folds.{find_at, position_or_len_push}
use Rattle.std.proofs.lemmas.List.Sums.{prefix_len-le-length}
use Rattle.std.proofs.lemmas.Option.{slice_get_past, slice_get-get_or}
use Rattle.script_grammar.specs.Tree.{Tree, ADef, AStmt, Many, more, Stmt, BindPart, DefPart, CallPart, IfPart}
use Rattle.script_grammar.specs.View.{listed, view_stmt}
use Rattle.script_grammar.specs.declared.tree.Stmt.{Stmt as ProgramStmt}
use Rattle.script_values.specs.Slots.{value_at_token}
use Rattle.script_values.specs.Values.{Value}
use Rattle.script_values.specs.View.{view_value}
use Rattle.script_values.specs.Views.{view_slot}
use Rattle.script_values.specs.declared.slots.Slot.{Slot}
use Rattle.typing_rules.specs.Defs.{def_at}
use Rattle.typing_rules.specs.Scripts.{def_token}
use Rattle.liq_base.specs.At.{at_token}
use Rattle.eval_scope.specs.Places.{IsTable, Notes, def_if, is_def, is_slot, names}

pub position_push : {X : Type 0} (p : X → Bool) (xs : List X) (y : X) → position p (xs ++ y ∷ []) ≡ option_or (position p xs) (cond (p y) (Some (length xs)) None)
position_push p xs y = grind (arith, position_or_len_push p xs y, length_push xs y, prefix_len-le-length (λ x. not (p x)) xs)

pub find_by_position : {X : Type 0} (p : X → Bool) (xs : List X) → option_and_then (λ i. slice_get xs i) (position p xs) ≡ find p xs
find_by_position p xs = grind (arith, find_at p xs, slice_get_past xs (position_or_len p xs))

pub table_push : {X : Type 0} (test : ℕ → X → Bool) (old new : List (Option ℕ)) (xs : List X) (y : X) → IsTable test old xs → Notes (λ k. test k y) old (length xs) new → IsTable test new (xs ++ y ∷ [])
table_push test old new xs y table notes k =
    notes k ∙ ap (λ (o : Option ℕ). option_or o (cond (test k y) (Some (length xs)) None)) (table k) ∙ sym (position_push (test k) xs y)

pub table_more : {X : Type 0} (test : ℕ → X → Bool) (old new : List (Option ℕ)) (xs : List X) (y : X) (i : ℕ) → i < length xs → y ≡ get_or xs i y → IsTable test old (take i xs) → Notes (λ k. test k y) old i new → IsTable test new (take (i + 1) xs)
table_more test old new xs y i lt is table notes =
    let long : length (take i xs) ≡ i = length-take-le i xs (omega arith) in
    let grown : IsTable test new (take i xs ++ y ∷ []) = table_push test old new (take i xs) y table (subst (λ (j : ℕ). Notes (λ k. test k y) old j new) (sym long) notes) in
    let step : take (i + 1) xs ≡ take i xs ++ y ∷ [] = take_more xs i y lt ∙ ap (λ (z : _). take i xs ++ z ∷ []) (sym is) in
    subst (λ (l : List _). IsTable test new l) (sym step) grown

-- what the table finds
pub table_finds : {X : Type 0} (test : ℕ → X → Bool) (places : List (Option ℕ)) (xs : List X) (at : ℕ) (o : Option ℕ) → IsTable test places xs → o ≡ at_token at places → option_and_then (λ i. slice_get xs i) o ≡ find (test at) xs
table_finds test places xs at o table is = ap (λ (p : Option ℕ). option_and_then (λ i. slice_get xs i) p) (is ∙ table at) ∙ find_by_position (test at) xs

-- what stands at a place
pub item_found : {X : Type 0} (o : Option (Bor X)) (xs : List X) (i : ℕ) → IfSome o (λ x. x.now ≡ get_or xs i x.now) → MatchOption o (length xs ≤ i) (λ x. (i < length xs) × HoldsAt {X = X} (λ y. x.now ≡ y) xs i) → option_map (λ x. x.now) o ≡ slice_get xs i
item_found None xs i is there = sym (slice_get_past xs i there)
item_found {X} (Some x) xs i is there = ap (λ (y : X). Some y) is ∙ sym (slice_get-get_or xs i x.now there.0)

slot_by : (b : Bool) (s : Slot) (o : Option Slot) (p : Option Value) → p ≡ option_map (λ x. view_value x.value) o → cond b (Some (view_value s.value)) p ≡ option_map (λ x. view_value x.value) (cond b (Some s) o)
slot_by true s o p is = refl
slot_by false s o p is = is

pub slot_found : (at : ℕ) (xs : List Slot) → value_at_token at (map view_slot xs) ≡ option_map (λ x. view_value x.value) (find (is_slot at) xs)
slot_found at [] = refl
slot_found at (s ∷ xs) = slot_by (nat_eq s.at at) s (find (is_slot at) xs) (value_at_token at (map view_slot xs)) (slot_found at xs)

def_by : (at : ℕ) (d : Tree ADef) (b : Bool) (s : ProgramStmt) (o : Option ProgramStmt) (p : Option (Tree ADef)) → b ≡ nat_eq (def_token d) at → def_if at (view_stmt s) ≡ elim b [ true ↦ Some d | false ↦ None ] → p ≡ option_and_then (λ x. def_if at (view_stmt x)) o → (elim b [ true ↦ Some d | false ↦ p ]) ≡ option_and_then (λ x. def_if at (view_stmt x)) (cond b (Some s) o)
def_by at d true s o p test this rest = sym this
def_by at d false s o p test this rest = rest

def_front : (at : ℕ) (s : ProgramStmt) (t : Tree AStmt) (ts : Tree (Many AStmt)) (o : Option ProgramStmt) → view_stmt s ≡ t → def_at at ts ≡ option_and_then (λ x. def_if at (view_stmt x)) o → def_at at (more t ts) ≡ option_and_then (λ x. def_if at (view_stmt x)) (cond (names t at) (Some s) o)
def_front at s (Stmt (DefPart d) semicolon) ts o is rest = def_by at d (nat_eq (def_token d) at) s o (def_at at ts) refl (ap (def_if at) is) rest
def_front at s (Stmt (BindPart b) semicolon) ts o is rest = rest
def_front at s (Stmt (CallPart c) semicolon) ts o is rest = rest
def_front at s (Stmt (IfPart i) semicolon) ts o is rest = rest

pub def_found : (at : ℕ) (xs : List ProgramStmt) → def_at at (listed (map view_stmt xs)) ≡ option_and_then (λ x. def_if at (view_stmt x)) (find (is_def at) xs)
def_found at [] = refl
def_found at (s ∷ xs) = def_front at s (view_stmt s) (listed (map view_stmt xs)) (find (is_def at) xs) refl (def_found at xs)
