-- The names of statements, one statement after another.
use Rattle.std.proofs.Common.{◌≡◌, ◌≢◌, ◌∙◌, sym, ap, subst, refl, arith, ℕ, suc, zero, ◌<◌, ◌≤◌, ◌+◌, length, get_or, List, [], ◌∷◌, ◌++◌, map, Option, Some, None, option_map}
use Rattle.std.proofs.lemmas.List.{get_or-map, length-map, map-append}
use Rattle.script_grammar.specs.Tree.{Tree, AStmt, none, more, Script}
use Rattle.script_grammar.specs.View.{listed, view_stmt}
use Rattle.script_grammar.specs.declared.tree.Stmt.{Stmt as AStatement}
use Rattle.typing_rules.specs.declared.fault.NameFault.{NameFault}
use Rattle.typing_rules.specs.declared.fault.TypeFault.{TypeFault}
use Rattle.typing_rules.specs.declared.fault.TypeFault.TheVariants.{Memory}
use Rattle.typing_rules.specs.NameFaults.{faults_in, first_fault, name_fault_in, or_later, reported_fault}
use Rattle.typing_rules.specs.Scoping.{Meaning, Scope, meanings_of, meant, names, used, with_statement}
use Rattle.typing_rules.specs.Scripts.{first_of}
use Rattle.type_steps.specs.Statements.{scope_after, with_last}
use Rattle.type_steps.proofs.Appended.{used_more}
use Rattle.type_infer.specs.Fronts.{AreNamesOf, IsFront, IsNextFault}
use Rattle.type_infer.proofs.Fronts.{first_next, no_first}

-- ---- a script with one more statement

meanings_more : (script : Script) (x : Tree AStmt) → meanings_of (with_last script x) ≡ meanings_of script ++ map meant (names (scope_after [] script) x)
meanings_more script x = ap (map meant) (used_more [] script x) ∙ map-append meant (used [] script) (names (scope_after [] script) x)

scope_last : (sc : Scope) (script : Script) (x : Tree AStmt) → scope_after sc (with_last script x) ≡ with_statement x (scope_after sc script)
scope_last sc none x = refl
scope_last sc (more s rest) x = scope_last (with_statement s sc) rest x

fault_last : (i : ℕ) (sc : Scope) (script : Script) (x : Tree AStmt) → first_fault i sc script ≡ None → reported_fault (faults_in (scope_after sc script) x) ≡ None → first_fault i sc (with_last script x) ≡ None
fault_last i sc none x h e = ap (λ (o : Option NameFault). or_later i o None) e
fault_last i sc (more s rest) x h e =
    let parts = no_first i (reported_fault (faults_in sc s)) (first_fault (i + 1) (with_statement s sc) rest) h in
    ap (λ (o : Option NameFault). or_later i o (first_fault (i + 1) (with_statement s sc) (with_last rest x))) parts.0
    ∙ fault_last (i + 1) (with_statement s sc) rest x parts.1 e

-- ---- the fault behind statements without one

abbrev at_number : ℕ → NameFault → Option (ℕ × NameFault)
at_number n g = Some (n, g)

fault_at : (xs : List (Tree AStmt)) (i j : ℕ) (sc : Scope) (x : Tree AStmt) (g : NameFault) → i < length xs → x ≡ get_or xs i x → first_fault j sc (first_of i (listed xs)) ≡ None → reported_fault (faults_in (scope_after sc (first_of i (listed xs))) x) ≡ Some g → first_fault j sc (listed xs) ≡ at_number (i + j) g
fault_at [] i j sc x g lt is h e = absurd (omega arith)
fault_at (y ∷ xs) zero j sc x g lt is h e =
    let here : reported_fault (faults_in sc y) ≡ Some g = ap (λ (z : Tree AStmt). reported_fault (faults_in sc z)) (sym is) ∙ e in
    let sum : j ≡ zero + j = omega arith in
    ap (λ (o : Option NameFault). or_later j o (first_fault (j + 1) (with_statement y sc) (listed xs))) here ∙ ap (λ (n : ℕ). at_number n g) sum
fault_at (y ∷ xs) (suc i) j sc x g lt is h e =
    let parts = no_first j (reported_fault (faults_in sc y)) (first_fault (j + 1) (with_statement y sc) (first_of i (listed xs))) h in
    let sum : i + (j + 1) ≡ suc i + j = omega arith in
    ap (λ (o : Option NameFault). or_later j o (first_fault (j + 1) (with_statement y sc) (listed xs))) parts.0
    ∙ fault_at xs i (j + 1) (with_statement y sc) x g (omega (arith, lt)) is parts.1 e
    ∙ ap (λ (n : ℕ). at_number n g) sum

fault_told : (n : ℕ) (o : Option NameFault) (f : TypeFault) → option_map (name_fault_in n) o ≡ Some f → (g : NameFault) × (o ≡ Some g) × (f ≡ name_fault_in n g)
fault_told n None f h = let e : None ≡ Some f = h in cc
fault_told n (Some g) f h = let e : Some (name_fault_in n g) ≡ Some f = h in (g, refl, cc)

next_fault : (xs : List (Tree AStmt)) (i : ℕ) (x : Tree AStmt) (sc : Scope) (f : TypeFault) → i < length xs → x ≡ get_or xs i x → first_fault 1 [] (first_of i (listed xs)) ≡ None → sc ≡ scope_after [] (first_of i (listed xs)) →
    option_map (name_fault_in (i + 1)) (reported_fault (faults_in sc x)) ≡ Some f → IsNextFault xs i f
next_fault xs i x sc f lt is clear scope here =
    let t = fault_told (i + 1) (reported_fault (faults_in sc x)) f here in
    record {
      inside = t.0;
      first = fault_at xs i 1 [] x t.0 lt is clear (ap (λ (s : Scope). reported_fault (faults_in s x)) (sym scope) ∙ t.1);
      told = t.2;
    }

-- ---- one more

pub names_next : (xs : List (Tree AStmt)) (i : ℕ) (all all' ms : List Meaning) (x : Tree AStmt) (sc : Scope) → AreNamesOf xs i all → i < length xs → x ≡ get_or xs i x → sc ≡ scope_after [] (first_of i (listed xs)) →
    ms ≡ map meant (names sc x) → reported_fault (faults_in sc x) ≡ None → all' ≡ all ++ ms → AreNamesOf xs (i + 1) all'
names_next xs i all all' ms x sc a lt is scope here faultless e =
    let front = first_next xs i x lt is in
    let these : ms ≡ map meant (names (scope_after [] (first_of i (listed xs))) x) = subst (λ (s : Scope). ms ≡ map meant (names s x)) scope here in
    record {
      all_are = e ∙ ap (λ (l : List Meaning). l ++ ms) a.all_are ∙ ap (λ (l : List Meaning). meanings_of (first_of i (listed xs)) ++ l) these ∙ sym (meanings_more (first_of i (listed xs)) x) ∙ ap meanings_of (sym front);
      faultless = ap (first_fault 1 []) front ∙ fault_last 1 [] (first_of i (listed xs)) x a.faultless (subst (λ (s : Scope). reported_fault (faults_in s x) ≡ None) scope faultless);
    }

pub scope_next : (xs : List (Tree AStmt)) (i : ℕ) (x : Tree AStmt) (sc new : Scope) → i < length xs → x ≡ get_or xs i x → sc ≡ scope_after [] (first_of i (listed xs)) → new ≡ with_statement x sc → new ≡ scope_after [] (first_of (i + 1) (listed xs))
scope_next xs i x sc new lt is scope b =
    b ∙ ap (with_statement x) scope ∙ sym (scope_last [] (first_of i (listed xs)) x) ∙ ap (scope_after []) (sym (first_next xs i x lt is))

-- ---- the end

some_not : (f : TypeFault) → Some f ≡ None → ⊥
some_not f e = cc

same_fault : (f g : TypeFault) → Some f ≡ Some g → f ≡ g
same_fault f g e = cc

below_at_most : (n k : ℕ) → n < k → n ≤ k
below_at_most n k l = omega arith

pub front_here : (xs : List (Tree AStmt)) (i n : ℕ) (all : List Meaning) (x : Tree AStmt) (sc : Scope) (fault : TypeFault) → n ≡ i → AreNamesOf xs i all → i < length xs → x ≡ get_or xs i x → sc ≡ scope_after [] (first_of i (listed xs)) →
    (fault ≢ Memory → option_map (name_fault_in (i + 1)) (reported_fault (faults_in sc x)) ≡ Some fault) → IsFront xs n all (Some fault)
front_here xs i n all x sc fault ni a lt is scope here = subst (λ (k : ℕ). IsFront xs k all (Some fault)) (sym ni) (record {
  names_are = a;
  short = below_at_most i (length xs) lt;
  whole = λ e. absurd (some_not fault e);
  next = λ f same other.
      let e = same_fault fault f same in
      subst (λ (g : TypeFault). IsNextFault xs i g) e (next_fault xs i x sc fault lt is a.faultless scope (here (λ m. other (sym e ∙ m))));
})

none_not : (f : TypeFault) → None ≡ Some f → ⊥
none_not f e = cc

both_ways : (n k : ℕ) → n ≤ k → k ≤ n → n ≡ k
both_ways n k l g = omega arith

pub front_end : (xs : List (Tree AStmt)) (i n : ℕ) (all : List Meaning) → n ≡ i → AreNamesOf xs i all → i ≤ length xs → length xs ≤ i → IsFront xs n all None
front_end xs i n all ni a le ge = subst (λ (k : ℕ). IsFront xs k all None) (sym ni) (record {
  names_are = a;
  short = le;
  whole = λ e. both_ways i (length xs) le ge;
  next = λ f same other. absurd (none_not f same);
})

-- ---- the same over the statements as the program holds them

pub stmt_seen : (xs : List AStatement) (i : ℕ) (x : AStatement) → i < length xs → x ≡ get_or xs i x → view_stmt x ≡ get_or (map view_stmt xs) i (view_stmt x)
stmt_seen xs i x lt is = ap view_stmt is ∙ sym (get_or-map view_stmt xs i x (view_stmt x) lt)

pub below_seen : (xs : List AStatement) (i : ℕ) → i < length xs → i < length (map view_stmt xs)
below_seen xs i lt = let long = length-map xs view_stmt in omega (arith, long, lt)

pub at_most_seen : (xs : List AStatement) (i : ℕ) → i ≤ length xs → i ≤ length (map view_stmt xs)
at_most_seen xs i le = let long = length-map xs view_stmt in omega (arith, long, le)

pub over_seen : (xs : List AStatement) (i : ℕ) → length xs ≤ i → length (map view_stmt xs) ≤ i
over_seen xs i le = let long = length-map xs view_stmt in omega (arith, long, le)
