-- The first statements of a script: their names, their faults and their typings.
use Rattle.std.proofs.Common.{◌≡◌, ◌∙◌, ◌⊎◌, inl, inr, sym, ap, subst, refl, arith, ℕ, zero, suc, ◌<◌, ◌≤◌, ◌+◌, ◌-◌, length, get_or, List, [], ◌∷◌, ◌++◌, map, Option, Some, None, append_assoc, Bool, true, cond, nat_eq, eq-eqb}
use Rattle.std.proofs.lemmas.List.{map-append}
use Rattle.script_grammar.specs.Placed.{IsPlaced}
use Rattle.script_grammar.specs.Spelling.{spell}
use Rattle.script_grammar.specs.Tree.{Tree, AStmt, none, more, Script}
use Rattle.script_grammar.specs.View.{listed}
use Rattle.typing_rules.specs.declared.fault.NameFault.{NameFault}
use Rattle.typing_rules.specs.declared.uses.Target.{Target}
use Rattle.typing_rules.specs.Answers.{IsNameFault, IsTypeClash}
use Rattle.typing_rules.specs.NameFaults.{faults_in, first_fault, name_fault_in, or_later, reported_fault}
use Rattle.typing_rules.specs.Scoping.{Meaning, Name, Scope, meanings_of, meant, names, target_in, used, with_statement}
use Rattle.typing_rules.specs.Scripts.{HasTyping, Targets, statement_count, first_of}
use Rattle.type_steps.specs.Statements.{with_last}
use Rattle.expression_types.specs.Order.{tokens_used}
use Rattle.expression_types.proofs.NamesInOrder.{names_in_order}
use Rattle.type_infer.proofs.Moving.{AllSame, moved_typing, same_left}

-- ---- fewer statements

first_suc : (xs : List (Tree AStmt)) (i : ℕ) (x : Tree AStmt) → i < length xs → x ≡ get_or xs i x → first_of (suc i) (listed xs) ≡ with_last (first_of i (listed xs)) x
first_suc [] i x lt is = absurd (omega arith)
first_suc (y ∷ xs) zero x lt is = ap (λ (z : Tree AStmt). more z none) (sym is)
first_suc (y ∷ xs) (suc i) x lt is = ap (λ (s : Script). more y s) (first_suc xs i x (omega (arith, lt)) is)

pub first_next : (xs : List (Tree AStmt)) (i : ℕ) (x : Tree AStmt) → i < length xs → x ≡ get_or xs i x → first_of (i + 1) (listed xs) ≡ with_last (first_of i (listed xs)) x
first_next xs i x lt is =
    let on : i + 1 ≡ suc i = omega arith in
    ap (λ (n : ℕ). first_of n (listed xs)) on ∙ first_suc xs i x lt is

pub count_listed : (xs : List (Tree AStmt)) → statement_count (listed xs) ≡ length xs
count_listed [] = refl
count_listed (x ∷ xs) = let rest = count_listed xs in omega (arith, rest)

pub first_all : (n : ℕ) (script : Script) → statement_count script ≤ n → first_of n script ≡ script
first_all zero none le = refl
first_all zero (more s rest) le = absurd (omega (arith, le))
first_all (suc n) none le = refl
first_all (suc n) (more s rest) le = ap (λ (r : Script). more s r) (first_all n rest (omega (arith, le)))

pub first_first : (k n : ℕ) (script : Script) → k ≤ n → first_of k (first_of n script) ≡ first_of k script
first_first zero n script le = refl
first_first (suc k) zero script le = absurd (omega (arith, le))
first_first (suc k) (suc n) none le = refl
first_first (suc k) (suc n) (more s rest) le = ap (λ (r : Script). more s r) (first_first k n rest (omega (arith, le)))

pub first_placed : (n i : ℕ) (script : Script) → IsPlaced i script → IsPlaced i (first_of n script)
first_placed zero i script p = tt
first_placed (suc n) i none p = tt
first_placed (suc n) i (more s rest) p = (p.0, first_placed n (i + length (spell s)) rest p.1)

-- ---- their faults

some_not : (x : ℕ × NameFault) → Some x ≡ None → ⊥
some_not x e = cc

pub no_first : (i : ℕ) (o : Option NameFault) (later : Option (ℕ × NameFault)) → or_later i o later ≡ None → (o ≡ None) × (later ≡ None)
no_first i None later h = (refl, h)
no_first i (Some f) later h = absurd (some_not (i, f) h)

pub fewer_faultless : (k n i : ℕ) (sc : Scope) (script : Script) → k ≤ n → first_fault i sc (first_of n script) ≡ None → first_fault i sc (first_of k script) ≡ None
fewer_faultless zero n i sc script le h = refl
fewer_faultless (suc k) zero i sc script le h = absurd (omega (arith, le))
fewer_faultless (suc k) (suc n) i sc none le h = refl
fewer_faultless (suc k) (suc n) i sc (more s rest) le h =
    let parts = no_first i (reported_fault (faults_in sc s)) (first_fault (i + 1) (with_statement s sc) (first_of n rest)) h in
    ap (λ (o : Option NameFault). or_later i o (first_fault (i + 1) (with_statement s sc) (first_of k rest))) parts.0
    ∙ fewer_faultless k n (i + 1) (with_statement s sc) rest (omega (arith, le)) parts.1

-- ---- the tokens of their names

pub used_in_order : (sc : Scope) (script : Script) → tokens_used script ≡ map (λ (n : Name). n.at) (used sc script)
used_in_order sc none = refl
used_in_order sc (more s rest) =
    ap (λ (l : List ℕ). l ++ tokens_used rest) (names_in_order sc s)
    ∙ ap (λ (l : List ℕ). map (λ (n : Name). n.at) (names sc s) ++ l) (used_in_order (with_statement s sc) rest)
    ∙ sym (map-append (λ (n : Name). n.at) (names sc s) (used (with_statement s sc) rest))

pub front_used : (n : ℕ) (sc : Scope) (script : Script) → (ms : List Name) × (used sc script ≡ used sc (first_of n script) ++ ms)
front_used zero sc script = (used sc script, refl)
front_used (suc n) sc none = ([], refl)
front_used (suc n) sc (more s rest) =
    let r = front_used n (with_statement s sc) rest in
    (r.0, ap (λ (ms : List Name). names sc s ++ ms) r.1 ∙ sym (append_assoc (names sc s) (used (with_statement s sc) (first_of n rest)) r.0))

front_tokens : (k : ℕ) (script : Script) → (l : List ℕ) × (tokens_used script ≡ tokens_used (first_of k script) ++ l)
front_tokens zero script = (tokens_used script, refl)
front_tokens (suc k) none = ([], refl)
front_tokens (suc k) (more s rest) =
    let r = front_tokens k rest in
    (r.0, ap (λ (l : List ℕ). tokens_used s ++ l) r.1 ∙ sym (append_assoc (tokens_used s) (tokens_used (first_of k rest)) r.0))

-- what is found by a token among the first names is found among more of them
abbrev Occurs : ℕ → List Meaning → Type 0
Occurs at [] = ⊥
Occurs at (m ∷ ms) = (m.0 ≡ at) ⊎ Occurs at ms

found_first : (at : ℕ) (ms rest : List Meaning) → Occurs at ms → target_in (ms ++ rest) at ≡ target_in ms at
found_first at [] rest o = absurd o
found_first at (m ∷ ms) rest (inl e) =
    let same : nat_eq m.0 at ≡ true = eq-eqb m.0 at e in
    ap (λ (b : Bool). cond b m.1 (target_in (ms ++ rest) at)) same ∙ sym (ap (λ (b : Bool). cond b m.1 (target_in ms at)) same)
found_first at (m ∷ ms) rest (inr o) = ap (λ (t : Option Target). cond (nat_eq m.0 at) m.1 t) (found_first at ms rest o)

all_found : (all rest : List Meaning) (ns : List Name) → ((at : ℕ) → Occurs at (map meant ns) → Occurs at all) → AllSame (target_in (all ++ rest)) (target_in all) (map (λ (n : Name). n.at) ns)
all_found all rest [] in_all = tt
all_found all rest (n ∷ ns) in_all = (found_first n.at all rest (in_all n.at (inl refl)), all_found all rest ns (λ at o. in_all at (inr o)))

-- the targets of all names and those of the first statements are the same at the tokens of these
front_same : (k n : ℕ) (script : Script) → k ≤ n → AllSame (target_in (meanings_of script)) (target_in (meanings_of (first_of n script))) (tokens_used (first_of k script))
front_same k n script le =
    let front = first_of n script in
    let more_names = front_used n [] script in
    let all = meanings_of front in
    let parts : meanings_of script ≡ all ++ map meant more_names.0 = ap (map meant) more_names.1 ∙ map-append meant (used [] front) more_names.0 in
    let same : AllSame (target_in (all ++ map meant more_names.0)) (target_in all) (map (λ (m : Name). m.at) (used [] front)) = all_found all (map meant more_names.0) (used [] front) (λ at o. o) in
    let whole : AllSame (target_in (all ++ map meant more_names.0)) (target_in all) (tokens_used front) = subst (λ (l : List ℕ). AllSame (target_in (all ++ map meant more_names.0)) (target_in all) l) (sym (used_in_order [] front)) same in
    let split = front_tokens k front in
    let fewer : AllSame (target_in (all ++ map meant more_names.0)) (target_in all) (tokens_used (first_of k front)) = same_left (target_in (all ++ map meant more_names.0)) (target_in all) (tokens_used (first_of k front)) split.0 (subst (λ (l : List ℕ). AllSame (target_in (all ++ map meant more_names.0)) (target_in all) l) split.1 whole) in
    let here : AllSame (target_in (all ++ map meant more_names.0)) (target_in all) (tokens_used (first_of k script)) = subst (λ (s : Script). AllSame (target_in (all ++ map meant more_names.0)) (target_in all) (tokens_used s)) (first_first k n script le) fewer in
    subst (λ (l : List Meaning). AllSame (target_in l) (target_in all) (tokens_used (first_of k script))) (sym parts) here

other_way : (ts us : Targets) (l : List ℕ) → AllSame ts us l → AllSame us ts l
other_way ts us [] h = tt
other_way ts us (at ∷ l) h = (sym h.0, other_way ts us l h.1)

pub typing_in_front : (k n : ℕ) (script : Script) → k ≤ n → HasTyping (target_in (meanings_of script)) (first_of k script) → HasTyping (target_in (meanings_of (first_of n script))) (first_of k script)
typing_in_front k n script le h = moved_typing (target_in (meanings_of script)) (target_in (meanings_of (first_of n script))) (first_of k script) (front_same k n script le) h

pub typing_in_script : (k n : ℕ) (script : Script) → k ≤ n → HasTyping (target_in (meanings_of (first_of n script))) (first_of k script) → HasTyping (target_in (meanings_of script)) (first_of k script)
typing_in_script k n script le h =
    let targets = target_in (meanings_of script) in
    let front = target_in (meanings_of (first_of n script)) in
    moved_typing front targets (first_of k script) (other_way targets front (tokens_used (first_of k script)) (front_same k n script le)) h

-- ---- the answers

pub fault_behind_front : (n : ℕ) (script : Script) (f : NameFault) → first_fault 1 [] script ≡ Some (n + 1, f) → HasTyping (target_in (meanings_of (first_of n script))) (first_of n script) → IsNameFault script (name_fault_in (n + 1) f)
fault_behind_front n script f first typing =
    let same : n ≡ n + 1 - 1 = omega arith in
    let le : n ≤ n = omega arith in
    record {
      stmt = n + 1;
      inside = f;
      first = first;
      told = refl;
      before = subst (λ (k : ℕ). HasTyping (target_in (meanings_of script)) (first_of k script)) same (typing_in_script n n script le typing);
    }

pub clash_in_front : (k n : ℕ) (script : Script) → first_fault 1 [] (first_of n script) ≡ None → 0 < k → k ≤ n → n ≤ statement_count script →
    HasTyping (target_in (meanings_of (first_of n script))) (first_of (k - 1) script) → (HasTyping (target_in (meanings_of (first_of n script))) (first_of k script) → ⊥) → IsTypeClash script k
clash_in_front k n script faultless first last short before none_there =
    let le : k - 1 ≤ n = omega (arith, last) in
    let few : k ≤ statement_count script = omega (arith, last, short) in
    record {
      names = fewer_faultless k n 1 [] script last faultless;
      clash = record {
        first = first;
        last = few;
        before = typing_in_script (k - 1) n script le before;
        none = λ h. none_there (typing_in_front k n script last h);
      };
    }
