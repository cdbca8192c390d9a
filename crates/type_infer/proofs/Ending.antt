-- The answer for a whole script.
use Rattle.std.proofs.Common.{◌≡◌, ◌≢◌, ◌∙◌, sym, ap, subst, arith, ℕ, ◌<◌, ◌≤◌, ◌+◌, ◌-◌, length, get_or, List, [], map, Option, Some, None, Bool, true, false}
use Rattle.std.proofs.lemmas.List.{length-map}
use Rattle.script_grammar.specs.Placed.{IsPlaced}
use Rattle.script_grammar.specs.Tree.{Tree, AStmt, Script, Stmt}
use Rattle.script_grammar.specs.View.{listed, view_part, view_stmt}
use Rattle.script_grammar.specs.declared.tree.Stmt.{Stmt as AStatement}
use Rattle.typing_rules.specs.Answers.{IsNameFault, IsTypeFault, IsTyped}
use Rattle.typing_rules.specs.declared.fault.NameFault.{NameFault}
use Rattle.typing_rules.specs.declared.fault.NameFault.TheVariants as name
use Rattle.typing_rules.specs.declared.fault.TypeFault.{TypeFault}
use Rattle.typing_rules.specs.declared.fault.TypeFault.TheVariants as fault
use Rattle.typing_rules.specs.declared.uses.Use.{Use}
use Rattle.typing_rules.specs.Kinds.{read}
use Rattle.typing_rules.specs.NameFaults.{first_fault, name_fault_in}
use Rattle.typing_rules.specs.Scoping.{Meaning, meanings_of, meant, names, target_in}
use Rattle.typing_rules.specs.Scripts.{HasTyping, Targets, statement_count, first_of}
use Rattle.type_steps.specs.Environment.{entries_under}
use Rattle.type_steps.specs.Statements.{AreTypings, HasNoTypings, known_of, scope_after, uses_under}
use Rattle.type_steps.proofs.Readings.{dones_are_read}
use Rattle.type_steps.proofs.Typed.{typed_by_defaults}
use Rattle.type_steps.proofs.Wholes.{whole_in}
use Rattle.type_infer.specs.Clashes.{IsClashAt, IsClashIn}
use Rattle.type_infer.specs.Fronts.{IsFront}
use Rattle.type_infer.specs.Matches.{AreAimed}
use Rattle.type_infer.specs.States.{AreDefaultUses, IsAfter, IsNext, IsStepped, IsTypedSo, dones}
use Rattle.type_infer.specs.Turns.{IsTurned}
use Rattle.type_infer.specs.declared.steps.Typing.{Typing}
use Rattle.type_infer.proofs.Fronting.{below_seen, stmt_seen}
use Rattle.type_infer.proofs.Fronts.{clash_in_front, count_listed, fault_behind_front, first_all, first_next, first_placed}
use Rattle.type_infer.proofs.Naming.{statement_aimed}

-- statements that were typed have a typing
pub has_typing : (targets : Targets) (script : Script) (t : Typing) → IsTypedSo targets script t → HasTyping targets script
has_typing targets script t so =
    let a = so.typings.some in
    let uses = uses_under a.0 (dones t) in
    let taken = dones_are_read [] uses a.0 [] (dones t) tt so.whole.counted (whole_in a.0 script (dones t) so.whole) in
    (read [] uses, entries_under a.0 (known_of (dones t)), so.typings.sound a.0 a.1 (read [] uses) taken)

below : (i m n k : ℕ) → i < m → m ≤ n → n ≡ k → i < k
below i m n k l e s = omega arith

pub inside : (xs : List AStatement) (n : ℕ) (all : List Meaning) (o : Option TypeFault) (i : ℕ) → IsFront (map view_stmt xs) n all o → i < n → i < length xs
inside xs n all o i f lt =
    below i n (length (map view_stmt xs)) (length xs) lt f.short (length-map xs view_stmt)

pub is_next : (xs : List AStatement) (n : ℕ) (all : List Meaning) (o : Option TypeFault) (i : ℕ) (x : AStatement) → IsFront (map view_stmt xs) n all o → i < n → x ≡ get_or xs i x → IsPlaced 0 (listed (map view_stmt xs)) →
    IsNext (target_in all) (first_of i (listed (map view_stmt xs))) (Stmt (view_part x.part) x.semicolon)
is_next xs n all o i x f lt xis placed =
    let within = below_seen xs i (inside xs n all o i f lt) in
    let seen = stmt_seen xs i x (inside xs n all o i f lt) xis in
    let means = statement_aimed n (map view_stmt xs) i (view_stmt x) placed lt within seen in
    record {
      aimed = subst (λ (ms : List Meaning). AreAimed (target_in ms) (map meant (names (scope_after [] (first_of i (listed (map view_stmt xs)))) (view_stmt x)))) (sym f.names_are.all_are) means;
      placed = subst (IsPlaced 0) (first_next (map view_stmt xs) i (view_stmt x) within seen) (first_placed (i + 1) 0 (listed (map view_stmt xs)) placed);
    }

stepped : (xs : List AStatement) (n : ℕ) (all : List Meaning) (o : Option TypeFault) (i : ℕ) (x : AStatement) (old new : Typing) → IsFront (map view_stmt xs) n all o → i < n → x ≡ get_or xs i x → IsPlaced 0 (listed (map view_stmt xs)) →
    IsTypedSo (target_in all) (first_of i (listed (map view_stmt xs))) old → IsStepped (target_in all) (view_part x.part) old new true → IsAfter (target_in all) (first_of (i + 1) (listed (map view_stmt xs))) new
stepped xs n all o i x old new f lt xis placed so step =
    let within = inside xs n all o i f lt in
    let front = first_next (map view_stmt xs) i (view_stmt x) (below_seen xs i within) (stmt_seen xs i x within xis) in
    subst (λ (s : Script). IsAfter (target_in all) s new) (sym front) (step (first_of i (listed (map view_stmt xs))) x.semicolon so (is_next xs n all o i x f lt xis placed))

stopped : (targets : Targets) (xs : List AStatement) (n : ℕ) (all : List Meaning) (o : Option TypeFault) (i : ℕ) (x : AStatement) (old new : Typing) → IsFront (map view_stmt xs) n all o → i < n → x ≡ get_or xs i x →
    IsTypedSo targets (first_of i (listed (map view_stmt xs))) old → IsStepped targets (view_part x.part) old new false → IsClashAt targets (listed (map view_stmt xs)) n (i + 1)
stopped targets xs n all o i x old new f lt xis so step =
    let within = inside xs n all o i f lt in
    let front = first_next (map view_stmt xs) i (view_stmt x) (below_seen xs i within) (stmt_seen xs i x within xis) in
    let one : i ≡ i + 1 - 1 = omega arith in
    record {
      first = omega arith;
      last = omega (arith, lt);
      before = subst (λ (k : ℕ). HasTyping targets (first_of k (listed (map view_stmt xs)))) one (has_typing targets (first_of i (listed (map view_stmt xs))) old so);
      none = subst (λ (s : Script). HasNoTypings targets s) (sym front) (step (first_of i (listed (map view_stmt xs))) x.semicolon so);
    }

pub turned : (xs : List AStatement) (n : ℕ) (all : List Meaning) (o : Option TypeFault) (i : ℕ) (x : AStatement) (old new : Typing) (yes : Bool) → IsFront (map view_stmt xs) n all o → i < n → x ≡ get_or xs i x → IsPlaced 0 (listed (map view_stmt xs)) →
    IsTypedSo (target_in all) (first_of i (listed (map view_stmt xs))) old → IsStepped (target_in all) (view_part x.part) old new yes → IsTurned (target_in all) (listed (map view_stmt xs)) n i new yes
turned xs n all o i x old new true f lt xis placed so step = stepped xs n all o i x old new f lt xis placed so step
turned xs n all o i x old new false f lt xis placed so step = stopped (target_in all) xs n all o i x old new f lt xis so step

-- ---- the answers

pub memory_clash : (targets : Targets) (script : Script) (n : ℕ) (f : TypeFault) → f ≡ fault.Memory → IsClashIn targets script n f
memory_clash targets script n f e = subst (λ (g : TypeFault). IsClashIn targets script n g) (sym e) tt

count_at_most : (xs : List (Tree AStmt)) (n : ℕ) → n ≡ length xs → statement_count (listed xs) ≤ n
count_at_most xs n e = let c = count_listed xs in omega (arith, c, e)

targets_are : (all ms : List Meaning) → all ≡ ms → target_in all ≡ target_in ms
targets_are all ms e = ap (λ (l : List Meaning). target_in l) e

pub typed_answer : (xs : List (Tree AStmt)) (n : ℕ) (all : List Meaning) (o : Option TypeFault) (t : Typing) (uses : List Use) → IsFront xs n all o → IsTypedSo (target_in all) (first_of n (listed xs)) t → AreDefaultUses t o uses → IsTyped (listed xs) uses
typed_answer xs n all o t uses f so d =
    let whole : first_of n (listed xs) ≡ listed xs = first_all n (listed xs) (count_at_most xs n (f.whole d.faultless)) in
    let here : IsTypedSo (target_in all) (listed xs) t = subst (λ (s : Script). IsTypedSo (target_in all) s t) whole so in
    let meanings : all ≡ meanings_of (listed xs) = f.names_are.all_are ∙ ap meanings_of whole in
    let typings : AreTypings t.subst (target_in (meanings_of (listed xs))) (listed xs) (dones t) = subst (λ (x : Targets). AreTypings t.subst x (listed xs) (dones t)) (targets_are all (meanings_of (listed xs)) meanings) here.typings in
    let none : first_fault 1 [] (listed xs) ≡ None = ap (first_fault 1 []) (sym whole) ∙ f.names_are.faultless in
    subst (λ (us : List Use). IsTyped (listed xs) us) (sym d.uses_are) (typed_by_defaults t.subst (listed xs) (dones t) here.whole typings d.default none)

clash_answer : (xs : List (Tree AStmt)) (n : ℕ) (all : List Meaning) (o : Option TypeFault) (k : ℕ) → IsFront xs n all o → IsClashAt (target_in all) (listed xs) n k → IsTypeFault (listed xs) (fault.TypeClash k)
clash_answer xs n all o k f c =
    let targets = targets_are all (meanings_of (first_of n (listed xs))) f.names_are.all_are in
    let long = count_listed xs in
    clash_in_front k n (listed xs) f.names_are.faultless c.first c.last (short n (length xs) (statement_count (listed xs)) f.short long)
    (subst (λ (x : Targets). HasTyping x (first_of (k - 1) (listed xs))) targets c.before)
    (λ h. c.none (subst (λ (x : Targets). HasTyping x (first_of k (listed xs))) (sym targets) h).0 (subst (λ (x : Targets). HasTyping x (first_of k (listed xs))) (sym targets) h).1 (subst (λ (x : Targets). HasTyping x (first_of k (listed xs))) (sym targets) h).2) where
      short : (m n i : ℕ) → m ≤ n → i ≡ n → m ≤ i
      short m n i l e = omega arith

pub early_answer : (xs : List (Tree AStmt)) (n : ℕ) (all : List Meaning) (o : Option TypeFault) (g : TypeFault) → IsFront xs n all o → IsClashIn (target_in all) (listed xs) n g → IsTypeFault (listed xs) g
early_answer xs n all o (fault.TypeClash k) f c = clash_answer xs n all o k f c
early_answer xs n all o fault.Memory f c = tt
early_answer xs n all o (fault.UnknownName k at) f c = absurd c
early_answer xs n all o (fault.MissingArgument k at label) f c = absurd c
early_answer xs n all o (fault.ExtraArgument k at) f c = absurd c
early_answer xs n all o (fault.RepeatedName k at) f c = absurd c

name_answer : (xs : List (Tree AStmt)) (n : ℕ) (all : List Meaning) (o : Option TypeFault) (t : Typing) (g : TypeFault) → IsFront xs n all o → IsTypedSo (target_in all) (first_of n (listed xs)) t → o ≡ Some g → g ≢ fault.Memory → IsNameFault (listed xs) g
name_answer xs n all o t g f so is other =
    let next = f.next g is other in
    let typing : HasTyping (target_in (meanings_of (first_of n (listed xs)))) (first_of n (listed xs)) = subst (λ (x : Targets). HasTyping x (first_of n (listed xs))) (targets_are all (meanings_of (first_of n (listed xs))) f.names_are.all_are) (has_typing (target_in all) (first_of n (listed xs)) t so) in
    subst (λ (h : TypeFault). IsNameFault (listed xs) h) (sym next.told) (fault_behind_front n (listed xs) next.inside next.first typing)

no_clash : (k n : ℕ) (h : NameFault) → fault.TypeClash k ≡ name_fault_in n h → ⊥
no_clash k n (name.Unknown at) e = cc
no_clash k n (name.Missing at label) e = cc
no_clash k n (name.Extra at) e = cc
no_clash k n (name.Repeated at) e = cc

pub late_answer : (xs : List (Tree AStmt)) (n : ℕ) (all : List Meaning) (o : Option TypeFault) (t : Typing) (g : TypeFault) → IsFront xs n all o → IsTypedSo (target_in all) (first_of n (listed xs)) t → (g ≢ fault.Memory → o ≡ Some g) → IsTypeFault (listed xs) g
late_answer xs n all o t (fault.TypeClash k) f so is =
    let other : fault.TypeClash k ≢ fault.Memory = λ e. cc in
    let next = f.next (fault.TypeClash k) (is other) other in
    absurd (no_clash k (n + 1) next.inside next.told)
late_answer xs n all o t fault.Memory f so is = tt
late_answer xs n all o t (fault.UnknownName k at) f so is = let other : fault.UnknownName k at ≢ fault.Memory = λ e. cc in name_answer xs n all o t (fault.UnknownName k at) f so (is other) other
late_answer xs n all o t (fault.MissingArgument k at label) f so is = let other : fault.MissingArgument k at label ≢ fault.Memory = λ e. cc in name_answer xs n all o t (fault.MissingArgument k at label) f so (is other) other
late_answer xs n all o t (fault.ExtraArgument k at) f so is = let other : fault.ExtraArgument k at ≢ fault.Memory = λ e. cc in name_answer xs n all o t (fault.ExtraArgument k at) f so (is other) other
late_answer xs n all o t (fault.RepeatedName k at) f so is = let other : fault.RepeatedName k at ≢ fault.Memory = λ e. cc in name_answer xs n all o t (fault.RepeatedName k at) f so (is other) other
