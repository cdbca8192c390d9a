-- A script has at most one fault beside want of memory.
use Rattle.std.proofs.Common.{◌≡◌, ◌⊎◌, inl, inr, refl, sym, ap, ◌∙◌, ℕ, zero, suc, ◌+◌, ◌-◌, ◌<◌, ◌≤◌, List, [], ◌∷◌, Option, Some, None, arith}
use Rattle.script_grammar.specs.Tree.{none, more, Stmt, BindPart, DefPart, CallPart, IfPart, Bind, Script}
use Rattle.typing_rules.specs.declared.fault.TypeFault.{TypeFault}
use Rattle.typing_rules.specs.declared.fault.TypeFault.TheVariants as fault
use Rattle.typing_rules.specs.Scoping.{Scope, target_in, meanings_of, with_statement}
use Rattle.typing_rules.specs.declared.fault.NameFault.{NameFault}
use Rattle.typing_rules.specs.NameFaults.{first_fault, or_later, reported_fault, faults_in, name_fault_in}
use Rattle.typing_rules.specs.Scripts.{Entry, value, function, Targets, Places, HasTyping, IsTypedTo, IsClash, first_of}
use Rattle.typing_rules.specs.Answers.{IsTypeFault, IsNameFault, IsTypeClash}

-- fewer statements have a typing too
shorter : (n k : ℕ) (ts : Targets) (kinds : Places) (script : Script) (es fs : List Entry) → n ≤ k → IsTypedTo ts kinds es (first_of k script) fs → (gs : List Entry) × IsTypedTo ts kinds es (first_of n script) gs
shorter zero k ts kinds script es fs le h = (es, refl)
shorter (suc n) zero ts kinds script es fs le h = absurd (omega (arith, le))
shorter (suc n) (suc k) ts kinds none es fs le h = (es, refl)
shorter (suc n) (suc k) ts kinds (more (Stmt (BindPart (Bind at name f)) semicolon) rest) es fs le h =
    let later = shorter n k ts kinds rest (value at h.0 ∷ es) fs (omega (arith, le)) h.2 in
    (later.0, (h.0, h.1, later.1))
shorter (suc n) (suc k) ts kinds (more (Stmt (DefPart d) semicolon) rest) es fs le h =
    let later = shorter n k ts kinds rest (function d ∷ es) fs (omega (arith, le)) h.1 in
    (later.0, (h.0, later.1))
shorter (suc n) (suc k) ts kinds (more (Stmt (CallPart c) semicolon) rest) es fs le h =
    let later = shorter n k ts kinds rest es fs (omega (arith, le)) h.1 in
    (later.0, (h.0, later.1))
shorter (suc n) (suc k) ts kinds (more (Stmt (IfPart i) semicolon) rest) es fs le h =
    let later = shorter n k ts kinds rest es fs (omega (arith, le)) h.1 in
    (later.0, (h.0, later.1))

pub shorter_typing : (n k : ℕ) (ts : Targets) (script : Script) → n ≤ k → HasTyping ts (first_of k script) → HasTyping ts (first_of n script)
shorter_typing n k ts script le h =
    let s = shorter n k ts h.0 script [] h.1 le h.2 in
    (h.0, s.0, s.1)

-- a fault of names is not before where the statements begin
at_least_by : (i : ℕ) (o : Option NameFault) (later : Option (ℕ × NameFault)) (x : ℕ × NameFault) → (later ≡ Some x → i + 1 ≤ x.0) → or_later i o later ≡ Some x → i ≤ x.0
at_least_by i None later x rest h = omega (arith, rest h)
at_least_by i (Some f) later x rest h =
    let same : (i, f) ≡ x = cc in
    let first : i ≡ x.0 = ap (λ (y : ℕ × NameFault). y.0) same in omega (arith, first)

at_least : (i : ℕ) (sc : Scope) (script : Script) (x : ℕ × NameFault) → first_fault i sc script ≡ Some x → i ≤ x.0
at_least i sc none x h = cc
at_least i sc (more s rest) x h = at_least_by i (reported_fault (faults_in sc s)) (first_fault (i + 1) (with_statement s sc) rest) x (λ e. at_least (i + 1) (with_statement s sc) rest x e) h

late_by : (i n : ℕ) (o : Option NameFault) (later front : Option (ℕ × NameFault)) (x : ℕ × NameFault) → (later ≡ Some x → front ≡ None → i + 1 + n ≤ x.0) → or_later i o later ≡ Some x → or_later i o front ≡ None → i + suc n ≤ x.0
late_by i n None later front x rest h none_there = omega (arith, rest h none_there)
late_by i n (Some f) later front x rest h none_there = let e : Some (i, f) ≡ None = none_there in cc

-- where the first statements have none, it is behind them
late : (n i : ℕ) (sc : Scope) (script : Script) (x : ℕ × NameFault) → first_fault i sc script ≡ Some x → first_fault i sc (first_of n script) ≡ None → i + n ≤ x.0
late zero i sc script x h empty = omega (arith, at_least i sc script x h)
late (suc n) i sc none x h empty = cc
late (suc n) i sc (more s rest) x h empty =
    late_by i n (reported_fault (faults_in sc s)) (first_fault (i + 1) (with_statement s sc) rest) (first_fault (i + 1) (with_statement s sc) (first_of n rest)) x (λ e f. late n (i + 1) (with_statement s sc) rest x e f) h empty

not_both : (script : Script) (f : TypeFault) (n : ℕ) → IsNameFault script f → IsTypeClash script n → ⊥
not_both script f n h c =
    let behind = late n 1 [] script (h.stmt, h.inside) h.first c.names in
    c.clash.none (shorter_typing n (h.stmt - 1) (target_in (meanings_of script)) script (omega (arith, behind)) h.before)

same_name_fault : (script : Script) (f g : TypeFault) → IsNameFault script f → IsNameFault script g → f ≡ g
same_name_fault script f g h k =
    let both : Some (h.stmt, h.inside) ≡ Some (k.stmt, k.inside) = sym h.first ∙ k.first in
    let same : (h.stmt, h.inside) ≡ (k.stmt, k.inside) = cc in
    h.told ∙ ap (λ (y : ℕ × NameFault). name_fault_in y.0 y.1) same ∙ sym k.told

not_before : (script : Script) (n m : ℕ) → IsClash script n → IsClash script m → n < m → ⊥
not_before script n m h k lt = h.none (shorter_typing n (m - 1) (target_in (meanings_of script)) script (omega (arith, lt)) k.before)

same_clash : (script : Script) (n m : ℕ) → IsClash script n → IsClash script m → n ≡ m
same_clash script n m h k = omega (arith, (λ (lt : n < m). not_before script n m h k lt), (λ (lt : m < n). not_before script m n k h lt))

-- a fault is want of memory, one of names, or a clash
classified : (script : Script) (f : TypeFault) → IsTypeFault script f → (f ≡ fault.Memory) ⊎ (IsNameFault script f ⊎ ((n : ℕ) × (f ≡ fault.TypeClash n) × IsTypeClash script n))
classified script (fault.UnknownName n at) h = inr (inl h)
classified script (fault.MissingArgument n at label) h = inr (inl h)
classified script (fault.ExtraArgument n at) h = inr (inl h)
classified script (fault.RepeatedName n at) h = inr (inl h)
classified script (fault.TypeClash n) h = inr (inr (n, refl, h))
classified script fault.Memory h = inl refl

same_of : (script : Script) (f g : TypeFault) → (IsNameFault script f ⊎ ((n : ℕ) × (f ≡ fault.TypeClash n) × IsTypeClash script n)) → (IsNameFault script g ⊎ ((n : ℕ) × (g ≡ fault.TypeClash n) × IsTypeClash script n)) → f ≡ g
same_of script f g (inl h) (inl k) = same_name_fault script f g h k
same_of script f g (inl h) (inr k) = absurd (not_both script f k.0 h k.2)
same_of script f g (inr h) (inl k) = absurd (not_both script g h.0 k h.2)
same_of script f g (inr h) (inr k) = h.1 ∙ ap (λ n. fault.TypeClash n) (same_clash script h.0 k.0 h.2.clash k.2.clash) ∙ sym k.1

pub one_fault : (script : Script) (f g : TypeFault) → IsTypeFault script f → IsTypeFault script g → (f ≡ fault.Memory) ⊎ ((g ≡ fault.Memory) ⊎ (f ≡ g))
one_fault script f g h k = by_both (classified script f h) (classified script g k) where
  by_both : (f ≡ fault.Memory) ⊎ (IsNameFault script f ⊎ ((n : ℕ) × (f ≡ fault.TypeClash n) × IsTypeClash script n)) → (g ≡ fault.Memory) ⊎ (IsNameFault script g ⊎ ((n : ℕ) × (g ≡ fault.TypeClash n) × IsTypeClash script n)) → (f ≡ fault.Memory) ⊎ ((g ≡ fault.Memory) ⊎ (f ≡ g))
  by_both (inl e) y = inl e
  by_both (inr x) (inl e) = inr (inl e)
  by_both (inr x) (inr y) = inr (inr (same_of script f g x y))
