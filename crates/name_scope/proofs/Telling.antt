-- The fault that is kept pair by pair is the one that is told of all; and what is known of statements without a fault.
use Rattle.std.proofs.Common.{◌≡◌, ◌≤◌, ◌<◌, ◌+◌, ◌*◌, ◌≢◌, ◌⊎◌, ℕ, List, [], ◌∷◌, ◌++◌, Option, Some, None, Bool, true, false, cond, nat_eq, nat_le, refl, sym, ap, ◌∙◌, append_assoc, map, arith, inl, inr}
use Rattle.std.proofs.lemmas.List.{append-nil}
use Rattle.std.proofs.lemmas.Bool.Decides.{eqb_tells, leb_tells}
use Rattle.script_grammar.specs.Tree.{Tree, APart, AStmt, BindPart, DefPart, CallPart, IfPart, Def, Stmt}
use Rattle.typing_rules.specs.declared.fault.NameFault.{NameFault}
use Rattle.typing_rules.specs.declared.fault.NameFault.TheVariants.{Unknown, Missing, Extra, Repeated}
use Rattle.typing_rules.specs.declared.uses.Target.{Target}
use Rattle.typing_rules.specs.Arguments.{Parameter, GivenArgument}
use Rattle.typing_rules.specs.NameFaults.{all_faults, earlier, faults_as, faults_in, is_before, number, repeats, repeats_in, token, reported_fault}
use Rattle.typing_rules.specs.Scoping.{Meaning, Name, Scope, meant, names, target_of}
use Rattle.name_scope.specs.Noted.{Noted, all_sooner, known, meaning_at, sooner, with_name, with_names, with_part, with_repeats, with_statement_names}

-- ---- the order of faults is that of one number for each

abbrev key : NameFault → ℕ
key f = token f * 5 + number f

number_low : (f : NameFault) → 1 ≤ number f
number_low (Unknown at) = omega arith
number_low (Missing at label) = omega arith
number_low (Extra at) = omega arith
number_low (Repeated at) = omega arith

number_high : (f : NameFault) → number f ≤ 4
number_high (Unknown at) = omega arith
number_high (Missing at label) = omega arith
number_high (Extra at) = omega arith
number_high (Repeated at) = omega arith

by_key : (t u n m : ℕ) → 1 ≤ n → n ≤ 4 → 1 ≤ m → m ≤ 4 → ((cond (nat_eq t u) (nat_le n m) (nat_le t u) ≡ true) × (t * 5 + n ≤ u * 5 + m)) ⊎ ((cond (nat_eq t u) (nat_le n m) (nat_le t u) ≡ false) × (u * 5 + m < t * 5 + n))
by_key t u n m nl nh ml mh = elim (eqb_tells t u) [
  | inl x ↦ let same : t ≡ u = x.1 in elim (leb_tells n m) [
    | inl y ↦ let le : n ≤ m = y.1 in let order : t * 5 + n ≤ u * 5 + m = omega arith in inl (ap (λ b. cond b (nat_le n m) (nat_le t u)) x.0 ∙ y.0, order)
    | inr y ↦ let lt : m < n = y.1 in let order : u * 5 + m < t * 5 + n = omega arith in inr (ap (λ b. cond b (nat_le n m) (nat_le t u)) x.0 ∙ y.0, order)
  ]
  | inr x ↦ let other : t ≢ u = x.1 in elim (leb_tells t u) [
    | inl y ↦ let le : t ≤ u = y.1 in let order : t * 5 + n ≤ u * 5 + m = omega arith in inl (ap (λ b. cond b (nat_le n m) (nat_le t u)) x.0 ∙ y.0, order)
    | inr y ↦ let lt : u < t = y.1 in let order : u * 5 + m < t * 5 + n = omega arith in inr (ap (λ b. cond b (nat_le n m) (nat_le t u)) x.0 ∙ y.0, order)
  ]
]

before_tells : (f g : NameFault) → ((is_before f g ≡ true) × (key f ≤ key g)) ⊎ ((is_before f g ≡ false) × (key g < key f))
before_tells f g = by_key (token f) (token g) (number f) (number g) (number_low f) (number_high f) (number_low g) (number_high g)

before_is : (f g h : NameFault) → key f ≤ key g → key g ≤ key h → is_before f h ≡ true
before_is f g h a b = elim (before_tells f h) [ inl x ↦ x.0 | inr x ↦ let over : key h < key f = x.1 in absurd (omega (arith, a, b, over)) ]

before_not : (f g h : NameFault) → key g < key f → key h < key g → is_before f h ≡ false
before_not f g h a b = elim (before_tells f h) [ inl x ↦ let under : key f ≤ key h = x.1 in absurd (omega (arith, a, b, under)) | inr x ↦ x.0 ]

-- the first of three, from either side
abbrev from_left : Bool → NameFault → NameFault → NameFault → NameFault
from_left b g f h = cond (is_before (cond b g f) h) (cond b g f) h

abbrev from_right : Bool → NameFault → NameFault → NameFault → NameFault
from_right b g f h = cond (is_before g (cond b f h)) g (cond b f h)

of_three : (g f h : NameFault) → from_left (is_before g f) g f h ≡ from_right (is_before f h) g f h
of_three g f h = elim (before_tells g f) [
  | inl x ↦ elim (before_tells f h) [
    | inl y ↦
        ap (λ b. from_left b g f h) x.0 ∙ ap (λ b. cond b g h) (before_is g f h x.1 y.1)
        ∙ sym (ap (λ b. from_right b g f h) y.0 ∙ ap (λ b. cond b g f) x.0)
    | inr y ↦
        ap (λ b. from_left b g f h) x.0 ∙ sym (ap (λ b. from_right b g f h) y.0)
  ]
  | inr x ↦ elim (before_tells f h) [
    | inl y ↦
        ap (λ b. from_left b g f h) x.0 ∙ ap (λ b. cond b f h) y.0
        ∙ sym (ap (λ b. from_right b g f h) y.0 ∙ ap (λ b. cond b g f) x.0)
    | inr y ↦
        ap (λ b. from_left b g f h) x.0 ∙ ap (λ b. cond b f h) y.0
        ∙ sym (ap (λ b. from_right b g f h) y.0 ∙ ap (λ b. cond b g h) (before_not g f h x.1 y.1))
  ]
]

some_cond : (b : Bool) (g f : NameFault) → cond b (Some g) (Some f) ≡ Some (cond b g f)
some_cond true g f = refl
some_cond false g f = refl

three_told : (g f : NameFault) (o : Option NameFault) → earlier (cond (is_before g f) g f) o ≡ earlier g (Some (earlier f o))
three_told g f None = refl
three_told g f (Some h) = of_three g f h

kept_is_told : (g : NameFault) (fs : List NameFault) → all_sooner (Some g) fs ≡ Some (earlier g (reported_fault fs))
kept_is_told g [] = refl
kept_is_told g (f ∷ fs) =
    ap (λ (o : Option NameFault). all_sooner o fs) (some_cond (is_before g f) g f)
    ∙ kept_is_told (cond (is_before g f) g f) fs
    ∙ ap (λ (x : NameFault). Some x) (three_told g f (reported_fault fs))

pub sooner_is_told : (fs : List NameFault) → all_sooner None fs ≡ reported_fault fs
sooner_is_told [] = refl
sooner_is_told (f ∷ fs) = kept_is_told f fs

-- ---- the names of a statement

pub sooner_more : (o : Option NameFault) (fs gs : List NameFault) → all_sooner (all_sooner o fs) gs ≡ all_sooner o (fs ++ gs)
sooner_more o [] gs = refl
sooner_more o (f ∷ fs) gs = sooner_more (sooner o f) fs gs

abbrev noted_as : List Meaning → Option NameFault → Noted
noted_as l o = record { found = l; fault = o }

noted_by : (a b : List Meaning) (o p : Option NameFault) → a ≡ b → o ≡ p → noted_as a o ≡ noted_as b p
noted_by a b o p e f = ap (λ (l : List Meaning). noted_as l o) e ∙ ap (noted_as b) f

abbrev all_noted : Noted → List Name → Noted
all_noted n xs = noted_as (n.found ++ known xs) (all_sooner n.fault (all_faults xs))

all_noted_is : (n : Noted) (xs : List Name) → with_names n xs ≡ all_noted n xs
all_noted_is n [] = noted_by n.found (n.found ++ []) n.fault n.fault (sym (append-nil n.found)) refl
all_noted_is n (x ∷ xs) =
    let here = meaning_at x.at (target_of x.meant) in
    let faults = faults_as x.at x.meant x.given in
    all_noted_is (with_name n x) xs
    ∙ noted_by ((n.found ++ here) ++ known xs) (n.found ++ (here ++ known xs)) (all_sooner (all_sooner n.fault faults) (all_faults xs)) (all_sooner n.fault (faults ++ all_faults xs)) (append_assoc n.found here (known xs)) (sooner_more n.fault faults (all_faults xs))

pub part_noted : (n : Noted) (sc : Scope) (p : Tree APart) (semicolon : Bool) → with_part n sc p ≡ with_statement_names n sc (Stmt p semicolon)
part_noted n sc (BindPart b) semicolon = all_noted_is n (names sc b)
part_noted n sc (DefPart (Def at name ps equals is e)) semicolon =
    let xs = names sc (Def at name ps equals is e) in
    all_noted_is (with_repeats n ps) xs ∙ ap (noted_as (n.found ++ known xs)) (sooner_more n.fault (repeats [] ps) (all_faults xs))
part_noted n sc (CallPart c) semicolon = all_noted_is n (names sc c)
part_noted n sc (IfPart i) semicolon = all_noted_is n (names sc i)

-- ---- statements without a fault

none_told : (fs : List NameFault) → reported_fault fs ≡ None → fs ≡ []
none_told [] h = refl
none_told (f ∷ fs) h = cc

empty_behind : (fs gs : List NameFault) → fs ++ gs ≡ [] → gs ≡ []
empty_behind [] gs h = h
empty_behind (f ∷ fs) gs h = cc

known_step : (at : ℕ) (m : Option (Target × List Parameter)) (given : List (GivenArgument ℕ)) (rest : List NameFault) → faults_as at m given ++ rest ≡ [] → (meaning_at at (target_of m) ≡ (at, target_of m) ∷ []) × (rest ≡ [])
known_step at None given rest h = cc
known_step at (Some x) given rest h = (refl, empty_behind (faults_as at (Some x) given) rest h)

all_known : (xs : List Name) → all_faults xs ≡ [] → known xs ≡ map meant xs
all_known [] h = refl
all_known (x ∷ xs) h =
    let parts = known_step x.at x.meant x.given (all_faults xs) h in
    ap (λ (l : List Meaning). l ++ known xs) parts.0 ∙ ap (λ (l : List Meaning). meant x ∷ l) (all_known xs parts.1)

pub fault_is : (n m : Noted) (sc : Scope) (s : Tree AStmt) → m ≡ with_statement_names n sc s → n.fault ≡ None → m.fault ≡ reported_fault (faults_in sc s)
fault_is n m sc s is clear = ap (λ (k : Noted). k.fault) is ∙ ap (λ (o : Option NameFault). all_sooner o (faults_in sc s)) clear ∙ sooner_is_told (faults_in sc s)

pub names_are : (n m : Noted) (sc : Scope) (s : Tree AStmt) → m ≡ with_statement_names n sc s → n.fault ≡ None → m.fault ≡ None → m.found ≡ n.found ++ map meant (names sc s)
names_are n m sc s is clear none =
    ap (λ (k : Noted). k.found) is
    ∙ ap (λ (l : List Meaning). n.found ++ l) (all_known (names sc s) (empty_behind (repeats_in s) (all_faults (names sc s)) (none_told (faults_in sc s) (sym (fault_is n m sc s is clear) ∙ none))))
