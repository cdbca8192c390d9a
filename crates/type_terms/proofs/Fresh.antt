-- A substitution with one more variable.
use Rattle.std.proofs.Common.{◌≡◌, ◌≢◌, ◌∙◌, sym, ap, subst, refl, eqb, eq-eqb, ne_eqb, ◌⊎◌, inl, inr, ℕ, zero, suc, ◌<◌, Bool, true, false, List, [], ◌∷◌, ◌++◌, length, length-append, Option, Some, None, arith}
use Rattle.type_terms.specs.Variables.{Variable}
use Rattle.type_terms.specs.Term.{Term, base_term, list_term, tuple_term, source_term, variable, InTerm, InKind, meaning, kind_meaning}
use Rattle.type_terms.specs.Ground.{Assignment, Ground, IsNumber}
use Rattle.type_terms.specs.Nested.{AreMarked, IsWhole, mark_at}
use Rattle.type_terms.specs.Agrees.{HasNewType, HasNewKind}
use Rattle.liq_base.specs.declared.memory.Kind.{Kind}
use Rattle.type_terms.specs.Table.{Solves, IsSound, IsNumberTerm, bound_at, number_at, kind_at}
use Rattle.type_terms.specs.Table.{table}
use Rattle.type_terms.specs.declared.ty.KindTerm.{KindTerm}
use Rattle.type_terms.specs.declared.ty.KindTerm.TheVariants.{Fixed, Var}
use Rattle.type_terms.proofs.Terms.{InTerm-map, InKind-map, any_kind, meaning_same, kind_meaning_same}

pub sound_none : IsSound (table [] [])
sound_none = record {
  over = λ k t e. absurd (let f : ◌≡◌ {A = Option Term} None (Some t) = e in cc);
  ranked = ((λ _. 0), record { falls = λ k t e. absurd (let f : ◌≡◌ {A = Option Term} None (Some t) = e in cc) });
  numbers = λ k t e. absurd (let f : ◌≡◌ {A = Option Term} None (Some t) = e in cc);
  kinds = λ k j e. absurd (let f : ◌≡◌ {A = Option KindTerm} None (Some (Var j)) = e in cc);
}

-- a new variable is bound to nothing
pub bound_push : (vs : List Variable) (n : Bool) (k : ℕ) → bound_at (vs ++ (record { number = n; bound = None } ∷ [])) k ≡ bound_at vs k
bound_push [] n zero = refl
bound_push [] n (suc k) = refl
bound_push (v ∷ vs) n zero = refl
bound_push (v ∷ vs) n (suc k) = bound_push vs n k

pub number_push : (vs : List Variable) (n : Bool) (k : ℕ) → k < length vs → number_at (vs ++ (record { number = n; bound = None } ∷ [])) k ≡ number_at vs k
number_push [] n k h = absurd (omega arith)
number_push (v ∷ vs) n zero h = refl
number_push (v ∷ vs) n (suc k) h = number_push vs n k (omega arith)

pub number_last : (vs : List Variable) (n : Bool) → number_at (vs ++ (record { number = n; bound = None } ∷ [])) (length vs) ≡ n
number_last [] n = refl
number_last (v ∷ vs) n = number_last vs n

pub kind_push : (ks : List (Option KindTerm)) (k : ℕ) → kind_at (ks ++ (None ∷ [])) k ≡ kind_at ks k
kind_push [] zero = refl
kind_push [] (suc k) = refl
kind_push (c ∷ ks) zero = refl
kind_push (c ∷ ks) (suc k) = kind_push ks k

pub bound_within : (vs : List Variable) (k : ℕ) (t : Term) → bound_at vs k ≡ Some t → k < length vs
bound_within [] k t e = absurd (let f : ◌≡◌ {A = Option Term} None (Some t) = e in cc)
bound_within (v ∷ vs) zero t e = omega arith
bound_within (v ∷ vs) (suc k) t e = let h = bound_within vs k t e in omega arith

number_term_push : (vs : List Variable) (n : Bool) (t : Term) → InTerm (λ j. j < length vs) (λ _. Unit {0}) t → IsNumberTerm vs t → IsNumberTerm (vs ++ (record { number = n; bound = None } ∷ [])) t
number_term_push vs n (base_term b) o h = h
number_term_push vs n (list_term t) o h = absurd h
number_term_push vs n (tuple_term t) o h = absurd h
number_term_push vs n (source_term t) o h = absurd h
number_term_push vs n (variable k) o h = number_push vs n k o ∙ h

pub sound_fresh : (vs : List Variable) (ks : List (Option KindTerm)) (n : Bool) → IsSound (table vs ks) → IsSound (table (vs ++ (record { number = n; bound = None } ∷ [])) ks)
sound_fresh vs ks n h = record {
  over = λ k t e. InTerm-map (λ j l. let a = length-append vs (record { number = n; bound = None } ∷ []) in omega arith) (λ j l. l) t (h.over k t (sym (bound_push vs n k) ∙ e));
  ranked = (h.ranked.0, record { falls = λ k t e. h.ranked.1.falls k t (sym (bound_push vs n k) ∙ e) });
  numbers = λ k t e is. numbers_at k t (sym (bound_push vs n k) ∙ e) is;
  kinds = h.kinds;
}
  where
    numbers_at : (k : ℕ) (t : Term) → bound_at vs k ≡ Some t → number_at (vs ++ (record { number = n; bound = None } ∷ [])) k ≡ true → IsNumberTerm (vs ++ (record { number = n; bound = None } ∷ [])) t
    numbers_at k t e is = number_term_push vs n t (InTerm-map (λ j l. l) (λ j l. tt) t (h.over k t e)) (h.numbers k t e (sym (number_push vs n k (bound_within vs k t e)) ∙ is))

pub sound_fresh_kind : (vs : List Variable) (ks : List (Option KindTerm)) → IsSound (table vs ks) → IsSound (table vs (ks ++ (None ∷ [])))
sound_fresh_kind vs ks h = record {
  over = λ k t e. InTerm-map (λ j l. l) (λ j l. let a = length-append ks (None ∷ []) in omega arith) t (h.over k t e);
  ranked = h.ranked;
  numbers = h.numbers;
  kinds = λ k j e. h.kinds k j (sym (kind_push ks k) ∙ e);
}

abbrev at_or : {X : Type 0} → Bool → X → X → X
at_or true x y = x
at_or false x y = y

with_type : Assignment → ℕ → Ground → Assignment
with_type a n g = record { type_of = λ k. at_or (eqb k n) g (a.type_of k); kind_of = a.kind_of }

with_kind : Assignment → ℕ → Kind → Assignment
with_kind a n c = record { type_of = a.type_of; kind_of = λ k. at_or (eqb k n) c (a.kind_of k) }

with_type_here : (a : Assignment) (n : ℕ) (g : Ground) → (with_type a n g).type_of n ≡ g
unfolding with_type
with_type_here a n g = ap (λ b. at_or b g (a.type_of n)) (eq-eqb n n refl)

with_type_elsewhere : (a : Assignment) (n k : ℕ) (g : Ground) → k ≢ n → (with_type a n g).type_of k ≡ a.type_of k
unfolding with_type
with_type_elsewhere a n k g ne = ap (λ b. at_or b g (a.type_of k)) (ne_eqb k n ne)

with_type_kinds : (a : Assignment) (n k : ℕ) (g : Ground) → (with_type a n g).kind_of k ≡ a.kind_of k
unfolding with_type
with_type_kinds a n k g = refl

with_kind_here : (a : Assignment) (n : ℕ) (c : Kind) → (with_kind a n c).kind_of n ≡ c
unfolding with_kind
with_kind_here a n c = ap (λ b. at_or b c (a.kind_of n)) (eq-eqb n n refl)

with_kind_elsewhere : (a : Assignment) (n k : ℕ) (c : Kind) → k ≢ n → (with_kind a n c).kind_of k ≡ a.kind_of k
unfolding with_kind
with_kind_elsewhere a n k c ne = ap (λ b. at_or b c (a.kind_of k)) (ne_eqb k n ne)

with_kind_types : (a : Assignment) (n k : ℕ) (c : Kind) → (with_kind a n c).type_of k ≡ a.type_of k
unfolding with_kind
with_kind_types a n k c = refl

kind_within : (ks : List (Option KindTerm)) (k : ℕ) (t : KindTerm) → kind_at ks k ≡ Some t → k < length ks
kind_within [] k t e = absurd (let f : ◌≡◌ {A = Option KindTerm} None (Some t) = e in cc)
kind_within (v ∷ vs) zero t e = omega arith
kind_within (v ∷ vs) (suc k) t e = let h = kind_within vs k t e in omega arith

number_within : (vs : List Variable) (k : ℕ) → number_at vs k ≡ true → k < length vs
number_within [] k e = absurd (let f : ◌≡◌ {A = Bool} false true = e in cc)
number_within (v ∷ vs) zero e = omega arith
number_within (v ∷ vs) (suc k) e = let h = number_within vs k e in omega arith

-- the number of the new variable, or an old one
pub number_cases : (vs : List Variable) (n : Bool) (k : ℕ) → number_at (vs ++ (record { number = n; bound = None } ∷ [])) k ≡ true → ((k ≡ length vs) × (n ≡ true)) ⊎ (k < length vs)
number_cases [] n zero e = inl (refl, e)
number_cases [] n (suc k) e = absurd (let f : ◌≡◌ {A = Bool} false true = e in cc)
number_cases (v ∷ vs) n zero e = inr (omega arith)
number_cases (v ∷ vs) n (suc k) e = elim (number_cases vs n k e) [ inl p ↦ inl (ap suc p.0, p.1) | inr l ↦ inr (omega arith) ]

grown_length : (vs : List Variable) (n : Bool) → length (vs ++ (record { number = n; bound = None } ∷ [])) ≡ suc (length vs)
grown_length vs n = let a = length-append vs (record { number = n; bound = None } ∷ []) in omega arith

abbrev grown : List Variable → Bool → List Variable
grown vs n = vs ++ (record { number = n; bound = None } ∷ [])

fresh_solves : (vs : List Variable) (ks : List (Option KindTerm)) (n : Bool) → IsSound (table vs ks) → (a : Assignment) → Solves a (table vs ks) → (g : Ground) → (n ≡ true → IsNumber g) → Solves (with_type a (length vs) g) (table (grown vs n) ks)
fresh_solves vs ks n h a m g num = record {
  types = λ k t e. types_at k t (sym (bound_push vs n k) ∙ e);
  kinds = λ k t e. with_type_kinds a (length vs) k g ∙ m.kinds k t e ∙ kind_meaning_same a (with_type a (length vs) g) t (any_kind (λ j. sym (with_type_kinds a (length vs) j g)) t);
  numbers = λ k e. numbers_at k (number_cases vs n k e) e;
}
  where
    old : (k : ℕ) → k < length vs → (with_type a (length vs) g).type_of k ≡ a.type_of k
    old k l = with_type_elsewhere a (length vs) k g (λ e. absurd (omega arith))

    types_at : (k : ℕ) (t : Term) → bound_at vs k ≡ Some t → (with_type a (length vs) g).type_of k ≡ meaning (with_type a (length vs) g) t
    types_at k t e =
        old k (bound_within vs k t e) ∙ m.types k t e
        ∙ meaning_same a (with_type a (length vs) g) t (InTerm-map (λ j l. sym (old j l)) (λ j l. sym (with_type_kinds a (length vs) j g)) t (h.over k t e))

    numbers_at : (k : ℕ) → ((k ≡ length vs) × (n ≡ true)) ⊎ (k < length vs) → number_at (grown vs n) k ≡ true → IsNumber ((with_type a (length vs) g).type_of k)
    numbers_at k (inl p) e = subst (λ t. IsNumber t) (sym (ap (λ j. (with_type a (length vs) g).type_of j) p.0 ∙ with_type_here a (length vs) g)) (num p.1)
    numbers_at k (inr l) e = subst (λ t. IsNumber t) (sym (old k l)) (m.numbers k (sym (number_push vs n k l) ∙ e))

pub new_type : (vs : List Variable) (ks : List (Option KindTerm)) (n : Bool) → IsSound (table vs ks) → HasNewType (table vs ks) (table (grown vs n) ks) (n ≡ true) (length vs)
new_type vs ks n h = record {
  inside = omega (arith, grown_length vs n);
  follows = record {
    types = omega (arith, grown_length vs n);
    kinds = omega arith;
    bound = record { types = λ k t e. bound_push vs n k ∙ e; kinds = λ k t e. e };
    solves = λ a m. record {
      types = λ k t e. m.types k t (bound_push vs n k ∙ e);
      kinds = m.kinds;
      numbers = λ k e. m.numbers k (number_push vs n k (number_within vs k e) ∙ e);
    };
  };
  is_number = λ is a m. m.numbers (length vs) (number_last vs n ∙ is);
  each = λ a m g num. (
    with_type a (length vs) g,
    fresh_solves vs ks n h a m g num,
    record {
      types = λ k l. sym (with_type_elsewhere a (length vs) k g (λ e. absurd (omega arith)));
      kinds = λ k l. sym (with_type_kinds a (length vs) k g);
    },
    with_type_here a (length vs) g,
  );
}

fresh_kind_solves : (vs : List Variable) (ks : List (Option KindTerm)) → IsSound (table vs ks) → (a : Assignment) → Solves a (table vs ks) → (c : Kind) → Solves (with_kind a (length ks) c) (table vs (ks ++ (None ∷ [])))
fresh_kind_solves vs ks h a m c = record {
  types = λ k t e. with_kind_types a (length ks) k c ∙ m.types k t e ∙ meaning_same a (with_kind a (length ks) c) t (InTerm-map (λ j l. sym (with_kind_types a (length ks) j c)) (λ j l. sym (old j l)) t (h.over k t e));
  kinds = λ k t e. kinds_at k t (sym (kind_push ks k) ∙ e);
  numbers = λ k e. subst (λ t. IsNumber t) (sym (with_kind_types a (length ks) k c)) (m.numbers k e);
}
  where
    old : (k : ℕ) → k < length ks → (with_kind a (length ks) c).kind_of k ≡ a.kind_of k
    old k l = with_kind_elsewhere a (length ks) k c (λ e. absurd (omega arith))

    lower : (k : ℕ) (t : KindTerm) → kind_at ks k ≡ Some t → InKind (λ j. j < length ks) t
    lower k (Fixed d) e = tt
    lower k (Var j) e = let l = kind_within ks k (Var j) e in let f = h.kinds k j e in omega arith

    kinds_at : (k : ℕ) (t : KindTerm) → kind_at ks k ≡ Some t → (with_kind a (length ks) c).kind_of k ≡ kind_meaning (with_kind a (length ks) c) t
    kinds_at k t e =
        old k (kind_within ks k t e) ∙ m.kinds k t e ∙ kind_meaning_same a (with_kind a (length ks) c) t (InKind-map (λ j l. sym (old j l)) t (lower k t e))

pub new_kind : (vs : List Variable) (ks : List (Option KindTerm)) → IsSound (table vs ks) → HasNewKind (table vs ks) (table vs (ks ++ (None ∷ []))) (length ks)
new_kind vs ks h = record {
  inside = let a = length-append ks (None ∷ []) in omega arith;
  follows = record {
    types = omega arith;
    kinds = let a = length-append ks (None ∷ []) in omega arith;
    bound = record { types = λ k t e. e; kinds = λ k t e. kind_push ks k ∙ e };
    solves = λ a m. record { types = m.types; kinds = λ k t e. m.kinds k t (kind_push ks k ∙ e); numbers = m.numbers };
  };
  each = λ a m c. (
    with_kind a (length ks) c,
    fresh_kind_solves vs ks h a m c,
    record {
      types = λ k l. sym (with_kind_types a (length ks) k c);
      kinds = λ k l. sym (with_kind_elsewhere a (length ks) k c (λ e. absurd (omega arith)));
    },
    with_kind_here a (length ks) c,
  );
}

pub whole_none : IsWhole (table [] []) []
whole_none = record { sound = sound_none; marked = record { enough = omega arith; marked = λ k t e. absurd (let f : ◌≡◌ {A = Option Term} None (Some t) = e in cc) } }

mark_push : (ms : List Bool) (b : Bool) (k : ℕ) → mark_at ms k ≡ true → mark_at (ms ++ (b ∷ [])) k ≡ true
mark_push [] b k e = absurd (let f : ◌≡◌ {A = Bool} false true = e in cc)
mark_push (m ∷ ms) b zero e = e
mark_push (m ∷ ms) b (suc k) e = mark_push ms b k e

-- one mark more does no harm
pub marks_push : (vs : List Variable) (ms : List Bool) (b : Bool) → AreMarked vs ms → AreMarked vs (ms ++ (b ∷ []))
marks_push vs ms b h = record {
  enough = let e = h.enough in let l = length-append ms (b ∷ []) in omega arith;
  marked = λ k t e. InTerm-map (mark_push ms b) (λ _ _. tt) t (h.marked k t e);
}

pub whole_fresh : (vs : List Variable) (ks : List (Option KindTerm)) (ms : List Bool) (n b : Bool) → IsWhole (table vs ks) ms → IsWhole (table (vs ++ (record { number = n; bound = None } ∷ [])) ks) (ms ++ (b ∷ []))
whole_fresh vs ks ms n b h = record {
  sound = sound_fresh vs ks n h.sound;
  marked = record {
    enough = let e = h.marked.enough in let l = length-append ms (b ∷ []) in let m = grown_length vs n in omega arith;
    marked = λ k t e. (marks_push vs ms b h.marked).marked k t (sym (bound_push vs n k) ∙ e);
  };
}

pub whole_fresh_kind : (vs : List Variable) (ks : List (Option KindTerm)) (ms : List Bool) → IsWhole (table vs ks) ms → IsWhole (table vs (ks ++ (None ∷ []))) ms
whole_fresh_kind vs ks ms h = record { sound = sound_fresh_kind vs ks h.sound; marked = h.marked }
