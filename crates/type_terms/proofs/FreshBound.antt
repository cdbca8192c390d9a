-- A substitution with one more variable, which is bound.
use Rattle.std.proofs.Common.{◌≡◌, ◌≢◌, ◌∙◌, sym, ap, subst, refl, eqb, eq-eqb, ne_eqb, not, ◌⊎◌, inl, inr, ℕ, zero, suc, ◌<◌, Bool, true, false, List, [], ◌∷◌, ◌++◌, length, length-append, Option, Some, None, arith}
use Rattle.type_terms.specs.Agrees.{Agrees, HasBoundType, KeepsBound}
use Rattle.type_terms.specs.Ground.{Assignment}
use Rattle.type_terms.specs.Nested.{AreMarked, IsMarked, IsWhole, mark_at}
use Rattle.type_terms.specs.Table.{table, Avoids, Binds, IsOver, IsSound, Solves, bound_at, number_at}
use Rattle.type_terms.specs.Term.{Term, InTerm, meaning}
use Rattle.type_terms.specs.Variables.{Variable}
use Rattle.type_terms.specs.declared.ty.KindTerm.{KindTerm}
use Rattle.type_terms.proofs.Bindings.{marked_bind, over_marks, solves_after, solves_before, sound_bind}
use Rattle.type_terms.proofs.Fresh.{bound_push, bound_within, marks_push, new_type, number_cases, number_last, number_push, sound_fresh, whole_fresh}
use Rattle.type_terms.proofs.Settling.{over_types}
use Rattle.type_terms.proofs.Terms.{InTerm-map, meaning_same}

-- with one more variable that is bound to this
abbrev with_last : List Variable → Option Term → List Variable
with_last vs o = vs ++ (record { number = false; bound = o } ∷ [])

bound_last : (vs : List Variable) (o : Option Term) → bound_at (with_last vs o) (length vs) ≡ o
bound_last [] o = refl
bound_last (v ∷ vs) o = bound_last vs o

bound_before : (vs : List Variable) (o o' : Option Term) (k : ℕ) → k ≢ length vs → bound_at (with_last vs o) k ≡ bound_at (with_last vs o') k
bound_before [] o o' zero ne = absurd (ne refl)
bound_before [] o o' (suc k) ne = refl
bound_before (v ∷ vs) o o' zero ne = refl
bound_before (v ∷ vs) o o' (suc k) ne = bound_before vs o o' k (λ e. ne (ap suc e))

number_of_last : (vs : List Variable) (o o' : Option Term) (k : ℕ) → number_at (with_last vs o) k ≡ number_at (with_last vs o') k
number_of_last [] o o' zero = refl
number_of_last [] o o' (suc k) = refl
number_of_last (v ∷ vs) o o' zero = refl
number_of_last (v ∷ vs) o o' (suc k) = number_of_last vs o o' k

length_last : (vs : List Variable) (o : Option Term) → length (with_last vs o) ≡ suc (length vs)
length_last vs o = let a = length-append vs (record { number = false; bound = o } ∷ []) in omega arith

binds_last : (vs : List Variable) (t : Term) → Binds (length vs) t (with_last vs None) (with_last vs (Some t))
binds_last vs t = record {
  free = bound_last vs None;
  same_length = length_last vs (Some t) ∙ sym (length_last vs None);
  same_numbers = number_of_last vs (Some t) None;
  here = bound_last vs (Some t);
  elsewhere = λ k ne. bound_before vs (Some t) None k ne;
}

earlier : (n j : ℕ) → j < n → not (eqb j n) ≡ true
earlier n j l = ap not (ne_eqb j n (λ e. absurd (omega arith)))

-- the last variable stands nowhere
avoids_last : (vs : List Variable) (ks : List (Option KindTerm)) (t : Term) → IsSound (table vs ks) → IsOver (table vs ks) t → Avoids (with_last vs None) (length vs) t
avoids_last vs ks t h o = record {
  reached = λ j. not (eqb j (length vs));
  without = ap not (eq-eqb (length vs) (length vs) refl);
  closed = λ k s e r. InTerm-map (earlier (length vs)) (λ _ _. tt) s (h.over k s (sym (bound_push vs false k) ∙ e));
  within = InTerm-map (earlier (length vs)) (λ _ _. tt) t o;
}

over_last : (vs : List Variable) (ks : List (Option KindTerm)) (o : Option Term) (t : Term) → IsOver (table vs ks) t → IsOver (table (with_last vs o) ks) t
over_last vs ks o t = InTerm-map (λ j l. let e = length_last vs o in omega arith) (λ j l. l) t

no_number : (vs : List Variable) {A : Type 0} → number_at (with_last vs None) (length vs) ≡ true → A
no_number vs e = absurd (let f : ◌≡◌ {A = Bool} false true = sym (number_last vs false) ∙ e in cc)

sound_bound : (vs : List Variable) (ks : List (Option KindTerm)) (t : Term) → IsSound (table vs ks) → IsOver (table vs ks) t → IsSound (table (with_last vs (Some t)) ks)
sound_bound vs ks t h o =
    sound_bind (table (with_last vs None) ks) (table (with_last vs (Some t)) ks) (length vs) t (binds_last vs t) refl (avoids_last vs ks t h o) (over_last vs ks None t o) (no_number vs) (sound_fresh vs ks false h)

-- there is one mark more
module _ (vs : List Variable) (ks : List (Option KindTerm)) (ms ns : List Bool) (h : IsWhole (table vs ks) ms) (is : ns ≡ ms ++ (false ∷ [])) where
  marks_before : AreMarked vs ns
  marks_before = subst (AreMarked vs) (sym is) (marks_push vs ms false h.marked)

  marks_fresh : AreMarked (with_last vs None) ns
  marks_fresh = subst (AreMarked (with_last vs None)) (sym is) (whole_fresh vs ks ms false false h).marked

  pub over_nested : (t : Term) → IsOver (table vs ks) t → InTerm (λ n. n < length ns) (λ _. Unit {0}) t
  over_nested t o = over_marks vs ns marks_before t (over_types vs ks t o)

  -- marks were set
  module _ (ms' : List Bool) (l : length ms' ≡ length ns) (kept : (k : ℕ) → mark_at ns k ≡ true → mark_at ms' k ≡ true) where
    pub whole_bound : (t : Term) → IsOver (table vs ks) t → IsMarked ms' t → IsWhole (table (with_last vs (Some t)) ks) ms'
    whole_bound t o here = record {
      sound = sound_bound vs ks t h.sound o;
      marked = marked_bind (length vs) t (with_last vs None) (with_last vs (Some t)) ns ms' (binds_last vs t) marks_fresh l kept here;
    }

-- a solution is one with a new free variable as well
solves_fresh : (vs : List Variable) (ks : List (Option KindTerm)) (a : Assignment) → Solves a (table vs ks) → Solves a (table (with_last vs None) ks)
solves_fresh vs ks a m = record {
  types = λ k t e. m.types k t (sym (bound_push vs false k) ∙ e);
  kinds = m.kinds;
  numbers = λ k e. m.numbers k (number_within k (number_cases vs false k e) e);
}
  where
    number_within : (k : ℕ) → ((k ≡ length vs) × (false ≡ true)) ⊎ (k < length vs) → number_at (with_last vs None) k ≡ true → number_at vs k ≡ true
    number_within k (inl p) e = absurd (let f : ◌≡◌ {A = Bool} false true = p.1 in cc)
    number_within k (inr l) e = sym (number_push vs false k l) ∙ e

module _ (vs : List Variable) (ks : List (Option KindTerm)) (t : Term) (h : IsSound (table vs ks)) (o : IsOver (table vs ks) t) where
  after : (a : Assignment) → Solves a (table vs ks) → a.type_of (length vs) ≡ meaning a t → Solves a (table (with_last vs (Some t)) ks)
  after a m e = solves_after (table (with_last vs None) ks) (table (with_last vs (Some t)) ks) (length vs) t (binds_last vs t) refl a (solves_fresh vs ks a m) e

  before : (a : Assignment) → Solves a (table (with_last vs (Some t)) ks) → Solves a (table vs ks)
  before a m = (new_type vs ks false h).follows.solves a (solves_before (table (with_last vs None) ks) (table (with_last vs (Some t)) ks) (length vs) t (binds_last vs t) refl a m)

  -- the solution with the type's meaning at the new variable
  extended : (a : Assignment) → ((b : Assignment) × Solves b (table (with_last vs None) ks) × Agrees (table vs ks) a b × (b.type_of (length vs) ≡ meaning a t)) → (b : Assignment) × Solves b (table (with_last vs (Some t)) ks) × Agrees (table vs ks) a b
  extended a r =
      let same : meaning a t ≡ meaning r.0 t = meaning_same a r.0 t (InTerm-map (r.2.types) (r.2.kinds) t o) in
      (r.0, solves_after (table (with_last vs None) ks) (table (with_last vs (Some t)) ks) (length vs) t (binds_last vs t) refl r.0 r.1 (r.3 ∙ same), r.2)

  kept : KeepsBound (table vs ks) (table (with_last vs (Some t)) ks)
  kept = record {
    types = λ k u e. bound_before vs (Some t) None k (let l = bound_within vs k u e in λ same. absurd (omega (arith, l, same))) ∙ bound_push vs false k ∙ e;
    kinds = λ k u e. e;
  }

  pub bound_type : HasBoundType (table vs ks) (table (with_last vs (Some t)) ks) (length vs) t
  bound_type = record {
    inside = omega (arith, length_last vs (Some t));
    follows = record { types = omega (arith, length_last vs (Some t)); kinds = omega arith; bound = kept; solves = before };
    exactly = λ a. (λ m. (before a m, m.types (length vs) t (bound_last vs (Some t))), λ p. after a p.0 p.1);
    each = λ a m. extended a ((new_type vs ks false h).each a m (meaning a t) (λ e. absurd (let f : ◌≡◌ {A = Bool} false true = e in cc)));
  }
