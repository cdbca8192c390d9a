-- What a new binding does to a substitution.
use Rattle.std.proofs.Common.{◌≡◌, ◌≢◌, ℕ, zero, suc, ◌+◌, ◌<◌, ◌≤◌, Bool, true, false, List, length, Option, Some, None, refl, ap, sym, ◌∙◌, subst, arith, ◌⊎◌, inl, inr}
use Rattle.type_terms.specs.Ground.{Assignment}
use Rattle.type_terms.specs.Term.{Term, base_term, list_term, tuple_term, source_term, variable, meaning, kind_meaning, InTerm, height}
use Rattle.type_terms.specs.Variables.{Variable}
use Rattle.type_terms.specs.Nested.{AreMarked, IsMarked, mark_at}
use Rattle.type_terms.specs.Table.{Table, bound_at, number_at, kind_at, Solves, IsSound, IsOver, IsRank, IsNumberTerm, Binds, BindsKind, Avoids}
use Rattle.type_terms.specs.declared.ty.KindTerm.{KindTerm}
use Rattle.type_terms.specs.declared.ty.KindTerm.TheVariants.{Var}
use Rattle.type_terms.proofs.Terms.{InTerm-map, height_same, height_rises}

abbrev raised : Bool → ℕ → ℕ → ℕ
raised true c n = n
raised false c n = n + c

raised_le : (b : Bool) (c n : ℕ) → raised b c n ≤ n + c
raised_le true c n = omega arith
raised_le false c n = omega arith

-- the old rank, raised outside the reached variables by more than t's height
new_rank : (w : ℕ → ℕ) (r : ℕ → Bool) → ℕ → ℕ → ℕ
new_rank w r c k = raised (r k) c (w k)

unraised : (w : ℕ → ℕ) (r : ℕ → Bool) (c : ℕ) (t : Term) → InTerm (λ j. r j ≡ true) (λ _. Unit {0}) t → height (new_rank w r c) t ≡ height w t
unfolding new_rank
unraised w r c t h = height_same (new_rank w r c) w t (InTerm-map (λ n e. ap (λ b. raised b c (w n)) e) (λ _ _. tt) t h)

falls_at : (w : ℕ → ℕ) (r : ℕ → Bool) (c k : ℕ) (s : Term) → height w s < w k → (b : Bool) → r k ≡ b → (b ≡ true → InTerm (λ j. r j ≡ true) (λ _. Unit {0}) s) → height (new_rank w r c) s < raised b c (w k)
unfolding new_rank
falls_at w r c k s l true e h = omega (arith, unraised w r c s (h refl))
falls_at w r c k s l false e h = omega (arith, height_rises (new_rank w r c) w c (λ n. raised_le (r n) c (w n)) s)

pub same_or_not : (x k : ℕ) → (k ≡ x) ⊎ (k ≢ x)
same_or_not zero zero = inl refl
same_or_not zero (suc k) = inr (λ e. absurd (omega arith))
same_or_not (suc x) zero = inr (λ e. absurd (omega arith))
same_or_not (suc x) (suc k) = elim (same_or_not x k) [ inl e ↦ inl (ap suc e) | inr n ↦ inr (λ e. n (omega arith)) ]

-- the bindings of the new variables: the new one, or an old one
binding_of : {x : ℕ} {t : Term} {old new : List Variable} → Binds x t old new → (k : ℕ) (s : Term) → bound_at new k ≡ Some s → ((k ≡ x) × (s ≡ t)) ⊎ (bound_at old k ≡ Some s)
binding_of {x} {t} {old} {new} b k s e =
    elim (same_or_not x k) [ inl is ↦ inl (is, (let f : Some s ≡ Some t = sym e ∙ ap (bound_at new) is ∙ b.here in cc)) | inr ne ↦ inr (sym (b.elsewhere k ne) ∙ e) ]

rank_binding : (w : ℕ → ℕ) (x : ℕ) (t : Term) (old new : List Variable) → (a : Avoids old x t) → IsRank w old → (k : ℕ) (s : Term) → ((k ≡ x) × (s ≡ t)) ⊎ (bound_at old k ≡ Some s) → height (new_rank w a.reached (suc (height w t))) s < new_rank w a.reached (suc (height w t)) k
unfolding new_rank
rank_binding w x t old new a r k s (inl e) =
    let low : height (new_rank w a.reached (suc (height w t))) t ≡ height w t = unraised w a.reached (suc (height w t)) t a.within in
    let up : new_rank w a.reached (suc (height w t)) k ≡ w k + suc (height w t) = ap (λ b. raised b (suc (height w t)) (w k)) (ap a.reached e.0 ∙ a.without) in
    let same : height (new_rank w a.reached (suc (height w t))) s ≡ height (new_rank w a.reached (suc (height w t))) t = ap (height (new_rank w a.reached (suc (height w t)))) e.1 in
    omega arith
rank_binding w x t old new a r k s (inr e) = falls_at w a.reached (suc (height w t)) k s (r.falls k s e) (a.reached k) refl (λ is. a.closed k s e is)

-- a term may be bound to a free variable that it avoids
pub rank_bind : (w : ℕ → ℕ) (x : ℕ) (t : Term) (old new : List Variable) → Binds x t old new → Avoids old x t → IsRank w old → (v : ℕ → ℕ) × IsRank v new
rank_bind w x t old new b a r =
    (new_rank w a.reached (suc (height w t)), record { falls = λ k s e. rank_binding w x t old new a r k s (binding_of b k s e) })

number_term_same : (us vs : List Variable) → ((k : ℕ) → number_at vs k ≡ number_at us k) → (t : Term) → IsNumberTerm us t → IsNumberTerm vs t
number_term_same us vs h (base_term b) n = n
number_term_same us vs h (list_term t) n = absurd n
number_term_same us vs h (tuple_term t) n = absurd n
number_term_same us vs h (source_term t) n = absurd n
number_term_same us vs h (variable k) n = h k ∙ n

pub over_after : (s s' : Table) → length s'.types ≡ length s.types → length s'.kinds ≡ length s.kinds → (u : Term) → IsOver s u → IsOver s' u
over_after s s' l l' u = InTerm-map (λ n h. omega arith) (λ n h. omega arith) u

pub sound_bind : (s s' : Table) (x : ℕ) (t : Term) → Binds x t s.types s'.types → s'.kinds ≡ s.kinds → Avoids s.types x t → IsOver s t → (number_at s.types x ≡ true → IsNumberTerm s.types t) → IsSound s → IsSound s'
sound_bind s s' x t b ks a o num h = record {
  over = λ k u e. over_after s s' b.same_length (ap length ks) u (over_of k u (binding_of b k u e));
  ranked = rank_bind h.ranked.0 x t s.types s'.types b a h.ranked.1;
  numbers = λ k u e is. number_term_same s.types s'.types b.same_numbers u (number_of k u (binding_of b k u e) (sym (b.same_numbers k) ∙ is));
  kinds = λ k j e. h.kinds k j (sym (ap (λ c. kind_at c k) ks) ∙ e);
}
  where
    over_of : (k : ℕ) (u : Term) → ((k ≡ x) × (u ≡ t)) ⊎ (bound_at s.types k ≡ Some u) → IsOver s u
    over_of k u (inl e) = subst (λ v. IsOver s v) (sym e.1) o
    over_of k u (inr e) = h.over k u e

    number_of : (k : ℕ) (u : Term) → ((k ≡ x) × (u ≡ t)) ⊎ (bound_at s.types k ≡ Some u) → number_at s.types k ≡ true → IsNumberTerm s.types u
    number_of k u (inl e) is = subst (λ v. IsNumberTerm s.types v) (sym e.1) (num (ap (number_at s.types) (sym e.0) ∙ is))
    number_of k u (inr e) is = h.numbers k u e is

-- the solutions after a binding are those before it that meet the equation
pub solves_before : (s s' : Table) (x : ℕ) (t : Term) → Binds x t s.types s'.types → s'.kinds ≡ s.kinds → (a : Assignment) → Solves a s' → Solves a s
solves_before s s' x t b ks a h = record {
  types = λ k u e. h.types k u (b.elsewhere k (λ is. let f : ◌≡◌ {A = Option Term} None (Some u) = sym b.free ∙ ap (bound_at s.types) (sym is) ∙ e in cc) ∙ e);
  kinds = λ k u e. h.kinds k u (ap (λ c. kind_at c k) ks ∙ e);
  numbers = λ k is. h.numbers k (b.same_numbers k ∙ is);
}

pub solves_after : (s s' : Table) (x : ℕ) (t : Term) → Binds x t s.types s'.types → s'.kinds ≡ s.kinds → (a : Assignment) → Solves a s → a.type_of x ≡ meaning a t → Solves a s'
solves_after s s' x t b ks a h q = record {
  types = λ k u e. type_at k u (binding_of b k u e);
  kinds = λ k u e. h.kinds k u (sym (ap (λ c. kind_at c k) ks) ∙ e);
  numbers = λ k is. h.numbers k (sym (b.same_numbers k) ∙ is);
}
  where
    type_at : (k : ℕ) (u : Term) → ((k ≡ x) × (u ≡ t)) ⊎ (bound_at s.types k ≡ Some u) → a.type_of k ≡ meaning a u
    type_at k u (inl e) = ap a.type_of e.0 ∙ q ∙ ap (meaning a) (sym e.1)
    type_at k u (inr e) = h.types k u e

kind_binding_of : {x : ℕ} {t : KindTerm} {old new : List (Option KindTerm)} → BindsKind x t old new → (k : ℕ) (s : KindTerm) → kind_at new k ≡ Some s → ((k ≡ x) × (s ≡ t)) ⊎ (kind_at old k ≡ Some s)
kind_binding_of {x} {t} {old} {new} b k s e =
    elim (same_or_not x k) [ inl is ↦ inl (is, (let f : Some s ≡ Some t = sym e ∙ ap (kind_at new) is ∙ b.here in cc)) | inr ne ↦ inr (sym (b.elsewhere k ne) ∙ e) ]

pub sound_bind_kind : (s s' : Table) (x : ℕ) (t : KindTerm) → BindsKind x t s.kinds s'.kinds → s'.types ≡ s.types → ((j : ℕ) → t ≡ Var j → j < x) → IsSound s → IsSound s'
sound_bind_kind s s' x t b ts low h = record {
  over = λ k u e. over_after s s' (ap length ts) b.same_length u (h.over k u (sym (ap (λ c. bound_at c k) ts) ∙ e));
  ranked = (h.ranked.0, record { falls = λ k u e. h.ranked.1.falls k u (sym (ap (λ c. bound_at c k) ts) ∙ e) });
  numbers = λ k u e is. number_term_same s.types s'.types (λ j. ap (λ c. number_at c j) ts) u (h.numbers k u (sym (ap (λ c. bound_at c k) ts) ∙ e) (sym (ap (λ c. number_at c k) ts) ∙ is));
  kinds = λ k j e. lower k j (kind_binding_of b k (Var j) e);
}
  where
    lower : (k j : ℕ) → ((k ≡ x) × (Var j ≡ t)) ⊎ (kind_at s.kinds k ≡ Some (Var j)) → j < k
    lower k j (inl e) = let l = low j (sym e.1) in let is : k ≡ x = e.0 in omega arith
    lower k j (inr e) = h.kinds k j e

pub solves_before_kind : (s s' : Table) (x : ℕ) (t : KindTerm) → BindsKind x t s.kinds s'.kinds → s'.types ≡ s.types → (a : Assignment) → Solves a s' → Solves a s
solves_before_kind s s' x t b ts a h = record {
  types = λ k u e. h.types k u (ap (λ c. bound_at c k) ts ∙ e);
  kinds = λ k u e. h.kinds k u (b.elsewhere k (λ is. let f : ◌≡◌ {A = Option KindTerm} None (Some u) = sym b.free ∙ ap (kind_at s.kinds) (sym is) ∙ e in cc) ∙ e);
  numbers = λ k is. h.numbers k (ap (λ c. number_at c k) ts ∙ is);
}

pub solves_after_kind : (s s' : Table) (x : ℕ) (t : KindTerm) → BindsKind x t s.kinds s'.kinds → s'.types ≡ s.types → (a : Assignment) → Solves a s → a.kind_of x ≡ kind_meaning a t → Solves a s'
solves_after_kind s s' x t b ts a h q = record {
  types = λ k u e. h.types k u (sym (ap (λ c. bound_at c k) ts) ∙ e);
  kinds = λ k u e. kind_of_at k u (kind_binding_of b k u e);
  numbers = λ k is. h.numbers k (sym (ap (λ c. number_at c k) ts) ∙ is);
}
  where
    kind_of_at : (k : ℕ) (u : KindTerm) → ((k ≡ x) × (u ≡ t)) ⊎ (kind_at s.kinds k ≡ Some u) → a.kind_of k ≡ kind_meaning a u
    kind_of_at k u (inl e) = ap a.kind_of e.0 ∙ q ∙ ap (kind_meaning a) (sym e.1)
    kind_of_at k u (inr e) = h.kinds k u e

-- marks that grow still serve
pub marked_more : (vs : List Variable) (marks marks' : List Bool) → length vs ≤ length marks' → ((k : ℕ) → mark_at marks k ≡ true → mark_at marks' k ≡ true) → AreMarked vs marks → AreMarked vs marks'
marked_more vs marks marks' l kept h = record {
  enough = l;
  marked = λ k t e. InTerm-map kept (λ _ _. tt) t (h.marked k t e);
}

-- the marks after a binding whose variables are marked
pub marked_bind : (x : ℕ) (t : Term) (old new : List Variable) (marks marks' : List Bool) → Binds x t old new → AreMarked old marks → length marks' ≡ length marks → ((k : ℕ) → mark_at marks k ≡ true → mark_at marks' k ≡ true) → IsMarked marks' t → AreMarked new marks'
marked_bind x t old new marks marks' b h l kept here = record {
  enough = let e = h.enough in let f = b.same_length in omega arith;
  marked = λ k s e. marked_at k s (binding_of b k s e);
}
  where
    marked_at : (k : ℕ) (s : Term) → ((k ≡ x) × (s ≡ t)) ⊎ (bound_at old k ≡ Some s) → IsMarked marks' s
    marked_at k s (inl e) = subst (λ u. IsMarked marks' u) (sym e.1) here
    marked_at k s (inr e) = InTerm-map kept (λ _ _. tt) s (h.marked k s e)

pub over_marks : (vs : List Variable) (marks : List Bool) → AreMarked vs marks → (t : Term) → InTerm (λ n. n < length vs) (λ _. Unit {0}) t → InTerm (λ n. n < length marks) (λ _. Unit {0}) t
over_marks vs marks h t = InTerm-map (λ n l. let e = h.enough in omega arith) (λ _ _. tt) t
