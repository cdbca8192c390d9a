-- Trails of bindings, and what undoing one gives.
use Rattle.std.proofs.Common.{◌≡◌, ◌≢◌, ◌∙◌, sym, ap, ap₂, subst, refl, ℕ, suc, ◌+◌, ◌<◌, ◌≤◌, ◌⊎◌, inl, inr, List, [], ◌∷◌, ◌++◌, length, drop, get_or, drop-cons, add-one, drop_of_length-le, Option, None, arith}
use Rattle.type_terms.specs.Variables.{Variable}
use Rattle.type_terms.specs.Table.{bound_at, number_at, kind_at, Binds, BindsKind}
use Rattle.type_terms.specs.Term.{Term}
use Rattle.type_terms.specs.Undo.{Among, IsTrail, IsKindTrail, Frees, FreesKind}
use Rattle.type_terms.specs.declared.ty.KindTerm.{KindTerm}
use Rattle.type_terms.proofs.Bindings.{same_or_not}

among_push : (k x : ℕ) (xs : List ℕ) → Among k xs → Among k (xs ++ (x ∷ []))
among_push k x [] h = absurd h
among_push k x (y ∷ ys) (inl e) = inl e
among_push k x (y ∷ ys) (inr h) = inr (among_push k x ys h)

among_last : (x : ℕ) (xs : List ℕ) → Among x (xs ++ (x ∷ []))
among_last x [] = inl refl
among_last x (y ∷ ys) = inr (among_last x ys)

among_pushed : (k x : ℕ) (xs : List ℕ) → Among k (xs ++ (x ∷ [])) → Among k xs ⊎ (k ≡ x)
among_pushed k x [] (inl e) = inr e
among_pushed k x [] (inr h) = absurd h
among_pushed k x (y ∷ ys) (inl e) = inl (inl e)
among_pushed k x (y ∷ ys) (inr h) = elim (among_pushed k x ys h) [ inl a ↦ inl (inr a) | inr e ↦ inr e ]

pub trail_none : (vs : List Variable) → IsTrail [] vs vs
trail_none vs = record { same_length = refl; same_numbers = λ k. refl; bound = λ k. inl refl; free = λ k h. absurd h; inside = λ k h. absurd h }

pub trail_push : (x : ℕ) (t : Term) (trail : List ℕ) (start old new : List Variable) → x < length old → IsTrail trail start old → Binds x t old new → IsTrail (trail ++ (x ∷ [])) start new
trail_push x t trail start old new l h b = record {
  same_length = b.same_length ∙ h.same_length;
  same_numbers = λ k. b.same_numbers k ∙ h.same_numbers k;
  bound = λ k. bound_of k (same_or_not x k) (h.bound k);
  free = λ k i. free_of k (among_pushed k x trail i);
  inside = λ k i. inside_of k (among_pushed k x trail i);
}
  where
    bound_of : (k : ℕ) → (k ≡ x) ⊎ (k ≢ x) → (bound_at old k ≡ bound_at start k) ⊎ Among k trail → (bound_at new k ≡ bound_at start k) ⊎ Among k (trail ++ (x ∷ []))
    bound_of k (inl e) d = inr (subst (λ j. Among j (trail ++ (x ∷ []))) (sym e) (among_last x trail))
    bound_of k (inr n) (inl e) = inl (b.elsewhere k n ∙ e)
    bound_of k (inr n) (inr a) = inr (among_push k x trail a)

    start_free : (bound_at old x ≡ bound_at start x) ⊎ Among x trail → bound_at start x ≡ None
    start_free (inl e) = sym e ∙ b.free
    start_free (inr a) = h.free x a

    free_of : (k : ℕ) → Among k trail ⊎ (k ≡ x) → bound_at start k ≡ None
    free_of k (inl a) = h.free k a
    free_of k (inr e) = ap (bound_at start) e ∙ start_free (h.bound x)

    inside_of : (k : ℕ) → Among k trail ⊎ (k ≡ x) → k < length start
    inside_of k (inl a) = h.inside k a
    inside_of k (inr e) = omega (arith, h.same_length)

pub kind_trail_none : (ks : List (Option KindTerm)) → IsKindTrail [] ks ks
kind_trail_none ks = record { same_length = refl; bound = λ k. inl refl; free = λ k h. absurd h; inside = λ k h. absurd h }

pub kind_trail_push : (x : ℕ) (t : KindTerm) (trail : List ℕ) (start old new : List (Option KindTerm)) → x < length old → IsKindTrail trail start old → BindsKind x t old new → IsKindTrail (trail ++ (x ∷ [])) start new
kind_trail_push x t trail start old new l h b = record {
  same_length = b.same_length ∙ h.same_length;
  bound = λ k. bound_of k (same_or_not x k) (h.bound k);
  free = λ k i. free_of k (among_pushed k x trail i);
  inside = λ k i. inside_of k (among_pushed k x trail i);
}
  where
    bound_of : (k : ℕ) → (k ≡ x) ⊎ (k ≢ x) → (kind_at old k ≡ kind_at start k) ⊎ Among k trail → (kind_at new k ≡ kind_at start k) ⊎ Among k (trail ++ (x ∷ []))
    bound_of k (inl e) d = inr (subst (λ j. Among j (trail ++ (x ∷ []))) (sym e) (among_last x trail))
    bound_of k (inr n) (inl e) = inl (b.elsewhere k n ∙ e)
    bound_of k (inr n) (inr a) = inr (among_push k x trail a)

    start_free : (kind_at old x ≡ kind_at start x) ⊎ Among x trail → kind_at start x ≡ None
    start_free (inl e) = sym e ∙ b.free
    start_free (inr a) = h.free x a

    free_of : (k : ℕ) → Among k trail ⊎ (k ≡ x) → kind_at start k ≡ None
    free_of k (inl a) = h.free k a
    free_of k (inr e) = ap (kind_at start) e ∙ start_free (h.bound x)

    inside_of : (k : ℕ) → Among k trail ⊎ (k ≡ x) → k < length start
    inside_of k (inl a) = h.inside k a
    inside_of k (inr e) = omega (arith, h.same_length)

-- variables are their numbers and bindings
pub variables_same : (us vs : List Variable) → length us ≡ length vs → ((k : ℕ) → number_at us k ≡ number_at vs k) → ((k : ℕ) → bound_at us k ≡ bound_at vs k) → us ≡ vs
variables_same [] [] l n b = refl
variables_same [] (v ∷ vs) l n b = absurd (omega arith)
variables_same (u ∷ us) [] l n b = absurd (omega arith)
variables_same (u ∷ us) (v ∷ vs) l n b =
    let same : u ≡ v = λ i. record { number = n 0 i; bound = b 0 i } in
    ap₂ (λ x xs. x ∷ xs) same (variables_same us vs (omega arith) (λ k. n (suc k)) (λ k. b (suc k)))

pub kinds_same : (us vs : List (Option KindTerm)) → length us ≡ length vs → ((k : ℕ) → kind_at us k ≡ kind_at vs k) → us ≡ vs
kinds_same [] [] l b = refl
kinds_same [] (v ∷ vs) l b = absurd (omega arith)
kinds_same (u ∷ us) [] l b = absurd (omega arith)
kinds_same (u ∷ us) (v ∷ vs) l b = ap₂ (λ x xs. x ∷ xs) (b 0) (kinds_same us vs (omega arith) (λ k. b (suc k)))

trail_tail : (x : ℕ) (xs : List ℕ) (start old new : List Variable) → IsTrail (x ∷ xs) start old → Frees x old new → IsTrail xs start new
trail_tail x xs start old new h f = record {
  same_length = f.same_length ∙ h.same_length;
  same_numbers = λ k. f.same_numbers k ∙ h.same_numbers k;
  bound = λ k. bound_of k (same_or_not x k) (h.bound k);
  free = λ k a. h.free k (inr a);
  inside = λ k a. h.inside k (inr a);
}
  where
    bound_of : (k : ℕ) → (k ≡ x) ⊎ (k ≢ x) → (bound_at old k ≡ bound_at start k) ⊎ Among k (x ∷ xs) → (bound_at new k ≡ bound_at start k) ⊎ Among k xs
    bound_of k (inl e) d = inl (ap (bound_at new) e ∙ f.here ∙ sym (h.free k (inl e)))
    bound_of k (inr n) (inl e) = inl (f.elsewhere k n ∙ e)
    bound_of k (inr n) (inr (inl e)) = absurd (n e)
    bound_of k (inr n) (inr (inr a)) = inr a

kind_trail_tail : (x : ℕ) (xs : List ℕ) (start old new : List (Option KindTerm)) → IsKindTrail (x ∷ xs) start old → FreesKind x old new → IsKindTrail xs start new
kind_trail_tail x xs start old new h f = record {
  same_length = f.same_length ∙ h.same_length;
  bound = λ k. bound_of k (same_or_not x k) (h.bound k);
  free = λ k a. h.free k (inr a);
  inside = λ k a. h.inside k (inr a);
}
  where
    bound_of : (k : ℕ) → (k ≡ x) ⊎ (k ≢ x) → (kind_at old k ≡ kind_at start k) ⊎ Among k (x ∷ xs) → (kind_at new k ≡ kind_at start k) ⊎ Among k xs
    bound_of k (inl e) d = inl (ap (kind_at new) e ∙ f.here ∙ sym (h.free k (inl e)))
    bound_of k (inr n) (inl e) = inl (f.elsewhere k n ∙ e)
    bound_of k (inr n) (inr (inl e)) = absurd (n e)
    bound_of k (inr n) (inr (inr a)) = inr a

-- one more of the trail is free
pub trail_pop : (trail : List ℕ) (i : ℕ) (start old new : List Variable) → i < length trail → IsTrail (drop i trail) start old → Frees (get_or trail i 0) old new → IsTrail (drop (i + 1) trail) start new
trail_pop trail i start old new l h f =
    rw add-one (trail_tail (get_or trail i 0) (drop (suc i) trail) start old new (subst (λ xs. IsTrail xs start old) (drop-cons trail i 0 l) h) f)

pub kind_trail_pop : (trail : List ℕ) (i : ℕ) (start old new : List (Option KindTerm)) → i < length trail → IsKindTrail (drop i trail) start old → FreesKind (get_or trail i 0) old new → IsKindTrail (drop (i + 1) trail) start new
kind_trail_pop trail i start old new l h f =
    rw add-one (kind_trail_tail (get_or trail i 0) (drop (suc i) trail) start old new (subst (λ xs. IsKindTrail xs start old) (drop-cons trail i 0 l) h) f)

pub trail_inside : (trail : List ℕ) (i : ℕ) (start old : List Variable) → i < length trail → IsTrail (drop i trail) start old → get_or trail i 0 < length old
trail_inside trail i start old l h =
    let t = subst (λ xs. IsTrail xs start old) (drop-cons trail i 0 l) h in
    omega (arith, t.inside (get_or trail i 0) (inl refl), t.same_length)

pub kind_trail_inside : (trail : List ℕ) (i : ℕ) (start old : List (Option KindTerm)) → i < length trail → IsKindTrail (drop i trail) start old → get_or trail i 0 < length old
kind_trail_inside trail i start old l h =
    let t = subst (λ xs. IsKindTrail xs start old) (drop-cons trail i 0 l) h in
    omega (arith, t.inside (get_or trail i 0) (inl refl), t.same_length)

trail_end : (start old : List Variable) → IsTrail [] start old → old ≡ start
trail_end start old h = variables_same old start h.same_length h.same_numbers (λ k. elim (h.bound k) [ inl e ↦ e | inr a ↦ absurd a ])

kind_trail_end : (start old : List (Option KindTerm)) → IsKindTrail [] start old → old ≡ start
kind_trail_end start old h = kinds_same old start h.same_length (λ k. elim (h.bound k) [ inl e ↦ e | inr a ↦ absurd a ])

pub trail_done : (trail : List ℕ) (i : ℕ) (start old : List Variable) → length trail ≤ i → IsTrail (drop i trail) start old → old ≡ start
trail_done trail i start old l h = trail_end start old (subst (λ xs. IsTrail xs start old) (drop_of_length-le trail l) h)

pub kind_trail_done : (trail : List ℕ) (i : ℕ) (start old : List (Option KindTerm)) → length trail ≤ i → IsKindTrail (drop i trail) start old → old ≡ start
kind_trail_done trail i start old l h = kind_trail_end start old (subst (λ xs. IsKindTrail xs start old) (drop_of_length-le trail l) h)
