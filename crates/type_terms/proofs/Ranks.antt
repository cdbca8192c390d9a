-- The rank that a substitution's bindings give, where any rank falls along them.
use Rattle.std.proofs.Common.{◌≡◌, ◌≢◌, ℕ, zero, suc, ◌-◌, ◌<◌, ◌≤◌, List, [], ◌∷◌, Option, Some, None, refl, ap, sym, ◌∙◌, arith}
use Rattle.type_terms.specs.Term.{Term, InTerm, height}
use Rattle.type_terms.specs.Variables.{Variable}
use Rattle.type_terms.specs.Rank.{one_if_bound, bound_count, erase, rank_step, rank_in, rank_of}
use Rattle.type_terms.specs.Table.{bound_at, IsRank}
use Rattle.type_terms.proofs.Terms.{InTerm-map, height_same, variables_weigh}

pub erase_other : (k j : ℕ) (vs : List Variable) → j ≢ k → bound_at (erase k vs) j ≡ bound_at vs j
erase_other k j [] h = refl
erase_other zero zero (v ∷ vs) h = absurd (h refl)
erase_other zero (suc j) (v ∷ vs) h = refl
erase_other (suc k) zero (v ∷ vs) h = refl
erase_other (suc k) (suc j) (v ∷ vs) h = erase_other k j vs (λ e. h (ap suc e))

one_of_some : (o : Option Term) (t : Term) → o ≡ Some t → one_if_bound o ≡ 1
one_of_some o t e = ap one_if_bound e

pub erase_count : (k : ℕ) (vs : List Variable) (t : Term) → bound_at vs k ≡ Some t → suc (bound_count (erase k vs)) ≡ bound_count vs
erase_count k [] t e = cc
erase_count zero (v ∷ vs) t e = omega (arith, one_of_some v.bound t e)
erase_count (suc k) (v ∷ vs) t e = omega (arith, erase_count k vs t e)

rank_none : (n : ℕ) (vs : List Variable) (k : ℕ) → bound_at vs k ≡ None → rank_in n vs k ≡ 0
rank_none zero vs k e = refl
rank_none (suc n) vs k e = ap (rank_step (rank_in n (erase k vs))) e

rank_some : (n : ℕ) (vs : List Variable) (k : ℕ) (t : Term) → bound_at vs k ≡ Some t → bound_count vs ≤ n → rank_in n vs k ≡ suc (height (rank_in (n - 1) (erase k vs)) t)
rank_some zero vs k t e h = absurd (omega (arith, erase_count k vs t e))
rank_some (suc n) vs k t e h =
    let m : suc n - 1 ≡ n = omega arith in
    rw m (ap (rank_step (rank_in n (erase k vs))) e)

-- the same bindings at all variables up to a rank
abbrev Agrees : List Variable → (ℕ → ℕ) → ℕ → List Variable → Type 0
Agrees vs w c us = (j : ℕ) → w j ≤ c → bound_at us j ≡ bound_at vs j

agrees_erased : (vs : List Variable) (w : ℕ → ℕ) (j i : ℕ) (us : List Variable) → w i < w j → Agrees vs w (w j) us → Agrees vs w (w i) (erase j us)
agrees_erased vs w j i us h a k l =
    let ne : k ≢ j = λ e. let f : w k ≡ w j = ap w e in omega arith in
    erase_other j k us ne ∙ a k (omega arith)

-- the rank of j rests on the bindings up to j's rank alone
abbrev RestsBelow : List Variable → (ℕ → ℕ) → ℕ → Type 0
RestsBelow vs w j =
    (n m : ℕ) (us us' : List Variable) → Agrees vs w (w j) us → Agrees vs w (w j) us' → bound_count us ≤ n → bound_count us' ≤ m → rank_in n us j ≡ rank_in m us' j

rests_some : (vs : List Variable) (w : ℕ → ℕ) → IsRank w vs → (j : ℕ) (t : Term) → bound_at vs j ≡ Some t → ((i : ℕ) → w i < w j → RestsBelow vs w i) → RestsBelow vs w j
rests_some vs w r j t e below n m us us' a a' h h' =
    let f = r.falls j t e in
    let eu : bound_at us j ≡ Some t = a j (omega arith) ∙ e in
    let eu' : bound_at us' j ≡ Some t = a' j (omega arith) ∙ e in
    let c = erase_count j us t eu in
    let c' = erase_count j us' t eu' in
    let same : InTerm (λ i. rank_in (n - 1) (erase j us) i ≡ rank_in (m - 1) (erase j us') i) (λ _. Unit {0}) t =
    InTerm-map (λ i l. below i (omega arith) (n - 1) (m - 1) (erase j us) (erase j us') (agrees_erased vs w j i us (omega arith) a) (agrees_erased vs w j i us' (omega arith) a') (omega arith) (omega arith))
    (λ _ _. tt) t (variables_weigh w (height w t) t (omega arith)) in
    rank_some n us j t eu h ∙ ap suc (height_same _ _ t same) ∙ sym (rank_some m us' j t eu' h')

rests_none : (vs : List Variable) (w : ℕ → ℕ) (j : ℕ) → bound_at vs j ≡ None → RestsBelow vs w j
rests_none vs w j e n m us us' a a' h h' = rank_none n us j (a j (omega arith) ∙ e) ∙ sym (rank_none m us' j (a' j (omega arith) ∙ e))

rests_by : (vs : List Variable) (w : ℕ → ℕ) → IsRank w vs → (j : ℕ) (o : Option Term) → bound_at vs j ≡ o → ((i : ℕ) → w i < w j → RestsBelow vs w i) → RestsBelow vs w j
rests_by vs w r j None e below = rests_none vs w j e
rests_by vs w r j (Some t) e below = rests_some vs w r j t e below

rests_up_to : (vs : List Variable) (w : ℕ → ℕ) → IsRank w vs → (b j : ℕ) → w j ≤ b → RestsBelow vs w j
rests_up_to vs w r zero j h = rests_by vs w r j (bound_at vs j) refl (λ i l. absurd (omega arith))
rests_up_to vs w r (suc b) j h = rests_by vs w r j (bound_at vs j) refl (λ i l. rests_up_to vs w r b i (omega arith))

-- a bound variable ranks one above its binding
pub rank_of_bound : (vs : List Variable) → (w : ℕ → ℕ) → IsRank w vs → (k : ℕ) (t : Term) → bound_at vs k ≡ Some t → rank_of vs k ≡ suc (height (rank_of vs) t)
unfolding rank_of
rank_of_bound vs w r k t e =
    let f = r.falls k t e in
    let c = erase_count k vs t e in
    let n = bound_count vs in
    let same : InTerm (λ i. rank_in (n - 1) (erase k vs) i ≡ rank_in n vs i) (λ _. Unit {0}) t =
    InTerm-map (λ i l. rests_up_to vs w r (w i) i (omega arith) (n - 1) n (erase k vs) vs (agrees_erased vs w k i vs (omega arith) (λ j _. refl)) (λ j _. refl) (omega arith) (omega arith))
    (λ _ _. tt) t (variables_weigh w (height w t) t (omega arith)) in
    rank_some n vs k t e (omega arith) ∙ ap suc (height_same _ _ t same)
