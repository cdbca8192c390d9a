-- Places of lists.
use Rattle.std.proofs.Common.{◌≡◌, ◌<◌, ◌+◌, ℕ, zero, suc, Some, List, [], ◌∷◌, length, set, slice_get, arith, refl, ap, ◌⊎◌, inl, inr}

pub slice_get-set_other : {C : Type 0} (xs : List C) (i k : ℕ) (x : C) → (i ≡ k → ⊥) → slice_get (set xs i x) k ≡ slice_get xs k
slice_get-set_other [] i k x other = refl
slice_get-set_other (s ∷ xs) zero zero x other = absurd (other refl)
slice_get-set_other (s ∷ xs) zero (suc k) x other = refl
slice_get-set_other (s ∷ xs) (suc i) zero x other = refl
slice_get-set_other (s ∷ xs) (suc i) (suc k) x other = slice_get-set_other xs i k x (λ e. other (ap suc e))

pub slice_get-set_same : {C : Type 0} (xs : List C) (i : ℕ) (x : C) → i < length xs → slice_get (set xs i x) i ≡ Some x
slice_get-set_same [] i x h = absurd (omega arith)
slice_get-set_same (s ∷ xs) zero x h = refl
slice_get-set_same (s ∷ xs) (suc i) x h = slice_get-set_same xs i x (omega arith)

-- two numbers are equal or not
pub same_or_other : (i k : ℕ) → (i ≡ k) ⊎ (i ≡ k → ⊥)
same_or_other zero zero = inl refl
same_or_other zero (suc k) = inr (λ e. omega arith)
same_or_other (suc i) zero = inr (λ e. omega arith)
same_or_other (suc i) (suc k) = elim (same_or_other i k) [ inl e ↦ inl (ap suc e) | inr other ↦ inr (λ e. other (omega arith)) ]

pub below_or_same : (m f : ℕ) → m < f + 1 → (m < f) ⊎ (m ≡ f)
below_or_same m f h = elim (same_or_other m f) [ inl e ↦ inr e | inr other ↦ inl (omega arith) ]

-- the item at a place
pub item_there : {C : Type 0} (xs : List C) (i : ℕ) → i < length xs → (x : C) × (slice_get xs i ≡ Some x)
item_there [] i h = absurd (omega arith)
item_there (x ∷ xs) zero h = (x, refl)
item_there (x ∷ xs) (suc i) h = item_there xs i (omega arith)
