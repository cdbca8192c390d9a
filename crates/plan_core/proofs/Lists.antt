-- Facts on lists by place.
use Rattle.std.proofs.Common.{◌≡◌, ℕ, zero, suc, ◌<◌, ◌≤◌, ◌⊎◌, inl, inr, List, [], ◌∷◌, ◌++◌, length, take, drop, get_or, Some, refl, ap, ◌∙◌, arith, subst}
use Rattle.std.specs.Prelude.{map, slice_get, All, Contains}
use Rattle.std.proofs.Math.Nat.{le-max_left, le-max_right, max-eq_left, max-eq_right}
use Rattle.std.proofs.lemmas.Bool.{cases_lt}
use Rattle.plan_core.specs.Plans.{greatest}

pub some_same : {A : Type 0} {x y : A} → Some x ≡ Some y → x ≡ y
some_same e = cc

-- what holds of each item holds of one that is there
pub of_each : {A : Type 0} (P : A → Type 0) (xs : List A) (x : A) → All P xs → Contains xs x → P x
of_each P xs x all (k, lt, is) = subst P is (all k x lt)

-- an item of a front is one of the whole
pub in_front : {A : Type 0} (xs : List A) (n i : ℕ) (x : A) → slice_get (take n xs) i ≡ Some x → (i < n) × (slice_get xs i ≡ Some x)
in_front [] zero i x is = cc
in_front [] (suc n) i x is = cc
in_front (y ∷ ys) zero i x is = cc
in_front (y ∷ ys) (suc n) zero x is = (omega arith, is)
in_front (y ∷ ys) (suc n) (suc i) x is = let p = in_front ys n i x is in (omega arith, p.1)

-- a place of a list with one more item is an old one or the last
pub one_more : {A : Type 0} (xs : List A) (y : A) (i : ℕ) (x : A) → slice_get (xs ++ y ∷ []) i ≡ Some x → ((i < length xs) × (slice_get xs i ≡ Some x)) ⊎ ((i ≡ length xs) × (y ≡ x))
one_more [] y zero x is = inr (refl, some_same is)
one_more [] y (suc i) x is = cc
one_more (z ∷ zs) y zero x is = inl (omega arith, is)
one_more (z ∷ zs) y (suc i) x is =
    elim (one_more zs y i x is) [
      | inl p ↦ inl (omega (arith, p.0), p.1)
      | inr p ↦ inr (ap suc p.0, p.1)
    ]

-- the item at a place parts a list
pub part_at : {A : Type 0} (xs : List A) (i : ℕ) (x : A) → slice_get xs i ≡ Some x → xs ≡ take i xs ++ x ∷ drop (suc i) xs
part_at [] i x is = cc
part_at (y ∷ ys) zero x is = ap (λ z. z ∷ ys) (some_same is)
part_at (y ∷ ys) (suc i) x is = ap (λ (r : List _). y ∷ r) (part_at ys i x is)

-- the greatest is at least each of them
pub at_most_greatest : (f : ℕ → ℕ) (xs : List ℕ) (k d : ℕ) → k < length xs → f (get_or xs k d) ≤ greatest (map f xs)
at_most_greatest f [] k d lt = absurd (omega arith)
at_most_greatest f (x ∷ xs) zero d lt = le-max_left (f x) (greatest (map f xs))
at_most_greatest f (x ∷ xs) (suc k) d lt = let later = at_most_greatest f xs k d (omega arith) in let more = le-max_right (f x) (greatest (map f xs)) in omega arith

pub greatest_of : (f : ℕ → ℕ) (xs : List ℕ) (x : ℕ) → Contains xs x → f x ≤ greatest (map f xs)
greatest_of f xs x (k, lt, is) = let bound = at_most_greatest f xs k x lt in let at : f (get_or xs k x) ≡ f x = ap f is in omega arith

-- and it is one of them, if there is one
pub greatest_is : (f : ℕ → ℕ) (x : ℕ) (xs : List ℕ) → (y : ℕ) × Contains (x ∷ xs) y × (greatest (map f (x ∷ xs)) ≡ f y)
greatest_is f x [] = (x, (0, omega arith, refl), omega arith)
greatest_is f x (z ∷ zs) =
    let (y, (k, lt, at), is) = greatest_is f z zs in
    elim (cases_lt (f x) (greatest (map f (z ∷ zs)))) [
      | inl less ↦ (y, (suc k, omega arith, at), max-eq_right (omega (arith, less)) ∙ is)
      | inr most ↦ (x, (0, omega arith, refl), max-eq_left most)
    ]

pub there : {A : Type 0} (xs : List A) (i : ℕ) → i < length xs → (x : A) × (slice_get xs i ≡ Some x)
there [] i lt = absurd (omega arith)
there (x ∷ xs) zero lt = (x, refl)
there (x ∷ xs) (suc i) lt = there xs i (omega arith)
