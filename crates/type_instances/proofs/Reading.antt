-- Items of lists, by their places.
use Rattle.std.proofs.Common.{◌≡◌, ap, refl, ℕ, zero, suc, ◌<◌, ◌⊎◌, inl, inr, List, [], ◌∷◌, ◌++◌, length, slice_get, Some, None, arith}

pub some_is : {A : Type 0} (x y : A) → Some x ≡ Some y → x ≡ y
some_is x y e = cc

pub none_is : {A : Type 0} {B : Type 0} (y : A) → None ≡ Some y → B
none_is y e = absurd (let f : None ≡ Some y = e in cc)

pub get_front : {A : Type 0} (xs ys : List A) (i : ℕ) (y : A) → slice_get xs i ≡ Some y → slice_get (xs ++ ys) i ≡ Some y
get_front [] ys i y e = none_is y e
get_front (x ∷ xs) ys zero y e = e
get_front (x ∷ xs) ys (suc i) y e = get_front xs ys i y e

pub get_last : {A : Type 0} (xs : List A) (x : A) → slice_get (xs ++ (x ∷ [])) (length xs) ≡ Some x
get_last [] x = refl
get_last (y ∷ xs) x = get_last xs x

-- an item of a list with one more item is one of the list's, or that one
pub one_last : {A : Type 0} (xs : List A) (x : A) (i : ℕ) (y : A) → slice_get (xs ++ (x ∷ [])) i ≡ Some y → (slice_get xs i ≡ Some y) ⊎ ((x ≡ y) × (i ≡ length xs))
one_last [] x zero y f = inr (some_is x y f, refl)
one_last [] x (suc i) y f = none_is y f
one_last (z ∷ xs) x zero y f = inl f
one_last (z ∷ xs) x (suc i) y f = next (one_last xs x i y f)
  where
    next : ((slice_get xs i ≡ Some y) ⊎ ((x ≡ y) × (i ≡ length xs))) → (slice_get xs i ≡ Some y) ⊎ ((x ≡ y) × (suc i ≡ suc (length xs)))
    next (inl f) = inl f
    next (inr f) = inr (f.0, ap suc f.1)

-- the same of two lists side by side
pub both_last : {A : Type 0} {B : Type 0} (xs : List A) (ns : List B) (x : A) (n : B) → length ns ≡ length xs → (i : ℕ) (y : A) (m : B) → slice_get (xs ++ (x ∷ [])) i ≡ Some y → slice_get (ns ++ (n ∷ [])) i ≡ Some m → ((slice_get xs i ≡ Some y) × (slice_get ns i ≡ Some m)) ⊎ ((x ≡ y) × (n ≡ m))
both_last [] [] x n e zero y m f g = inr (some_is x y f, some_is n m g)
both_last [] [] x n e (suc i) y m f g = none_is y f
both_last [] (k ∷ ns) x n e i y m f g = absurd (omega (arith, e))
both_last (z ∷ xs) [] x n e i y m f g = absurd (omega (arith, e))
both_last (z ∷ xs) (k ∷ ns) x n e zero y m f g = inl (f, g)
both_last (z ∷ xs) (k ∷ ns) x n e (suc i) y m f g = both_last xs ns x n (let d : length ns ≡ length xs = omega (arith, e) in d) i y m f g

-- there is an item at each place below the length
pub get_some : {A : Type 0} (xs : List A) (i : ℕ) → i < length xs → (x : A) × (slice_get xs i ≡ Some x)
get_some [] i l = absurd (omega (arith, l))
get_some (x ∷ xs) zero l = (x, refl)
get_some (x ∷ xs) (suc i) l = get_some xs i (omega (arith, l))

pub get_below : {A : Type 0} (xs : List A) (i : ℕ) (y : A) → slice_get xs i ≡ Some y → i < length xs
get_below [] i y e = none_is y e
get_below (x ∷ xs) zero y e = omega arith
get_below (x ∷ xs) (suc i) y e = let h = get_below xs i y e in omega (arith, h)
