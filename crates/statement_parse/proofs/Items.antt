-- A list of items whose first was read before the others.
use Rattle.std.proofs.Common.{◌≡◌, ◌<◌, List, [], ◌∷◌, ◌++◌, length, take, drop, refl, arith}

pub none_behind : {X : Type 0} (xs : List X) → length xs ≡ 1 → drop 1 xs ≡ []
none_behind [] one = refl
none_behind (x ∷ []) one = refl
none_behind (x ∷ y ∷ xs) one = absurd (omega (arith, one))

pub all_first : {X : Type 0} (xs : List X) → length xs ≡ 1 → take 1 xs ≡ xs
all_first [] one = refl
all_first (x ∷ []) one = refl
all_first (x ∷ y ∷ xs) one = absurd (omega (arith, one))

pub first_stays : {X : Type 0} (xs : List X) (x : X) → 0 < length xs → take 1 (xs ++ x ∷ []) ≡ take 1 xs
first_stays [] x some = absurd (omega (arith, some))
first_stays (y ∷ xs) x some = refl

pub pushed_behind : {X : Type 0} (xs : List X) (x : X) → 0 < length xs → drop 1 (xs ++ x ∷ []) ≡ drop 1 xs ++ x ∷ []
pushed_behind [] x some = absurd (omega (arith, some))
pushed_behind (y ∷ xs) x some = refl
