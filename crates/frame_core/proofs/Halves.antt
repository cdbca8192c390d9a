-- Two sides that are made one, sample by sample.
use Rattle.std.proofs.Common.{◌≡◌, ◌<◌, ◌≤◌, ◌∙◌, ◌+◌, ◌+ℤ◌, ℕ, zero, suc, ℤ, pos, List, [], ◌∷◌, length, map, get_or, set, int_div, arith, ap, refl, sym}
use Rattle.std.specs.List.{range_with_len}
use Rattle.std.specs.Simd.Lanes.{zip2}

abbrev pub half : ℤ → ℤ → ℤ
half left right = int_div (left +ℤ right) (pos 2)

-- the first so many are halved
abbrev pub halved : ℕ → List ℤ → List ℤ → List ℤ
halved zero lefts rights = lefts
halved (suc n) [] rights = []
halved (suc n) (left ∷ lefts) [] = left ∷ lefts
halved (suc n) (left ∷ lefts) (right ∷ rights) = half left right ∷ halved n lefts rights

at_place : (j : ℕ) (lefts rights : List ℤ) → get_or (halved j lefts rights) j (pos 0) ≡ get_or lefts j (pos 0)
at_place zero lefts rights = refl
at_place (suc j) [] rights = refl
at_place (suc j) (left ∷ lefts) [] = refl
at_place (suc j) (left ∷ lefts) (right ∷ rights) = at_place j lefts rights

one_halved : (j : ℕ) (lefts rights : List ℤ) → j < length lefts → j < length rights
    → set (halved j lefts rights) j (half (get_or lefts j (pos 0)) (get_or rights j (pos 0))) ≡ halved (suc j) lefts rights
one_halved j [] rights less below = absurd (omega (arith, less))
one_halved j (left ∷ lefts) [] less below = absurd (omega (arith, below))
one_halved zero (left ∷ lefts) (right ∷ rights) less below = refl
one_halved (suc j) (left ∷ lefts) (right ∷ rights) less below = ap (λ l. half left right ∷ l) (one_halved j lefts rights (omega (arith, less)) (omega (arith, below)))

pub halved_more : (j : ℕ) (lefts rights now : List ℤ) (sample : ℤ) → j < length lefts → j < length rights → now ≡ halved j lefts rights
    → sample ≡ half (get_or now j (pos 0)) (get_or rights j (pos 0)) → set now j sample ≡ halved (j + 1) lefts rights
halved_more j lefts rights now sample less below is one =
    let left : get_or now j (pos 0) ≡ get_or lefts j (pos 0) = ap (λ l. get_or l j (pos 0)) is ∙ at_place j lefts rights in
    ap (set now j) (one ∙ ap (λ x. half x (get_or rights j (pos 0))) left)
    ∙ ap (λ l. set l j (half (get_or lefts j (pos 0)) (get_or rights j (pos 0)))) is
    ∙ one_halved j lefts rights less below
    ∙ ap (λ n. halved n lefts rights) (let next : suc j ≡ j + 1 = omega arith in next)

pub halved_all : (j : ℕ) (lefts rights : List ℤ) → length lefts ≤ j → length rights ≡ length lefts → halved j lefts rights ≡ zip2 half lefts rights
halved_all zero [] rights all same = refl
halved_all zero (left ∷ lefts) rights all same = absurd (omega (arith, all))
halved_all (suc j) [] rights all same = refl
halved_all (suc j) (left ∷ lefts) [] all same = absurd (omega (arith, same))
halved_all (suc j) (left ∷ lefts) (right ∷ rights) all same = ap (λ l. half left right ∷ l) (halved_all j lefts rights (omega (arith, all)) (omega (arith, same)))

pub zipped : (f g : ℕ → ℤ) (at n : ℕ) → zip2 half (map f (range_with_len at n)) (map g (range_with_len at n)) ≡ map (λ j. half (f j) (g j)) (range_with_len at n)
zipped f g at zero = refl
zipped f g at (suc n) = ap (λ l. half (f at) (g at) ∷ l) (zipped f g (at + 1) n)
