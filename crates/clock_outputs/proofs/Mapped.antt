-- A list whose items are changed in place, one by one.
use Rattle.std.proofs.Common.{◌≡◌, ◌<◌, ◌+◌, ◌∙◌, ◌++◌, ℕ, zero, suc, List, [], ◌∷◌, length, map, take, drop, set, get_or, add-one, arith, refl, ap, sym}

changed_here : {A : Type 0} (f : A → A) (xs : List A) (i : ℕ) (d : A) → i < length xs
    → set (map f (take i xs) ++ drop i xs) i (f (get_or (map f (take i xs) ++ drop i xs) i d)) ≡ map f (take (suc i) xs) ++ drop (suc i) xs
changed_here f [] i d within = absurd (omega (arith, within))
changed_here f (x ∷ xs) zero d within = refl
changed_here f (x ∷ xs) (suc i) d within = ap (λ ys. f x ∷ ys) (changed_here f xs i d (omega (arith, within)))

-- one item more
pub mapped_more : {A : Type 0} (f : A → A) (first now : List A) (i : ℕ) (d y : A) → i < length first
    → now ≡ map f (take i first) ++ drop i first → y ≡ f (get_or now i d)
    → set now i y ≡ map f (take (i + 1) first) ++ drop (i + 1) first
mapped_more f first now i d y within is new =
    ap (λ z. set now i z) new
    ∙ ap (λ xs. set xs i (f (get_or xs i d))) is
    ∙ changed_here f first i d within
    ∙ ap (λ n. map f (take n first) ++ drop n first) (sym (add-one i))
