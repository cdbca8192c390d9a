-- Two lists, place by place.
use Rattle.std.proofs.Common.{map, ◌≡◌, ◌<◌, ◌+◌, ◌∙◌, ◌++◌, ℕ, zero, suc, List, [], ◌∷◌, length, take, drop, get_or, set, arith, ap, sym, refl}
use Rattle.std.specs.Simd.Lanes.{zip2, Each2}
use Rattle.std.proofs.lemmas.List.{take_more, take_more_set, length-take, get_or-drop, map-append}

zip2-snoc : {A B C : Type 0} (f : A → B → C) (xs : List A) (ys : List B) (a : A) (b : B) → length xs ≡ length ys →
    zip2 f (xs ++ a ∷ []) (ys ++ b ∷ []) ≡ zip2 f xs ys ++ f a b ∷ []
zip2-snoc f [] [] a b same = refl
zip2-snoc f [] (y ∷ ys) a b same = absurd (omega (arith, same))
zip2-snoc f (x ∷ xs) [] a b same = absurd (omega (arith, same))
zip2-snoc f (x ∷ xs) (y ∷ ys) a b same = ap (λ l. f x y ∷ l) (zip2-snoc f xs ys a b (omega (arith, same)))

-- one place more
pub zip2_more : {A B C : Type 0} (f : A → B → C) (xs : List A) (ys : List B) (i : ℕ) (d : A) (e : B) → i < length xs → length ys ≡ length xs →
    zip2 f (take (i + 1) xs) (take (i + 1) ys) ≡ zip2 f (take i xs) (take i ys) ++ f (get_or xs i d) (get_or ys i e) ∷ []
zip2_more f xs ys i d e within same =
    let long_xs = length-take i xs in
    let long_ys = length-take i ys in
    ap (λ l. zip2 f l (take (i + 1) ys)) (take_more xs i d within)
    ∙ ap (λ l. zip2 f (take i xs ++ get_or xs i d ∷ []) l) (take_more ys i e (omega (arith, same, within)))
    ∙ zip2-snoc f (take i xs) (take i ys) (get_or xs i d) (get_or ys i e) (omega (arith, long_xs, long_ys, same))

-- one place more is written
pub zip2_written : {A B C : Type 0} (f : A → B → C) (xs : List A) (ys : List B) (into : List C) (i : ℕ) (d : A) (e : B) (z : C) →
    i < length xs → length ys ≡ length xs → length into ≡ length xs → take i into ≡ zip2 f (take i xs) (take i ys) → z ≡ f (get_or xs i d) (get_or ys i e) →
    take (i + 1) (set into i z) ≡ zip2 f (take (i + 1) xs) (take (i + 1) ys)
zip2_written f xs ys into i d e z within same same_into before is =
    take_more_set into i z (omega (arith, same_into, within))
    ∙ ap (λ l. l ++ z ∷ []) before
    ∙ ap (λ x. zip2 f (take i xs) (take i ys) ++ x ∷ []) is
    ∙ sym (zip2_more f xs ys i d e within same)

pub Each2-at : {A B : Type 0} (P : A → B → Type 0) (xs : List A) (ys : List B) (i : ℕ) (d : A) (e : B) → i < length xs → length ys ≡ length xs → Each2 P xs ys →
    P (get_or xs i d) (get_or ys i e)
Each2-at P [] ys i d e within same each = absurd (omega (arith, within))
Each2-at P (x ∷ xs) [] i d e within same each = absurd (omega (arith, same))
Each2-at P (x ∷ xs) (y ∷ ys) zero d e within same each = each.0
Each2-at P (x ∷ xs) (y ∷ ys) (suc i) d e within same each = Each2-at P xs ys i d e (omega (arith, within)) (omega (arith, same)) each.1

-- two lists that are equal from a place on have one item there
pub same_at : {A : Type 0} (xs ys : List A) (i : ℕ) (d : A) → drop i xs ≡ drop i ys → get_or xs i d ≡ get_or ys i d
same_at xs ys i d same =
    let n : i ≡ i + 0 = omega arith in
    ap (λ k. get_or xs k d) n ∙ sym (get_or-drop i xs 0 d) ∙ ap (λ l. get_or l 0 d) same ∙ get_or-drop i ys 0 d ∙ ap (λ k. get_or ys k d) (sym n)

-- the same of one list
pub map_written : {A B : Type 0} (f : A → B) (xs : List A) (into : List B) (i : ℕ) (d : A) (z : B) →
    i < length xs → length into ≡ length xs → take i into ≡ map f (take i xs) → z ≡ f (get_or xs i d) →
    take (i + 1) (set into i z) ≡ map f (take (i + 1) xs)
map_written f xs into i d z within same before is =
    take_more_set into i z (omega (arith, same, within))
    ∙ ap (λ l. l ++ z ∷ []) before
    ∙ ap (λ x. map f (take i xs) ++ x ∷ []) is
    ∙ sym (map-append f (take i xs) (get_or xs i d ∷ []))
    ∙ ap (map f) (sym (take_more xs i d within))

pub same_map : {A B : Type 0} (f g : A → B) (xs : List A) → ((x : A) → f x ≡ g x) → map f xs ≡ map g xs
same_map f g [] same = refl
same_map f g (x ∷ xs) same = ap (λ y. y ∷ map f xs) (same x) ∙ ap (λ l. g x ∷ l) (same_map f g xs same)
