-- One item more.
use Rattle.std.proofs.Common.{◌≡◌, ℕ, ◌+◌, ◌<◌, suc, List, [], ◌∷◌, ◌++◌, length, take, get_or, sym, ap, ◌∙◌, arith, append_assoc}
use Rattle.std.proofs.lemmas.List.{take_more, append-nil, length-take-le}
use Rattle.plan_blames.specs.Texts.{numbered}

one_more : {A : Type 0} (text : ℕ → A → List ℕ) (n : ℕ) (xs : List A) (x : A) → numbered text n (xs ++ x ∷ []) ≡ numbered text n xs ++ text (n + length xs) x
one_more text n [] x = append-nil (text n x) ∙ ap (λ i. text i x) (let e : n ≡ n + 0 = omega arith in e)
one_more text n (y ∷ ys) x =
    ap (λ t. text n y ++ t) (one_more text (suc n) ys x)
    ∙ ap (λ i. text n y ++ (numbered text (suc n) ys ++ text i x)) (let e : suc n + length ys ≡ n + suc (length ys) = omega arith in e)
    ∙ sym (append_assoc (text n y) (numbered text (suc n) ys) _)

pub more : {A : Type 0} (text : ℕ → A → List ℕ) (xs : List A) (i : ℕ) (x : A) → i < length xs → x ≡ get_or xs i x
    → numbered text 0 (take (i + 1) xs) ≡ numbered text 0 (take i xs) ++ text i x
more text xs i x here is =
    let front : length (take i xs) ≡ i = length-take-le i xs (omega arith) in
    ap (numbered text 0) (take_more xs i x here)
    ∙ ap (λ y. numbered text 0 (take i xs ++ y ∷ [])) (sym is)
    ∙ one_more text 0 (take i xs) x
    ∙ ap (λ k. numbered text 0 (take i xs) ++ text k x) (let e : 0 + length (take i xs) ≡ i = omega arith in e)

pub more_or : {A : Type 0} (text : ℕ → A → List ℕ) (xs : List A) (i : ℕ) (d : A) → i < length xs
    → numbered text 0 (take (i + 1) xs) ≡ numbered text 0 (take i xs) ++ text i (get_or xs i d)
more_or text xs i d here =
    let front : length (take i xs) ≡ i = length-take-le i xs (omega arith) in
    ap (numbered text 0) (take_more xs i d here)
    ∙ one_more text 0 (take i xs) (get_or xs i d)
    ∙ ap (λ k. numbered text 0 (take i xs) ++ text k (get_or xs i d)) (let e : 0 + length (take i xs) ≡ i = omega arith in e)
