-- The point of a decimal's text.
use Rattle.std.proofs.Common.{◌≡◌, ℕ, ◌+◌, ◌-◌, suc, List, [], ◌∷◌, ◌++◌, length, take, drop, refl, sym, ap, ◌∙◌, arith, not, eqb, Some, None, get_or, length-append, add-one}
use Rattle.std.specs.List.{position, prefix_len}
use Rattle.std.specs.Str.Parse.{AllDigits}
use Rattle.std.proofs.lemmas.Bool.{ne_eqb, lt-ltb, eqb-true}
use Rattle.std.proofs.lemmas.Str.Parse.{digit_from_value}
use Rattle.std.proofs.lemmas.List.{take-append-drop, take_rest}
use Rattle.std.proofs.lemmas.List.Quantifiers.{position-Some}
use Rattle.std.proofs.Math.Seq.{drop-cons}

-- digits are read over
pub passed : (w f : List ℕ) → AllDigits 10 w → prefix_len (λ x. not (eqb x 46)) (w ++ 46 ∷ f) ≡ length w
passed [] f digits = refl
passed (b ∷ bs) f digits =
    let low = digit_from_value b digits.0 in
    rw (ne_eqb b 46 (λ e. omega arith), passed bs f digits.1) (omega arith)

-- the first point stands behind the digits
pub point_stands : (w f : List ℕ) → AllDigits 10 w → position (λ x. eqb x 46) (w ++ 46 ∷ f) ≡ Some (length w)
point_stands w f digits = rw (passed w f digits, lt-ltb (length w) (length (w ++ 46 ∷ f)) (simp length-append (omega arith))) refl

-- what stands before and behind a first point
pub split_there : (text : List ℕ) (i : ℕ) → Some i ≡ position (λ x. eqb x 46) text → text ≡ take i text ++ 46 ∷ drop (i + 1) text
split_there text i is =
    let at = position-Some (λ x. eqb x 46) text i 0 (sym is) in
    let point : get_or text i 0 ≡ 46 = eqb-true (get_or text i 0) 46 at.1 in
    sym (take-append-drop i text) ∙ ap (λ (r : List ℕ). take i text ++ r) (drop-cons text i 0 at.0 ∙ rw point (rw add-one refl))

pub take_there : (w x : List ℕ) → take (length w) (w ++ x) ≡ w
take_there [] x = refl
take_there (b ∷ bs) x = ap (λ (r : List ℕ). b ∷ r) (take_there bs x)

pub drop_there : (w x : List ℕ) (b : ℕ) → drop (length w + 1) (w ++ b ∷ x) ≡ x
drop_there w x b = rw add-one (drop_suc w x b)
  where
    drop_suc : (w x : List ℕ) (b : ℕ) → drop (suc (length w)) (w ++ b ∷ x) ≡ x
    drop_suc [] x b = refl
    drop_suc (c ∷ cs) x b = drop_suc cs x b

-- where a text is digits, a point and more, its first point parts these
pub parted : (text w f : List ℕ) (i : ℕ) → Some i ≡ position (λ x. eqb x 46) text → text ≡ w ++ 46 ∷ f → AllDigits 10 w → (take i text ≡ w) × (take (length text - (i + 1)) (drop (i + 1) text) ≡ f)
parted text w f i is spelled digits =
    let there : position (λ x. eqb x 46) text ≡ Some (length w) = ap (λ (t : List ℕ). position (λ x. eqb x 46) t) spelled ∙ point_stands w f digits in
    let at : i ≡ length w = cc in
    let rest : drop (i + 1) text ≡ f = ap (λ (n : ℕ). drop (n + 1) text) at ∙ ap (λ (t : List ℕ). drop (length w + 1) t) spelled ∙ drop_there w f 46 in
    (ap (λ (n : ℕ). take n text) at ∙ ap (λ (t : List ℕ). take (length w) t) spelled ∙ take_there w (46 ∷ f), take_rest text (i + 1) ∙ rest)

-- a point stands there
pub no_point : (text w f : List ℕ) → None ≡ position (λ x. eqb x 46) text → text ≡ w ++ 46 ∷ f → AllDigits 10 w → ⊥
no_point text w f is spelled digits =
    let there : position (λ x. eqb x 46) text ≡ Some (length w) = ap (λ (t : List ℕ). position (λ x. eqb x 46) t) spelled ∙ point_stands w f digits in
    cc
