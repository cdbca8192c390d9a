-- What stands before and behind the spans.
use Rattle.std.proofs.Common.{◌≡◌, ℕ, suc, ◌-◌, ◌≤◌, Bool, true, false, List, [], ◌∷◌, ◌++◌, length, take, refl, ap, ◌∙◌, arith, if◌then◌else◌, length-append}
use Rattle.std.specs.Str.Parse.{AllDigits}
use Rattle.std.specs.Char.{is_ascii_digit}
use Rattle.fixed_text.proofs.Numerals.{digit_is}
use Rattle.script_lex.specs.Reading.{after_digits, front}

-- the rest is no longer
pub after_digits_le : (bs : List ℕ) → length (after_digits bs) ≤ length bs
after_digits_le [] = omega arith
after_digits_le (b ∷ bs) = let f : (t : Bool) → length (if t then after_digits bs else b ∷ bs) ≤ suc (length bs) = λ t. elim t as (λ t. length (if t then after_digits bs else b ∷ bs) ≤ suc (length bs)) [ true ↦ let ih = after_digits_le bs in omega arith | false ↦ omega arith ] in f (is_ascii_digit b)

-- one byte more before the same rest
pub front_more : (b : ℕ) (bs rest : List ℕ) → length rest ≤ length bs → front (b ∷ bs) rest ≡ b ∷ front bs rest
front_more b bs rest short = let e : suc (length bs) - length rest ≡ suc (length bs - length rest) = omega arith in ap (λ n. take n (b ∷ bs)) e

-- nothing stands before the whole
pub front_whole : (bs : List ℕ) → front bs bs ≡ []
front_whole bs = let e : length bs - length bs ≡ 0 = omega arith in ap (λ n. take n bs) e

-- the digits are digits
pub digits_front : (bs : List ℕ) → AllDigits 10 (front bs (after_digits bs))
digits_front [] = tt
digits_front (b ∷ bs) =
    let f : (t : Bool) → is_ascii_digit b ≡ t → AllDigits 10 (front (b ∷ bs) (if t then after_digits bs else b ∷ bs)) = λ t. elim t as (λ t. is_ascii_digit b ≡ t → AllDigits 10 (front (b ∷ bs) (if t then after_digits bs else b ∷ bs))) [
      | true ↦ λ e. rw (front_more b bs (after_digits bs) (after_digits_le bs)) ((digit_is b e).0, digits_front bs)
      | false ↦ λ e. rw (front_whole (b ∷ bs)) tt
    ] in f (is_ascii_digit b) refl

-- cases on a test, with the equation
pub choose : {P : Type 0} (t : Bool) → (t ≡ true → P) → (t ≡ false → P) → P
choose true f g = f refl
choose false f g = g refl

-- what stands before the rest, where the bytes are split so
pub front_is : (text rest : List ℕ) → front (text ++ rest) rest ≡ text
front_is [] rest = front_whole rest
front_is (b ∷ text) rest = front_more b (text ++ rest) rest (let e = length-append text rest in omega arith) ∙ ap (λ (l : List ℕ). b ∷ l) (front_is text rest)
