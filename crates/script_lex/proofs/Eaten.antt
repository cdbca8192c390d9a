-- Digits are read over, whatever follows.
use Rattle.std.proofs.Common.{◌≡◌, ℕ, ◌<◌, ◌≤◌, true, false, ◌||◌, eqb, List, [], ◌∷◌, ◌++◌, length, refl, sym, ap, ◌∙◌, subst, arith, ⊎_elim}
use Rattle.std.proofs.lemmas.Bool.{or_cases, eqb-true}
use Rattle.std.specs.Char.{is_ascii_digit}
use Rattle.std.specs.Str.Parse.{AllDigits, IsNumeral}
use Rattle.script_lex.specs.Bytes.{is_unit, starts_digit}
use Rattle.script_lex.specs.Reading.{after_digits, front}
use Rattle.fixed_text.proofs.Numerals.{digit_is, digit_back}
use Rattle.script_lex.proofs.Fronts.{choose, front_is}

pub digits_more : (b : ℕ) (bs : List ℕ) → is_ascii_digit b ≡ true → after_digits (b ∷ bs) ≡ after_digits bs
digits_more b bs e = rw e refl

pub digits_stop : (b : ℕ) (bs : List ℕ) → is_ascii_digit b ≡ false → after_digits (b ∷ bs) ≡ b ∷ bs
digits_stop b bs e = rw e refl

pub digits_eaten : (d r : List ℕ) → AllDigits 10 d → after_digits (d ++ r) ≡ after_digits r
digits_eaten [] r all = refl
digits_eaten (b ∷ d) r all = digits_more b (d ++ r) (digit_back b all.0) ∙ digits_eaten d r all.1

pub digits_alone : (d : List ℕ) → AllDigits 10 d → after_digits d ≡ []
digits_alone [] all = refl
digits_alone (b ∷ d) all = digits_more b d (digit_back b all.0) ∙ digits_alone d all.1

-- the digits at the front, and what is behind them
pub digits_split : (bs : List ℕ) → (d : List ℕ) × AllDigits 10 d × (bs ≡ d ++ after_digits bs)
digits_split [] = ([], tt, refl)
digits_split (b ∷ bs) =
    choose (is_ascii_digit b)
    (λ e. let s = digits_split bs in (b ∷ s.0, ((digit_is b e).0, s.1), rw (digits_more b bs e) (ap (λ (l : List ℕ). b ∷ l) s.2)))
    (λ e. ([], tt, sym (digits_stop b bs e)))

pub front_digits : (bs : List ℕ) → AllDigits 10 (front bs (after_digits bs)) × (bs ≡ front bs (after_digits bs) ++ after_digits bs)
front_digits bs =
    let s = digits_split bs in
    let before : front bs (after_digits bs) ≡ s.0 = ap (λ x. front x (after_digits bs)) s.2 ∙ front_is s.0 (after_digits bs) in
    let P : List ℕ → Type 0 = λ x. AllDigits 10 x × (bs ≡ x ++ after_digits bs) in
    subst P (sym before) (s.1, s.2)

pub numeral_front : (bs : List ℕ) → starts_digit bs ≡ true → IsNumeral 10 (front bs (after_digits bs))
numeral_front bs e = let f = front_digits bs in (some bs e (front bs (after_digits bs)) (after_digits bs) f.1 refl, f.0)
  where
    some : (bs : List ℕ) → starts_digit bs ≡ true → (d r : List ℕ) → bs ≡ d ++ r → r ≡ after_digits bs → 0 < length d
    some [] e d r is rest = cc
    some (b ∷ bs) e [] r is rest = let whole : b ∷ bs ≡ after_digits bs = is ∙ rest ∙ digits_more b bs e in let l = ap length whole in let h = after_digits_le bs in absurd (omega arith)
      where
        after_digits_le : (bs : List ℕ) → length (after_digits bs) ≤ length bs
        after_digits_le [] = omega arith
        after_digits_le (b ∷ bs) = choose (is_ascii_digit b) (λ e. rw (digits_more b bs e) (let h = after_digits_le bs in omega arith)) (λ e. rw (digits_stop b bs e) (omega arith))
    some (b ∷ bs) e (x ∷ d) r is rest = omega arith

pub numeral_first : (d r : List ℕ) → IsNumeral 10 d → starts_digit (d ++ r) ≡ true
numeral_first [] r n = absurd (let h = n.0 in omega arith)
numeral_first (b ∷ d) r n = digit_back b n.1.0

pub unit_not_digit : (u : ℕ) → is_unit u ≡ true → is_ascii_digit u ≡ false
unit_not_digit u e =
    ⊎_elim (λ a. ap is_ascii_digit (eqb-true u 119 a))
    (λ a. ⊎_elim (λ x. ap is_ascii_digit (eqb-true u 104 x)) (λ x. ⊎_elim (λ y. ap is_ascii_digit (eqb-true u 109 y)) (λ y. ap is_ascii_digit (eqb-true u 115 y)) (or_cases (eqb u 109) (eqb u 115) x)) (or_cases (eqb u 104) (eqb u 109 || eqb u 115) a))
    (or_cases (eqb u 119) (eqb u 104 || (eqb u 109 || eqb u 115)) e)
