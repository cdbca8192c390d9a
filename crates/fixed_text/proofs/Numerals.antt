-- Facts on digits.
use Rattle.std.proofs.Common.{◌≡◌, ℕ, ◌+◌, ◌-◌, ◌*◌, ◌^◌, ◌<◌, ◌≤◌, List, [], ◌∷◌, length, get_or, sym, refl, ap, ◌∙◌, arith, true, false, Bool, leb}
use Rattle.std.specs.Str.Parse.{AllDigits, digits_value, digits_value_after}
use Rattle.std.specs.Char.{digit_value, is_ascii_digit}
use Rattle.std.specs.List.{list_all}
use Rattle.std.proofs.lemmas.Bool.{and_parts, leb-true, lt-ltb, le-ltb, and_from, le-leb, lt-leb, not-true, eqb-false, ne_eqb}
use Rattle.std.proofs.lemmas.Str.Parse.{digit_from_value}
use Rattle.std.proofs.lemmas.Fmt.{decimal_is_IsNumeral, first_decimal, decimal_digit}
use Rattle.fixed_text.specs.Texts.{is_plain}
use Rattle.std.proofs.Common.{not, eqb, ◌/◌, Option, None, Some, nat_le, if◌then◌else◌, zero, suc, IfSome}
use Rattle.std.proofs.Math.Nat.{pow-le-pow_right, mul-le-mul}
use Rattle.std.proofs.lemmas.Int.Digits.{digits_value-lt}
use Rattle.std.specs.Fmt.{decimal}
use Rattle.std.proofs.lemmas.Str.Parse.{IsNumeralModel}
use Rattle.std.proofs.lemmas.Fmt.{decimal-digits_value}

-- digits that follow make a number no less
pub value_grows : (n : ℕ) (ds : List ℕ) → n ≤ digits_value_after 10 n ds
value_grows n [] = omega arith
value_grows n (d ∷ ds) = let later = value_grows (n * 10 + digit_value d) ds in let more : n ≤ n * 10 + digit_value d = omega arith in omega arith

-- std's own words are a model of themselves
std_words : IsNumeralModel (λ ds. AllDigits 10 ds) (λ ds. digits_value 10 ds)
std_words = record { to = λ ds h. h; from = λ ds h. h; same = λ ds h. refl }

-- digits without a leading zero are the decimal text of their value
pub canonical : (ds : List ℕ) → AllDigits 10 ds → 0 < length ds → (get_or ds 0 0 ≡ 48 → length ds ≡ 1) → digits_value 10 ds < 2 ^ 64 → ds ≡ decimal (digits_value 10 ds)
canonical ds digits some lead small = sym (decimal-digits_value std_words ds digits some lead small)

-- a byte that passes the test has a value below ten, its distance from `0`
pub digit_is : (b : ℕ) → is_ascii_digit b ≡ true → (digit_value b < 10) × (digit_value b ≡ b - 48)
digit_is b h =
    let low : 48 ≤ b = leb-true 48 b (and_parts (leb 48 b) (leb b 57) h).0 in
    let high : b ≤ 57 = leb-true b 57 (and_parts (leb 48 b) (leb b 57) h).1 in
    let is : digit_value b ≡ b - 48 = rw (le-ltb b 48 low, lt-ltb b 58 (omega arith)) refl in
    (omega arith, is)

-- a test of each byte says that all are digits
pub all_digits : (bs : List ℕ) → list_all is_ascii_digit bs ≡ true → AllDigits 10 bs
all_digits [] h = tt
all_digits (b ∷ bs) h =
    let p = and_parts (is_ascii_digit b) (list_all is_ascii_digit bs) h in
    ((digit_is b p.0).0, all_digits bs p.1)

-- the other way round
pub digit_back : (b : ℕ) → digit_value b < 10 → is_ascii_digit b ≡ true
digit_back b h = let r = digit_from_value b h in and_from (leb 48 b) (leb b 57) (le-leb 48 b r.0) (le-leb b 57 r.1)

pub digits_back : (bs : List ℕ) → AllDigits 10 bs → list_all is_ascii_digit bs ≡ true
digits_back [] h = refl
digits_back (b ∷ bs) h = and_from (is_ascii_digit b) (list_all is_ascii_digit bs) (digit_back b h.0) (digits_back bs h.1)

-- a number that has passed a tenth of the bound passes it by the next digit
pub over_tenth : (most value total : ℕ) (rest : List ℕ) → 1 ≤ length rest → digits_value_after 10 value rest ≡ total → most / 10 < value → most < total
over_tenth most value total [] some is over = omega arith
over_tenth most value total (d ∷ ds) some is over = let later = value_grows (value * 10 + digit_value d) ds in omega arith

pub over_digit : (most value total : ℕ) (rest : List ℕ) → 1 ≤ length rest → AllDigits 10 rest → digits_value_after 10 value rest ≡ total → most - value * 10 < get_or rest 0 0 - 48 → most < total
over_digit most value total [] some digits is over = omega arith
over_digit most value total (d ∷ ds) some digits is over =
    let later = value_grows (value * 10 + digit_value d) ds in
    let digit : digit_value d ≡ d - 48 = (digit_is d (digit_back d digits.0)).1 in
    omega arith

-- nothing is answered past the bound
pub past : (most total : ℕ) → most < total → None ≡ (if nat_le total most then Some total else None)
past most total over = rw (lt-leb total most over) refl

-- the texts of numbers are the plain ones
pub plain_digits : (bs : List ℕ) → is_plain bs ≡ true → AllDigits 10 bs × (0 < length bs) × (get_or bs 0 0 ≡ 48 → length bs ≡ 1)
plain_digits [] h = cc
plain_digits (b ∷ []) h = (((digit_is b h).0, tt), omega arith, λ e. omega arith)
plain_digits (b ∷ c ∷ bs) h =
    let p = and_parts (not (eqb b 48)) (list_all is_ascii_digit (b ∷ c ∷ bs)) h in
    (all_digits (b ∷ c ∷ bs) p.1, omega arith, λ e. absurd (eqb-false b 48 (not-true (eqb b 48) p.0) e))

pub plain_back : (bs : List ℕ) → AllDigits 10 bs → 0 < length bs → (get_or bs 0 0 ≡ 48 → length bs ≡ 1) → is_plain bs ≡ true
plain_back [] digits some lead = absurd (omega arith)
plain_back (b ∷ []) digits some lead = digit_back b digits.0
plain_back (b ∷ c ∷ bs) digits some lead =
    and_from (not (eqb b 48)) (list_all is_ascii_digit (b ∷ c ∷ bs)) (rw (ne_eqb b 48 (λ e. let no = lead e in omega arith)) refl) (digits_back (b ∷ c ∷ bs) digits)

-- the decimal text of 0 is one byte, and no other begins with a zero
lead_decimal : (n : ℕ) → n < 2 ^ 64 → get_or (decimal n) 0 0 ≡ 48 → length (decimal n) ≡ 1
lead_decimal zero small lead = ap length (decimal_digit 0 (omega arith))
lead_decimal (suc n) small lead = let high = first_decimal (suc n) (omega arith) small in omega arith

pub plain_decimal : (n : ℕ) → n < 2 ^ 64 → is_plain (decimal n) ≡ true
plain_decimal n small =
    let is = decimal_is_IsNumeral n small in
    plain_back (decimal n) is.0.1 is.0.0 (lead_decimal n small)

pub value_decimal : (n : ℕ) → n < 2 ^ 64 → digits_value 10 (decimal n) ≡ n
value_decimal n small = (decimal_is_IsNumeral n small).1

some_at : (v most n : ℕ) → Some n ≡ (if nat_le v most then Some v else None) → (v ≤ most) × (n ≡ v)
some_at v most n is = let f : (b : Bool) → nat_le v most ≡ b → Some n ≡ (if b then Some v else None) → (v ≤ most) × (n ≡ v) = λ b e. elim b as (λ b. nat_le v most ≡ b → Some n ≡ (if b then Some v else None) → (v ≤ most) × (n ≡ v)) [ true ↦ λ e h. (leb-true v most e, cc) | false ↦ λ e h. cc ] e in f (nat_le v most) refl is

-- a plain text is read to the number that it writes
pub reads_found : (bs : List ℕ) (r : Option ℕ) → is_plain bs ≡ true → r ≡ (if nat_le (digits_value 10 bs) 18446744073709551615 then Some (digits_value 10 bs) else None) → IfSome r (λ n. bs ≡ decimal n)
reads_found bs None plain is = tt
reads_found bs (Some n) plain is =
    let p = plain_digits bs plain in
    let q = some_at (digits_value 10 bs) 18446744073709551615 n is in
    canonical bs p.0 p.1 p.2 (omega arith) ∙ ap decimal (sym q.1)

pub reads_only : (bs : List ℕ) (r : Option ℕ) → r ≡ (if nat_le (digits_value 10 bs) 18446744073709551615 then Some (digits_value 10 bs) else None) → (n : ℕ) → n < 2 ^ 64 → bs ≡ decimal n → r ≡ Some n
reads_only bs r is n small text =
    let value : digits_value 10 bs ≡ n = ap (λ b. digits_value 10 b) text ∙ value_decimal n small in
    is ∙ ap (λ v. if nat_le v 18446744073709551615 then Some v else None) value ∙ rw (le-leb n 18446744073709551615 (omega arith)) refl

-- what at most six digits write
pub six_digits : (ds : List ℕ) → AllDigits 10 ds → length ds ≤ 6 → digits_value 10 ds ≤ 999999
six_digits ds digits short =
    let below = digits_value-lt 10 ds digits in
    let power : 10 ^ length ds ≤ 10 ^ 6 = pow-le-pow_right (omega arith) short in
    omega arith

-- places is Some only for at most six of them, and then at most a million
pub places_given : (n p : ℕ) → Some p ≡ (if nat_le n 6 then Some (10 ^ (6 - n)) else None) → (n ≤ 6) × (p ≤ 1000000)
places_given n p is =
    let f : (b : Bool) → nat_le n 6 ≡ b → Some p ≡ (if b then Some (10 ^ (6 - n)) else None) → (n ≤ 6) × (p ≤ 1000000) = λ b. elim b as (λ b. nat_le n 6 ≡ b → Some p ≡ (if b then Some (10 ^ (6 - n)) else None) → (n ≤ 6) × (p ≤ 1000000)) [
      | true ↦ λ e h. let less : 6 - n ≤ 6 = omega arith in let power : 10 ^ (6 - n) ≤ 10 ^ 6 = pow-le-pow_right (omega arith) less in let same : p ≡ 10 ^ (6 - n) = cc in (leb-true n 6 e, omega arith)
      | false ↦ λ e h. cc
    ] in f (nat_le n 6) refl is

-- within the bound there is an answer
pub given : (v most : ℕ) → v ≤ most → None ≡ (if nat_le v most then Some v else None) → ⊥
given v most low is = let some : (if nat_le v most then Some v else None) ≡ Some v = rw (le-leb v most low) refl in cc

pub bounded : (v most n : ℕ) → Some n ≡ (if nat_le v most then Some v else None) → n ≤ most
bounded v most n is = let p = some_at v most n is in omega arith

pub product_bounded : (a b : ℕ) → a ≤ 999999 → b ≤ 1000000 → a * b ≤ 999999000000
product_bounded a b x y = let p : a * b ≤ 999999 * 1000000 = mul-le-mul x y in omega arith
