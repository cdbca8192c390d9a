-- Bits of the words of a table.
use Rattle.std.proofs.Common.{◌≡◌, ◌<◌, ◌≤◌, ◌+◌, ◌-◌, ◌/◌, ◌%◌, ◌^◌, ◌∙◌, ℕ, zero, suc, Bool, true, false, not, ◌&&◌, ◌||◌, min, max, arith, refl, ap, sym, inl, inr, w64}
use Rattle.std.specs.Prelude.{bit_and, bit_or, bit_xor, nat_eq, nat_le, nat_lt}
use Rattle.std.specs.Int.{bit_at, trailing_zeros}
use Rattle.std.proofs.lemmas.Bool.{cases_lt, true≢false}
use Rattle.std.proofs.lemmas.Bool.Decides.{nat_tests}
use Rattle.std.proofs.lemmas.Nat.{shr-shr, shr_le}
use Rattle.std.proofs.lemmas.Nat.Bits.{bit_at-lt, bit_at-zero, bit_at_and, bit_at_or, bit_at_xor, bit_at_ones, bit_at_mask_inside, bit_at_mask_below, bit_at_mask_above, bit_at-trailing_zeros}
use Rattle.week_plan.specs.Tables.{is_set}

bits_both : (x y : ℕ) → x < 2 → y < 2 → nat_eq (min x y) 1 ≡ (nat_eq x 1 && nat_eq y 1)
bits_both zero zero p q = refl
bits_both zero (suc zero) p q = refl
bits_both zero (suc (suc y)) p q = absurd (omega (arith, q))
bits_both (suc zero) zero p q = refl
bits_both (suc zero) (suc zero) p q = refl
bits_both (suc zero) (suc (suc y)) p q = absurd (omega (arith, q))
bits_both (suc (suc x)) y p q = absurd (omega (arith, p))

bits_either : (x y : ℕ) → x < 2 → y < 2 → nat_eq (max x y) 1 ≡ (nat_eq x 1 || nat_eq y 1)
bits_either zero zero p q = refl
bits_either zero (suc zero) p q = refl
bits_either zero (suc (suc y)) p q = absurd (omega (arith, q))
bits_either (suc zero) zero p q = refl
bits_either (suc zero) (suc zero) p q = refl
bits_either (suc zero) (suc (suc y)) p q = absurd (omega (arith, q))
bits_either (suc (suc x)) y p q = absurd (omega (arith, p))

bits_turned : (x : ℕ) → x < 2 → nat_eq ((1 + x) % 2) 1 ≡ not (nat_eq x 1)
bits_turned zero p = refl
bits_turned (suc zero) p = refl
bits_turned (suc (suc x)) p = absurd (omega (arith, p))

pub set_both : (one other second : ℕ) → is_set (bit_and one other) second ≡ (is_set one second && is_set other second)
set_both one other second = ap (λ (n : ℕ). nat_eq n 1) (bit_at_and one other second) ∙ bits_both (bit_at one second) (bit_at other second) (bit_at-lt one second) (bit_at-lt other second)

pub set_either : (one other second : ℕ) → is_set (bit_or one other) second ≡ (is_set one second || is_set other second)
set_either one other second = ap (λ (n : ℕ). nat_eq n 1) (bit_at_or one other second) ∙ bits_either (bit_at one second) (bit_at other second) (bit_at-lt one second) (bit_at-lt other second)

-- each second of a minute is told in the full word
pub set_full : (second : ℕ) → second < 60 → is_set 1152921504606846975 second ≡ true
set_full second low = ap (λ (n : ℕ). nat_eq n 1) (bit_at_ones 60 second low)

pub set_turned : (word second : ℕ) → second < 60 → is_set (bit_xor 1152921504606846975 word) second ≡ not (is_set word second)
set_turned word second low =
    ap (λ (n : ℕ). nat_eq n 1) (bit_at_xor 1152921504606846975 word second)
    ∙ ap (λ (n : ℕ). nat_eq ((n + bit_at word second) % 2) 1) (bit_at_ones 60 second low)
    ∙ bits_turned (bit_at word second) (bit_at-lt word second)

pub set_without : (one other second : ℕ) → second < 60 → is_set (bit_and one (bit_xor 1152921504606846975 other)) second ≡ (is_set one second && not (is_set other second))
set_without one other second low = set_both one (bit_xor 1152921504606846975 other) second ∙ ap (λ (b : Bool). is_set one second && b) (set_turned other second low)

pub set_nothing : (second : ℕ) → is_set 0 second ≡ false
set_nothing second = ap (λ (n : ℕ). nat_eq n 1) (bit_at-zero second)

-- the seconds from one up to another
pub set_span : (from to second : ℕ) → is_set (2 ^ to - 2 ^ from) second ≡ (nat_le from second && nat_lt second to)
set_span from to second = elim (cases_lt second from) [
  | inl before ↦ ap (λ (n : ℕ). nat_eq n 1) (bit_at_mask_below from to second before) ∙ (let no : nat_le from second ≡ false = grind (arith, nat_tests, before) in sym (ap (λ (b : Bool). b && nat_lt second to) no))
  | inr first ↦ elim (cases_lt second to) [
    | inl inside ↦ ap (λ (n : ℕ). nat_eq n 1) (bit_at_mask_inside from to second first inside) ∙ (let yes : (nat_le from second && nat_lt second to) ≡ true = grind (arith, nat_tests, first, inside) in sym yes)
    | inr behind ↦ ap (λ (n : ℕ). nat_eq n 1) (bit_at_mask_above from to second behind) ∙ (let no : (nat_le from second && nat_lt second to) ≡ false = grind (arith, nat_tests, first, behind) in sym no)
  ]
]

-- the seconds that are not told, in place of those that are
pub turned_apart : (word second : ℕ) (told : Bool) → told ≡ true → second < 60 → is_set (bit_xor 1152921504606846975 word) second ≡ false → is_set word second ≡ told
turned_apart word second told held low none = by (is_set word second) (sym (set_turned word second low) ∙ none) ∙ sym held
  where
    by : (b : Bool) → not b ≡ false → b ≡ true
    by true is = refl
    by false is = sym is

pub turned_alike : (word second : ℕ) (told : Bool) → told ≡ true → second < 60 → is_set word second ≡ told → is_set (bit_xor 1152921504606846975 word) second ≡ false
turned_alike word second told held low is = set_turned word second low ∙ ap not (is ∙ held)

-- what stands from a second on
bit_behind : (n second later : ℕ) → second ≤ later → bit_at n later ≡ bit_at (n / 2 ^ second) (later - second)
bit_behind n second later first =
    let is : second + (later - second) ≡ later = omega (arith, first) in
    sym (ap (λ (m : ℕ). m % 2) (shr-shr n second (later - second)) ∙ ap (λ (m : ℕ). n / 2 ^ m % 2) is)

pub none_behind : (n second later : ℕ) → second ≤ later → n / 2 ^ second ≡ 0 → is_set n later ≡ false
none_behind n second later first none =
    ap (λ (b : ℕ). nat_eq b 1) (bit_behind n second later first ∙ ap (λ (m : ℕ). bit_at m (later - second)) none ∙ bit_at-zero (later - second))

pub none_before : (n second later : ℕ) → second ≤ later → 0 < n / 2 ^ second → n / 2 ^ second < 2 ^ 64 → later < second + trailing_zeros w64 (n / 2 ^ second) → is_set n later ≡ false
none_before n second later first some fits low =
    let lowest = bit_at-trailing_zeros w64 (n / 2 ^ second) some fits in
    ap (λ (b : ℕ). nat_eq b 1) (bit_behind n second later first ∙ lowest.2 (later - second) (omega (arith, first, low)))

pub some_before : (n second : ℕ) → 0 < n / 2 ^ second → n / 2 ^ second < 2 ^ 64 → is_set n second ≡ false → 0 < trailing_zeros w64 (n / 2 ^ second)
some_before n second some fits none = elim (cases_lt 0 (trailing_zeros w64 (n / 2 ^ second))) [
  | inl is ↦ is
  | inr least ↦ absurd (true≢false (sym (ap (λ (b : ℕ). nat_eq b 1) (one (omega (arith, least)))) ∙ none))
]
  where
    one : trailing_zeros w64 (n / 2 ^ second) ≡ 0 → bit_at n second ≡ 1
    one zero_is =
        bit_behind n second second (omega arith)
        ∙ (let same : second - second ≡ trailing_zeros w64 (n / 2 ^ second) = omega (arith, zero_is) in ap (bit_at (n / 2 ^ second)) same)
        ∙ (bit_at-trailing_zeros w64 (n / 2 ^ second) some fits).1

pub more_than_none : (n : ℕ) → (n ≡ 0 → ⊥) → 0 < n
more_than_none zero none = absurd (none refl)
more_than_none (suc n) none = omega arith

pub fits : (n second : ℕ) → n < 18446744073709551616 → n / 2 ^ second < 2 ^ 64
fits n second low = let less = shr_le n second in omega (arith, low, less)
