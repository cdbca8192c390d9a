-- Whether each day is like the next one.
use Rattle.std.proofs.Common.{◌≡◌, ◌<◌, ◌+◌, ◌*◌, ◌/◌, ◌%◌, ◌∙◌, ℕ, zero, suc, List, get_or, arith, refl, ap, sym}
use Rattle.std.specs.Prelude.{nat_eq}
use Rattle.std.specs.Int.{bit_at}
use Rattle.std.proofs.lemmas.Nat.Bits.{bit_at-lt, same_from_bits_below}
use Rattle.week_plan.specs.Spans.{IsDaily}
use Rattle.week_plan.specs.Tables.{IsTable, is_set, is_told}

pub daily : (words : List ℕ) → ((j : ℕ) → j < 8640 → get_or words (j + 1440) 0 ≡ get_or words j 0) → IsDaily (is_told words)
daily words same at low =
    let minute : (at + 86400) / 60 ≡ at / 60 + 1440 = omega arith in
    let second : (at + 86400) % 60 ≡ at % 60 = omega arith in
    ap (λ (n : ℕ). is_set (get_or words n 0) ((at + 86400) % 60)) minute
    ∙ ap (λ (n : ℕ). is_set (get_or words (at / 60 + 1440) 0) n) second
    ∙ ap (λ (n : ℕ). is_set n (at % 60)) (same (at / 60) (omega (arith, low)))

same_bit : (x y : ℕ) → x < 2 → y < 2 → nat_eq x 1 ≡ nat_eq y 1 → x ≡ y
same_bit zero zero p q same = refl
same_bit zero (suc zero) p q same = cc
same_bit zero (suc (suc y)) p q same = absurd (omega (arith, q))
same_bit (suc zero) zero p q same = cc
same_bit (suc zero) (suc zero) p q same = refl
same_bit (suc zero) (suc (suc y)) p q same = absurd (omega (arith, q))
same_bit (suc (suc x)) y p q same = absurd (omega (arith, p))

told_at : (words : List ℕ) (k s : ℕ) → s < 60 → is_told words (60 * k + s) ≡ is_set (get_or words k 0) s
told_at words k s low =
    let minute : (60 * k + s) / 60 ≡ k = omega (arith, low) in
    let second : (60 * k + s) % 60 ≡ s = omega (arith, low) in
    ap (λ (n : ℕ). is_set (get_or words n 0) ((60 * k + s) % 60)) minute ∙ ap (λ (n : ℕ). is_set (get_or words k 0) n) second

pub same_minute : (words : List ℕ) (k : ℕ) → k < 8640 → IsTable words → IsDaily (is_told words) → get_or words k 0 ≡ get_or words (k + 1440) 0
same_minute words k here table daily =
    same_from_bits_below 60 (get_or words k 0) (get_or words (k + 1440) 0) (table.small k) (table.small (k + 1440))
    (λ s low. same_bit (bit_at (get_or words k 0) s) (bit_at (get_or words (k + 1440) 0) s) (bit_at-lt (get_or words k 0) s) (bit_at-lt (get_or words (k + 1440) 0) s)
    (sym (told_at words k s low) ∙ sym (daily (60 * k + s) (omega (arith, here, low)))
    ∙ (let later : 60 * k + s + 86400 ≡ 60 * (k + 1440) + s = omega arith in ap (is_told words) later)
    ∙ told_at words (k + 1440) s low))
