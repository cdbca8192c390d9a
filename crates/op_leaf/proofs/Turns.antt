-- Remainders, one step further.
use Rattle.std.proofs.Common.{◌≡◌, ◌<◌, ◌+◌, ◌-◌, ◌*◌, ◌%◌, ◌∙◌, ℕ, suc, not, min, true, false, nat_eq, if◌then◌else◌, arith, refl, sym, ap}
use Rattle.std.proofs.Math.Nat.{mod-add-mod, mod-eq_of_lt, mod_self, suc-mul}
use Rattle.std.proofs.lemmas.Bool.Decides.{nat_tests}

-- a remainder grows by one, or has come round
pub mod-step : (position whole at : ℕ) → at ≡ position % whole → at + 1 < whole → suc position % whole ≡ at + 1
mod-step position whole at is short =
    let next : suc position ≡ position + 1 = omega arith in
    ap (λ n. n % whole) next ∙ sym (mod-add-mod position whole 1) ∙ ap (λ n. (n + 1) % whole) (sym is) ∙ mod-eq_of_lt short

pub mod-round : (position whole at : ℕ) → at ≡ position % whole → at + 1 ≡ whole → suc position % whole ≡ 0
mod-round position whole at is long =
    let next : suc position ≡ position + 1 = omega arith in
    ap (λ n. n % whole) next ∙ sym (mod-add-mod position whole 1) ∙ ap (λ n. (n + 1) % whole) (sym is) ∙ ap (λ n. n % whole) long ∙ mod_self whole

pub phase-step : (position step whole phase : ℕ) → phase ≡ position * step % whole → (phase + step) % whole ≡ suc position * step % whole
phase-step position step whole phase is =
    ap (λ n. (n + step) % whole) is ∙ mod-add-mod (position * step) whole step ∙ ap (λ n. n % whole) (sym (suc-mul position step))

pub blank-later : (position track at : ℕ) → (track ≡ 0 → ⊥) → at < track - 1 →
    at ≡ (if nat_eq track 0 then min position 1 else (position % track)) →
    at + 1 ≡ (if nat_eq track 0 then min (suc position) 1 else (suc position % track))
blank-later position track at some short is =
    let other : nat_eq track 0 ≡ false = grind (arith, nat_tests) in
    let place : at ≡ position % track = rw other at is in
    let less : at + 1 < track = omega arith in
    rw other (sym (mod-step position track at place less))

pub begun-later : (position : ℕ) → true ≡ not (nat_eq (suc position) 0)
begun-later position =
    let other : nat_eq (suc position) 0 ≡ false = grind (arith, nat_tests) in
    rw other refl
