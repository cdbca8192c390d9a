-- Counting work.
use Rattle.std.proofs.Common.{◌≡◌, ℕ, ◌+◌, ◌<◌, ◌≤◌, true, false, Ok, Err, refl, sym, ap, ◌∙◌, arith, min, nat_le, le-leb, ◌⊎◌, inl, inr}
use Rattle.std.proofs.lemmas.Bool.{cases_lt}
use Rattle.script_values.specs.declared.fault.Stop.TheVariants.{TooMuchWork}
use Rattle.script_values.specs.declared.machine.Machine.{Machine}
use Rattle.script_values.specs.Machines.{count_work}

not_le : (a b : ℕ) → b < a → nat_le a b ≡ false
not_le a b lt = grind arith

pub count_done : (n : ℕ) (m : Machine) (work : ℕ) → work ≡ m.work + n → work ≤ 999999 → count_work n m ≡ Ok (record m { work = work })
unfolding count_work
count_done n m work is few =
    let test : nat_le (m.work + n) 999999 ≡ true = le-leb (m.work + n) 999999 (omega arith) in
    rw (test, count_work) (ap (λ (w : ℕ). Ok (record m { work = w })) (sym is))

pub count_past : (n : ℕ) (m : Machine) → 999999 < m.work + n → count_work n m ≡ Err TooMuchWork
unfolding count_work
count_past n m many =
    let test : nat_le (m.work + n) 999999 ≡ false = not_le (m.work + n) 999999 many in
    rw (test, count_work) refl

cut_cases : (n k : ℕ) → k ≡ min n 18446744073709551615 → (k ≡ n) ⊎ ((999999 < k) × (999999 < n))
cut_cases n k is =
    elim (cases_lt 18446744073709551615 n) [
      | inr le ↦ inl (omega arith)
      | inl lt ↦ inr (omega arith, omega arith)
    ]

-- a size that is cut counts as the whole
pub count_cut : (n k : ℕ) (m : Machine) → k ≡ min n 18446744073709551615 → count_work k m ≡ count_work n m
count_cut n k m is =
    let few_or_many = cut_cases n k is in
    elim few_or_many [
      | inl same ↦ ap (λ (j : ℕ). count_work j m) same
      | inr large ↦ count_past k m (omega arith) ∙ sym (count_past n m (omega arith))
    ]
