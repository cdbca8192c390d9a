-- A state that was filled no more than its item asks for has run the least number of slots.
use Rattle.std.proofs.Common.{◌≡◌, ◌≢◌, ◌<◌, ◌≤◌, ◌+◌, ◌*◌, ◌∙◌, ℕ, zero, suc, List, length, nat_lt, nat_eq, Bool, true, false, arith, refl, ap, ◌⊎◌, inl, inr}
use Rattle.std.proofs.lemmas.Bool.Decides.{nat_tests}
use Rattle.frame_core.specs.Slots.{Slot, slot_at}
use Rattle.op_cross.specs.Crossfade.{cross}
use Rattle.op_cross.specs.Runs.{least_from, run_of, item_of}
use Rattle.op_cross.proofs.CrossLaws.{cross-many}

same_or_other : (a b : ℕ) → (a ≡ b) ⊎ (a ≢ b)
same_or_other a b = by (nat_eq a b) refl
  where
    by : (t : Bool) → nat_eq a b ≡ t → (a ≡ b) ⊎ (a ≢ b)
    by true e = inl (grind (arith, nat_tests))
    by false e = inr (λ h. grind (arith, nat_tests))

-- the least number that passes is the one below which none does
least_from-is : (test : ℕ → Bool) (at most m : ℕ) → at ≤ m → m ≤ at + most → test m ≡ true → ((n : ℕ) → at ≤ n → n < m → test n ≡ false) → least_from test at most ≡ m
least_from-is test at zero m low high passes fails = omega arith
least_from-is test at (suc most) m low high passes fails = elim (same_or_other at m) [
  | inl e ↦ (let here : test at ≡ true = ap test e ∙ passes in rw here e)
  | inr other ↦ (let here : test at ≡ false = fails at (omega arith) (omega arith) in
      rw here (least_from-is test (suc at) most m (omega arith) (omega arith) passes (λ n lower below. fails n (omega arith) below)))
]

lt-true : (a b : ℕ) → a < b → nat_lt a b ≡ true
lt-true a b h = grind (arith, nat_tests)

lt-false : (a b : ℕ) → b ≤ a → nat_lt a b ≡ false
lt-false a b h = grind (arith, nat_tests)

dec_le : (a b : ℕ) → (a ≤ b) ⊎ (b < a)
dec_le zero b = inl (omega arith)
dec_le (suc a) zero = inr (omega arith)
dec_le (suc a) (suc b) = elim (dec_le a b) [ inl h ↦ inl (omega arith) | inr h ↦ inr (omega arith) ]

pub run_of-is : (overlap : ℕ) (slots : ℕ → List Slot) (p filled : ℕ) → ((m : ℕ) → length (slots m) ≡ m) → p < length (cross overlap (slots filled)) →
    ((m : ℕ) → m < filled → length (cross overlap (slots m)) ≤ p) → run_of overlap slots p ≡ filled
run_of-is overlap slots p filled long settled least =
    least_from-is (λ m. nat_lt p (length (cross overlap (slots m)))) 0 (2 * p + 2 * overlap + 2) filled (omega arith) bound
    (lt-true p (length (cross overlap (slots filled))) settled) (λ m low below. lt-false p (length (cross overlap (slots m))) (least m below))
  where
    below_bound : (m : ℕ) → 2 * p + 2 * overlap + 2 ≤ m → p < length (cross overlap (slots m))
    below_bound m high = let is = long m in cross-many overlap (slots m) p (omega (arith, is, high))

    bound : filled ≤ 0 + (2 * p + 2 * overlap + 2)
    bound = elim (dec_le filled (2 * p + 2 * overlap + 2)) [
      | inl small ↦ omega (arith, small)
      | inr large ↦ (let few = least (2 * p + 2 * overlap + 2) (omega arith) in let many = below_bound (2 * p + 2 * overlap + 2) (omega arith) in omega (arith, few, many))
    ]

pub item_of-is : (overlap : ℕ) (slots : ℕ → List Slot) (p filled : ℕ) → ((m : ℕ) → length (slots m) ≡ m) → p < length (cross overlap (slots filled)) →
    ((m : ℕ) → m < filled → length (cross overlap (slots m)) ≤ p) → item_of overlap slots p ≡ slot_at (cross overlap (slots filled)) p
item_of-is overlap slots p filled long settled least = ap (λ m. slot_at (cross overlap (slots m)) p) (run_of-is overlap slots p filled long settled least)
