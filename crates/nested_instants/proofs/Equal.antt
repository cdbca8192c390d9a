-- Clocks are equal or not; counts that are one more at one place.
use Rattle.std.proofs.Common.{◌≡◌, ◌<◌, ◌≤◌, ◌+◌, ◌∙◌, ℕ, zero, suc, Bool, true, false, List, [], ◌∷◌, Some, length, nat_eq, slice_get, arith, ap, sym, refl, ◌⊎◌, inl, inr, if◌then◌else◌}
use Rattle.std.proofs.lemmas.Bool.{eq-eqb, true≢false}
use Rattle.std.proofs.lemmas.Bool.Decides.{nat_tests}
use Rattle.clock_infer.specs.declared.clock_map.NodeClock.{NodeClock}
use Rattle.clock_infer.specs.declared.clock_map.NodeClock.TheVariants.{Main, Sub}
use Rattle.stream_meaning.specs.Instants.{same_clock}
use Rattle.stream_meaning.proofs.Existence.{same_clock-true}

pub same_itself : (clock : NodeClock) → same_clock clock clock ≡ true
same_itself (Main m) = eq-eqb m m refl
same_itself (Sub k) = eq-eqb k k refl

pub are_same : (a b : NodeClock) → a ≡ b → same_clock a b ≡ true
are_same a b e = ap (λ c. same_clock a c) (sym e) ∙ same_itself a

pub not_same : (a b : NodeClock) → same_clock a b ≡ false → a ≡ b → ⊥
not_same a b differ e = true≢false (sym (are_same a b e) ∙ differ)

by_test : (a b : NodeClock) (test : Bool) → same_clock a b ≡ test → (a ≡ b) ⊎ (a ≡ b → ⊥)
by_test a b true e = inl (same_clock-true a b e)
by_test a b false e = inr (not_same a b e)

pub same_or_other : (a b : NodeClock) → (a ≡ b) ⊎ (a ≡ b → ⊥)
same_or_other a b = by_test a b (same_clock a b) refl

differ_by : (a b : NodeClock) (test : Bool) → same_clock a b ≡ test → (a ≡ b → ⊥) → same_clock a b ≡ false
differ_by a b true e other = absurd (other (same_clock-true a b e))
differ_by a b false e other = e

pub they_differ : (a b : NodeClock) → (a ≡ b → ⊥) → same_clock a b ≡ false
they_differ a b other = differ_by a b (same_clock a b) refl other

abbrev number : NodeClock → ℕ
number (Main m) = 0
number (Sub k) = k

pub other_subs : (i k : ℕ) → (i ≡ k → ⊥) → Sub i ≡ Sub k → ⊥
other_subs i k other e = other (ap number e)

-- the clock has made one instant more
abbrev pub bumped : (NodeClock → ℕ) → NodeClock → NodeClock → ℕ
bumped ran clock other = if same_clock other clock then suc (ran other) else ran other

pub bumped-same : (ran : NodeClock → ℕ) (clock : NodeClock) → bumped ran clock clock ≡ suc (ran clock)
bumped-same ran clock = let same = same_itself clock in rw same refl

pub bumped-other : (ran : NodeClock → ℕ) (clock other : NodeClock) → (other ≡ clock → ⊥) → bumped ran clock other ≡ ran other
bumped-other ran clock other apart = let differ = they_differ other clock apart in rw differ refl

-- node k was filled so many slots more
abbrev pub filled_more : (ℕ → ℕ) → (k many : ℕ) → ℕ → ℕ
filled_more filled k many i = if nat_eq i k then filled i + many else filled i

pub filled_more-same : (filled : ℕ → ℕ) (k many : ℕ) → filled_more filled k many k ≡ filled k + many
filled_more-same filled k many = let same : nat_eq k k ≡ true = grind (arith, nat_tests) in rw same refl

pub filled_more-other : (filled : ℕ → ℕ) (k many i : ℕ) → (i ≡ k → ⊥) → filled_more filled k many i ≡ filled i
filled_more-other filled k many i other = let differs : nat_eq i k ≡ false = grind (arith, nat_tests) in rw differs refl

-- the item at a place
pub item_at : {A : Type 0} (xs : List A) (i : ℕ) → i < length xs → (x : A) × (slice_get xs i ≡ Some x)
item_at [] i h = absurd (omega arith)
item_at (x ∷ xs) zero h = (x, refl)
item_at (x ∷ xs) (suc i) h = item_at xs i (omega arith)

-- a number that is not below another one is the same or above it
pub same_or_above : (a b : ℕ) → a ≤ b → (a < b) ⊎ (a ≡ b)
same_or_above zero zero h = inr refl
same_or_above zero (suc b) h = inl (omega arith)
same_or_above (suc a) zero h = absurd (omega arith)
same_or_above (suc a) (suc b) h = elim (same_or_above a b (omega arith)) [ inl low ↦ inl (omega arith) | inr same ↦ inr (ap suc same) ]
