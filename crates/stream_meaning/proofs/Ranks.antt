-- Sub-clocks nest less deep than there are nodes.
use Rattle.std.proofs.Common.{◌≡◌, ◌<◌, ◌∙◌, ℕ, zero, suc, Some, map, nat_eq, Bool, true, slice_get, arith, refl, ap, sym, subst, inl, inr}
use Rattle.std.specs.List.{list_any, range_with_len}
use Rattle.std.proofs.lemmas.Bool.{cases_lt, eq-eqb}
use Rattle.std.proofs.lemmas.List.Folds.{list_any_at}
use Rattle.std.proofs.lemmas.List.FromFn.{get_or-map-range_with_len, length-map-range_with_len}
use Rattle.std.proofs.lemmas.Map.Steps.{le-length_from_below}
use Rattle.clock_infer.specs.declared.clock_map.ClockMap.{ClockMap}
use Rattle.clock_infer.specs.declared.clock_map.NodeClock.{NodeClock}
use Rattle.clock_infer.specs.declared.clock_map.NodeClock.TheVariants.{Main, Sub}
use Rattle.clock_infer.specs.Answers.{AreRanks}

abbrev seen : (ℕ → ℕ) → ℕ → ℕ → Bool
seen rank n q = list_any (nat_eq q) (map rank (range_with_len 0 n))

own : (rank : ℕ → ℕ) (n i q : ℕ) → i < n → q ≡ rank i → seen rank n q ≡ true
own rank n i q h e = list_any_at (nat_eq q) (map rank (range_with_len 0 n)) i 0
    (subst (λ m. i < m) (sym (length-map-range_with_len rank 0 n)) h)
    (ap (nat_eq q) (get_or-map-range_with_len rank 0 n i i 0 h (omega arith)) ∙ eq-eqb q (rank i) e)

-- the clocks of n nodes with ranks; each sub-clock is that of one of them
pub record AreNested (clocks : ClockMap) (clock : ℕ → NodeClock) (n : ℕ) (rank : ℕ → ℕ) (deepest : ℕ) : Type 0 where
  pub ranks : AreRanks clocks rank deepest
  pub there : (i : ℕ) → i < n → slice_get clocks.of i ≡ Some (clock i)
  pub within : (i k : ℕ) → slice_get clocks.of i ≡ Some (Sub k) → k < n

module _ (clocks : ClockMap) (clock : ℕ → NodeClock) (n : ℕ) (rank : ℕ → ℕ) (deepest : ℕ) (nested : AreNested clocks clock n rank deepest) where
  pub deeper : (i k : ℕ) → i < n → clock i ≡ Sub k → rank i ≡ suc (rank k)
  deeper i k h e = nested.ranks.deeper i k (nested.there i h ∙ ap (λ (c : NodeClock). Some c) e)

  -- where those up to each rank below are, so are those up to a rank that is one more
  seen_step : (r i : ℕ) → i < n → rank i ≡ suc r → (q : ℕ) → q < suc r → ((k : ℕ) → k < n → rank k ≡ r → seen rank n q ≡ true)
      → (c : NodeClock) → clock i ≡ c → seen rank n q ≡ true
  seen_step r i h e q less before (Main m) at =
      let top = nested.ranks.main i m (nested.there i h ∙ ap (λ (c : NodeClock). Some c) at) in absurd (omega (arith, top, e))
  seen_step r i h e q less before (Sub k) at =
      let down = deeper i k h at in
      before k (nested.within i k (nested.there i h ∙ ap (λ (c : NodeClock). Some c) at)) (omega (arith, down, e))

  -- each number up to a rank is a rank
  seen_below : (r i : ℕ) → i < n → rank i ≡ r → (q : ℕ) → q < suc r → seen rank n q ≡ true
  seen_below zero i h e q less = own rank n i q h (omega (arith, less, e))
  seen_below (suc r) i h e q less = elim (cases_lt q (suc r)) [
    | inl low ↦ seen_step r i h e q low (λ k inside same. seen_below r k inside same q low) (clock i) refl
    | inr high ↦ own rank n i q h (omega (arith, less, high, e))
  ]

  pub rank_below : (i : ℕ) → i < n → rank i < n
  rank_below i h =
      let long = le-length_from_below (map rank (range_with_len 0 n)) (suc (rank i)) (seen_below (rank i) i h refl) in
      let size = length-map-range_with_len rank 0 n in omega (arith, long, size)
