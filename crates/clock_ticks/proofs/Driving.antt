-- The nodes that a main clock drives, told by ranks: the clock's tree stands above all others.
use Rattle.std.proofs.Common.{◌≡◌, ◌<◌, ◌≤◌, ◌+◌, ◌∙◌, ℕ, zero, suc, Bool, true, false, cond, List, nat_eq, arith, refl, ap, sym, subst}
use Rattle.std.proofs.lemmas.Bool.{eqb-true, eq-eqb, false≢true, true≢false}
use Rattle.clock_infer.specs.declared.clock_map.NodeClock.{NodeClock}
use Rattle.clock_infer.specs.declared.clock_map.NodeClock.TheVariants.{Main, Sub}
use Rattle.clock_instants.specs.Takes.{IsUnder}
use Rattle.nested_instants.specs.Clocks.{HasRanks, clock_at}

-- a node of another main clock is not below this one
pub other_main : (clocks : List NodeClock) (m n i : ℕ) → clock_at clocks i ≡ Main n → nat_eq n m ≡ false → (rank : ℕ) → IsUnder clocks (Main m) rank i → ⊥
other_main clocks m n i at differs zero under =
    let same : Main n ≡ Main m = sym at ∙ under in
    let number : n ≡ m = cc in
    true≢false (sym (eq-eqb n m number) ∙ differs)
other_main clocks m n i at differs (suc rank) under =
    let same : Main n ≡ Sub under.0 = sym at ∙ under.1 in
    absurd cc

-- a node of a sub-clock is below what the crossfade is below
pub under_sub : (clocks : List NodeClock) (m k i : ℕ) → clock_at clocks i ≡ Sub k → (rank : ℕ) → IsUnder clocks (Main m) rank i → (left : ℕ) × IsUnder clocks (Main m) left k
under_sub clocks m k i at zero under =
    let same : Sub k ≡ Main m = sym at ∙ under in
    absurd cc
under_sub clocks m k i at (suc rank) under =
    let same : Sub under.0 ≡ Sub k = sym under.1 ∙ at in
    let number : under.0 ≡ k = cc in
    (rank, subst (λ j. IsUnder clocks (Main m) rank j) number under.2)

-- whether one comes from a clock to main clock m by so many steps up
abbrev climbs : List NodeClock → (m steps : ℕ) → NodeClock → Bool
climbs clocks m zero (Main n) = nat_eq n m
climbs clocks m zero (Sub k) = false
climbs clocks m (suc steps) (Main n) = nat_eq n m
climbs clocks m (suc steps) (Sub k) = climbs clocks m steps (clock_at clocks k)

climbs-self : (clocks : List NodeClock) (m steps : ℕ) → climbs clocks m steps (Main m) ≡ true
climbs-self clocks m zero = eq-eqb m m refl
climbs-self clocks m (suc steps) = eq-eqb m m refl

climbs-under : (clocks : List NodeClock) (m steps i : ℕ) (clock : NodeClock) → clock_at clocks i ≡ clock → climbs clocks m steps clock ≡ true → (rank : ℕ) × IsUnder clocks (Main m) rank i
climbs-under clocks m zero i (Main n) at is = (0, at ∙ ap Main (eqb-true n m is))
climbs-under clocks m (suc steps) i (Main n) at is = (0, at ∙ ap Main (eqb-true n m is))
climbs-under clocks m zero i (Sub k) at is = absurd (false≢true is)
climbs-under clocks m (suc steps) i (Sub k) at is = let up = climbs-under clocks m steps k (clock_at clocks k) refl is in (suc up.0, (k, at, up.1))

-- ranks in which the clocks from which one comes to main clock m stand higher by so much
abbrev pub lifted : List NodeClock → (rank : NodeClock → ℕ) → (m by : ℕ) → NodeClock → ℕ
lifted clocks rank m by clock = cond (climbs clocks m (rank clock) clock) (rank clock + by) (rank clock)

lifted_more : (b : Bool) (rank by : ℕ) → cond b (suc rank + by) (suc rank) ≡ suc (cond b (rank + by) rank)
lifted_more true rank by = omega arith
lifted_more false rank by = refl

pub lifted_ranks : (clocks : List NodeClock) (rank : NodeClock → ℕ) (m by : ℕ) → HasRanks clocks rank → HasRanks clocks (lifted clocks rank m by)
lifted_ranks clocks rank m by ranks = record {
  deeper = λ k within.
      let up = clock_at clocks k in
      ap (λ n. cond (climbs clocks m n (Sub k)) (n + by) n) (ranks.deeper k within)
      ∙ lifted_more (climbs clocks m (rank up) up) (rank up) by;
}

-- the clock of a node that stands as high as main clock m lies in its tree
pub driven_by : (clocks : List NodeClock) (rank : NodeClock → ℕ) (m by i : ℕ) → rank (clock_at clocks i) < by
    → lifted clocks rank m by (Main m) ≤ lifted clocks rank m by (clock_at clocks i) → (left : ℕ) × IsUnder clocks (Main m) left i
driven_by clocks rank m by i few high = climbing (climbs clocks m (rank (clock_at clocks i)) (clock_at clocks i)) refl
  where
    top : lifted clocks rank m by (Main m) ≡ rank (Main m) + by
    top = ap (λ (b : Bool). cond b (rank (Main m) + by) (rank (Main m))) (climbs-self clocks m (rank (Main m)))

    climbing : (b : Bool) → climbs clocks m (rank (clock_at clocks i)) (clock_at clocks i) ≡ b → (left : ℕ) × IsUnder clocks (Main m) left i
    climbing true is = climbs-under clocks m (rank (clock_at clocks i)) i (clock_at clocks i) refl is
    climbing false is =
        let low : lifted clocks rank m by (clock_at clocks i) ≡ rank (clock_at clocks i) =
        ap (λ (b : Bool). cond b (rank (clock_at clocks i) + by) (rank (clock_at clocks i))) is in
        let t = top in
        absurd (omega (arith, few, high, low, t))
