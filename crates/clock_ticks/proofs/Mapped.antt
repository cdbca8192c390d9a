-- What the clocks of a plan give: ranks, a bound on how deep sub-clocks nest, and the slots of the sub-clocks.
use mathlib.Core.Path.{fun_ext}
use Rattle.std.proofs.Common.{◌≡◌, ◌<◌, ◌+◌, ◌∙◌, ℕ, zero, suc, Some, List, length, slice_get, arith, refl, ap, sym}
use Rattle.std.proofs.lemmas.Option.{slice_get_within, slice_get-get_or}
use Rattle.plan_core.specs.declared.plan.Plan.{Plan}
use Rattle.clock_infer.specs.declared.clock_map.NodeClock.{NodeClock}
use Rattle.clock_infer.specs.declared.clock_map.NodeClock.TheVariants.{Main, Sub}
use Rattle.clock_infer.proofs.MapLaws.{ranks, crossfades}
use Rattle.stream_meaning.specs.Instants.{Setting, IsMeaning, crossfaded, slots_of, sub_of, sub_within}
use Rattle.stream_meaning.proofs.Ranks.{AreNested, rank_below}
use Rattle.stream_meaning.proofs.Existence.{first_instants-sub}
use Rattle.stream_meaning.proofs.Calling.{calls_are}
use Rattle.stream_meaning.specs.Calls.{GoDown}
use Rattle.frame_core.specs.Slots.{Slot}
use Rattle.nested_instants.specs.Clocks.{HasLevels, HasRanks, clock_at}
use Rattle.clock_ticks.specs.Engines.{AreClocksOf}

-- the rank of a clock, where nodes have these
abbrev pub clock_rank : (ℕ → ℕ) → NodeClock → ℕ
clock_rank rank (Main m) = 0
clock_rank rank (Sub k) = suc (rank k)

module _ (plan : Plan) (clocks : List NodeClock) (of : AreClocksOf plan clocks) (in_clocks : length clocks ≡ length plan.nodes) where
  there : (i : ℕ) → i < length plan.nodes → slice_get of.map.of i ≡ Some (clock_at clocks i)
  there i within = ap (λ xs. slice_get xs i) (sym of.are) ∙ slice_get-get_or clocks i (Main 0) (omega (arith, within, in_clocks))

  pub nested : AreNested of.map (clock_at clocks) (length plan.nodes) (ranks plan of.map of.assigned).0 (ranks plan of.map of.assigned).1
  nested = record {
    ranks = (ranks plan of.map of.assigned).2;
    there = there;
    within = λ i k at. (let fading = crossfades plan of.map i k of.assigned at in slice_get_within plan.nodes k fading.node fading.there);
  }

  pub rank_is : (i : ℕ) → i < length plan.nodes → (clock : NodeClock) → clock_at clocks i ≡ clock → (ranks plan of.map of.assigned).0 i ≡ clock_rank (ranks plan of.map of.assigned).0 clock
  rank_is i within (Main m) at = (ranks plan of.map of.assigned).2.main i m (there i within ∙ ap (λ (c : NodeClock). Some c) at)
  rank_is i within (Sub k) at = (ranks plan of.map of.assigned).2.deeper i k (there i within ∙ ap (λ (c : NodeClock). Some c) at)

  pub has_ranks : HasRanks clocks (clock_rank (ranks plan of.map of.assigned).0)
  has_ranks = record { deeper = λ k within. ap suc (rank_is k (omega (arith, within, in_clocks)) (clock_at clocks k) refl) }

  pub rank_low : (i : ℕ) → i < length plan.nodes → clock_rank (ranks plan of.map of.assigned).0 (clock_at clocks i) < length plan.nodes
  rank_low i within =
      let low = rank_below of.map (clock_at clocks) (length plan.nodes) (ranks plan of.map of.assigned).0 (ranks plan of.map of.assigned).1 nested i within in
      let same = rank_is i within (clock_at clocks i) refl in
      omega (arith, low, same)

  -- a main clock has no more levels below it than there are nodes
  pub has_levels : (m : ℕ) → HasLevels clocks (Main m) (length plan.nodes)
  has_levels m = record {
    rank = clock_rank (ranks plan of.map of.assigned).0;
    ranks = has_ranks;
    enough = λ k within. (let low = rank_below of.map (clock_at clocks) (length plan.nodes) (ranks plan of.map of.assigned).0 (ranks plan of.map of.assigned).1 nested k (omega (arith, within, in_clocks)) in omega (arith, low));
  }

-- the slots of the sub-clocks are there: one level more changes nothing where there are levels enough
module _ (setting : Setting) (of : AreClocksOf setting.plan setting.clocks) (in_clocks : length setting.clocks ≡ length setting.plan.nodes) where
  within_more : (depth k : ℕ) → k < length setting.plan.nodes → length setting.plan.nodes < depth + suc ((ranks setting.plan of.map of.assigned).0 k)
      → sub_within setting depth k ≡ sub_within setting (suc depth) k
  within_more zero k inside enough =
      let low = rank_below of.map (clock_at setting.clocks) (length setting.plan.nodes) (ranks setting.plan of.map of.assigned).0 (ranks setting.plan of.map of.assigned).1
      (nested setting.plan setting.clocks of in_clocks) k inside in absurd (omega (arith, low, enough))
  within_more (suc depth) k inside enough = fun_ext (λ m. ap (λ past. slots_of past (crossfaded setting.plan.nodes k))
      (first_instants-sub setting (sub_within setting depth) (sub_within setting (suc depth)) (Sub k)
      (record { each = λ i h e. within_more depth i h (let down = rank_is setting.plan setting.clocks of in_clocks i h (Sub k) e in omega (arith, down, enough)) }) m))

  pub meaning_of : IsMeaning setting (sub_of setting)
  meaning_of k m = ap (λ past. slots_of past (crossfaded setting.plan.nodes k))
      (first_instants-sub setting (sub_within setting (length setting.plan.nodes)) (sub_of setting) (Sub k)
      (record { each = λ i h e. within_more (length setting.plan.nodes) i h (omega arith) }) m)

  pub goes_down : (sub : ℕ → ℕ → List Slot) → GoDown setting sub
  goes_down sub = record {
    each = λ clock past. calls_are setting sub of.map (ranks setting.plan of.map of.assigned).0 (ranks setting.plan of.map of.assigned).1 (nested setting.plan setting.clocks of in_clocks) clock past (λ k h e. omega arith);
  }
