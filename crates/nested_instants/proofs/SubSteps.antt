-- The stretches of a clock's sub-clocks, one node after another, whatever the states stood for.
use Rattle.std.proofs.Common.{◌≡◌, ◌<◌, ◌≤◌, ◌+◌, ◌&&◌, ◌∙◌, ℕ, suc, Bool, true, false, Some, List, length, slice_get, arith, refl, ap, sym, subst}
use Rattle.std.specs.Prelude.{is_some, slice_index_or}
use Rattle.std.specs.Option.{option_map_or}
use Rattle.std.proofs.lemmas.Bool.{true≢false}
use Rattle.clock_infer.specs.declared.clock_map.NodeClock.{NodeClock}
use Rattle.clock_infer.specs.declared.clock_map.NodeClock.TheVariants.{Main, Sub}
use Rattle.stream_meaning.specs.Instants.{gives, first_instants, moment_after, part_at}
use Rattle.stream_meaning.proofs.Existence.{same_clock-true}
use Rattle.node_states.specs.declared.time.WeekTime.{WeekTime}
use Rattle.node_states.specs.Passing.{passes}
use Rattle.node_states.specs.Times.{TimeStands}
use Rattle.clock_instants.specs.Held.{AllPassOn, gave_at, goes_through, passes_at}
use Rattle.clock_nodes.specs.Nodes.{IsFirst, lies_at}
use Rattle.clock_instants.specs.Stretches.{AllLieAhead}
use Rattle.clock_instants.proofs.Ahead.{ahead_less, ahead_same, through_less, through_same}
use Rattle.clock_instants.proofs.Kept.{held_gives}
use Rattle.clock_nodes.specs.Scenes.{setting_over}
use Rattle.clock_nodes.specs.declared.scene.Scene.{Scene}
use Rattle.nested_instants.specs.declared.clock_states.ClockStates.{ClockStates}
use Rattle.nested_instants.proofs.Levels.{lanes_same}
use Rattle.clock_instants.specs.Stretches.{HasLanes}
use Rattle.nested_instants.specs.Clocks.{AreLeft, AreResting, HasRanks, IsIdle, clock_at, is_in, is_node, is_none, is_upto, rest_at}
use Rattle.nested_instants.specs.Stretches.{AreAbove, AreSamplesLeft, ClockMade, SubClockMade, SubClocksMade, SubsMade}
use Rattle.op_mix.specs.Stretches.{samples_of}
use Rattle.nested_instants.proofs.Above.{above_then, samples_then}
use Rattle.nested_instants.proofs.Equal.{are_same}
use Rattle.nested_instants.proofs.SubRuns.{subs_none, subs_skip, subs_step, subs_upto}

-- node i is passed, and those of other clocks behind it
pub above_step : (clocks : List NodeClock) (rank : NodeClock → ℕ) (clock : NodeClock) (i n : ℕ) (a b c : ClockStates) → clock_at clocks i ≡ clock → IsFirst clocks clock (suc i) n
    → AreAbove clocks rank (rank clock) (is_upto clocks clock i) a b → AreAbove clocks rank (rank (clock_at clocks i)) (is_node i) b c → AreAbove clocks rank (rank clock) (is_upto clocks clock n) a c
above_step clocks rank clock i n a b c here next one two =
    let low = next.low in
    above_then clocks rank (rank clock) (rank (clock_at clocks i)) (is_upto clocks clock n) (is_upto clocks clock i) (is_node i) a b c (let e : rank (clock_at clocks i) ≡ rank clock = ap rank here in omega (arith, e))
    (λ j level upto. let less = upto.0 in (omega (arith, less, low), upto.1)) (λ j level same. (omega (arith, same, low), ap (clock_at clocks) same ∙ here)) one two

module _ (scene : Scene) (in_clocks : length scene.clocks.now ≡ length scene.plan.now.nodes) (clock : NodeClock) (many : ℕ) (first : ClockStates) where
  pub subs_start : (n : ℕ) → IsFirst scene.clocks.now clock 0 n → SubClocksMade scene clock many n first first
  subs_start n start = record {
    run = λ other sub rank progress own m can.
        let S = setting_over scene other in
        let T = goes_through (moment_after S sub clock (first_instants S sub clock m)) first.states.items in
        subs_upto S sub rank own can.world in_clocks clock many T progress 0 n first (omega arith)
        (λ k up low inside. true≢false (sym (are_same (clock_at scene.clocks.now k) clock inside) ∙ start.skips k up low))
        (subs_none S sub rank own can.world in_clocks clock many T progress first can.stand);
  }

  pub subs_next : (old new : ClockStates) (i n : ℕ) → i < length scene.plan.now.nodes → clock_at scene.clocks.now i ≡ clock → IsFirst scene.clocks.now clock (suc i) n
      → ((rank : NodeClock → ℕ) → HasRanks scene.clocks.now rank → AreAbove scene.clocks.now rank (rank clock) (is_upto scene.clocks.now clock i) first old)
      → SubClocksMade scene clock many i first old → SubClockMade scene i many old new → SubClocksMade scene clock many n first new
  subs_next old new i n within here next above before one = record {
    run = λ other sub rank progress own m can.
        let S = setting_over scene other in
        let T = goes_through (moment_after S sub clock (first_instants S sub clock m)) first.states.items in
        let s = before.run other sub rank progress own m can in
        let a = above rank can.world.ranks in
        let low : rank (clock_at scene.clocks.now i) ≤ rank clock = (let e : rank (clock_at scene.clocks.now i) ≡ rank clock = ap rank here in omega (arith, e)) in
        let gave : gives (moment_after S sub clock (first_instants S sub clock m)) i ≡ gave_at old.room.held.items i =
        sym (held_gives S sub clock (first_instants S sub clock m) first.room.held.items i can.goes.held_is within (are_same (clock_at scene.clocks.now i) clock here))
        ∙ sym (ap (λ p. is_some p.slot) (a.held i low)) in
        let test : T i ≡ (gave_at old.room.held.items i && passes_at old.states.items i) =
        ap (λ (b : Bool). b && passes_at first.states.items i) gave ∙ ap (λ found. gave_at old.room.held.items i && option_map_or passes found false) (sym (a.states i low)) in
        subs_upto S sub rank own can.world in_clocks clock many T progress (suc i) n new next.low
        (λ k up less inside. true≢false (sym (are_same (clock_at scene.clocks.now k) clock inside) ∙ next.skips k up less))
        (subst (λ c. SubsMade S sub rank c many T (suc i) progress new) here
        (one.step other sub rank progress own T can.world test
        (subst (λ c. SubsMade S sub rank c many T i progress old) (sym here) s)));
  }

module _ (scene : Scene) (in_clocks : length scene.clocks.now ≡ length scene.plan.now.nodes) (i many : ℕ) (within : i < length scene.plan.now.nodes) where
  -- node i is no such crossfade
  pub sub_skipped : (all : ClockStates) → (gave_at all.room.held.items i && passes_at all.states.items i) ≡ false → SubClockMade scene i many all all
  sub_skipped all not = record {
    step = λ other sub rank progress own through world is s.
        subs_skip (setting_over scene other) sub rank own world in_clocks (clock_at scene.clocks.now i) many through progress i all (λ inside. is ∙ not) s;
  }

  -- it is one
  pub sub_run : (all kept mid new : ClockStates) → (gave_at all.room.held.items i && passes_at all.states.items i) ≡ true → 0 < many → many ≤ rest_at all i
      → kept.states ≡ all.states → kept.times ≡ all.times → kept.room.held ≡ all.room.held → kept.room.left ≡ all.room.left → kept.room.right ≡ all.room.right
      → rest_at kept i ≡ 0 → ((k : ℕ) → (k ≡ i → ⊥) → rest_at kept k ≡ rest_at all k)
      → ClockMade scene (Sub i) many kept mid → mid.room.held ≡ kept.room.held
      → ((rank : NodeClock → ℕ) → HasRanks scene.clocks.now rank → AreLeft scene.clocks.now rank (rank (Sub i)) (is_in scene.clocks.now (Sub i)) kept mid)
      → ((rank : NodeClock → ℕ) → HasRanks scene.clocks.now rank → AreSamplesLeft scene.clocks.now rank (rank (Sub i)) (is_in scene.clocks.now (Sub i)) many kept mid)
      → new.states ≡ mid.states → new.room ≡ mid.room → ((k : ℕ) → (k ≡ i → ⊥) → slice_get new.times.items k ≡ slice_get mid.times.items k)
      → ((start n : ℕ) (before after : WeekTime) → slice_get mid.times.items i ≡ Some before → slice_get new.times.items i ≡ Some after → TimeStands start n before → TimeStands start (n + many) after)
      → length mid.times.items ≡ length scene.plan.now.nodes → length new.times.items ≡ length scene.plan.now.nodes → SubClockMade scene i many all new
  sub_run all kept mid new so some rest states times held left right none others run held_mid leaves samples new_states new_runs new_times later in_mid in_new = record {
    step = λ other sub rank progress own through world is s.
        let S = setting_over scene other in
        subs_step S sub rank own world in_clocks (clock_at scene.clocks.now i) many through progress i within refl (is ∙ so) some all kept mid new s rest states times held left right none others
        (λ n can. run.run other sub rank s.now own n can) held_mid (leaves rank world.ranks) (samples rank world.ranks) new_states new_runs new_times (later S.start) in_mid in_new;
  }

-- what the sub-clock's stretch asks of the states of which no instants of it are kept any more
module _ (scene : Scene) (i many : ℕ) (all kept : ClockStates) (resting : AreResting scene all) (some : 0 < many) (rest : many ≤ rest_at all i)
    (states : kept.states ≡ all.states) (held : kept.room.held ≡ all.room.held) where
  pub sub_ahead : AllLieAhead scene (Sub i) kept.room.held.items kept.states.items many
  sub_ahead =
      ahead_same scene (Sub i) all.room.held.items kept.room.held.items all.states.items kept.states.items many
      (λ k inside. ap (λ ps. is_some (part_at ps.items k).slot) held) (λ k inside. ap (λ xs. slice_get xs.items k) states)
      (ahead_less scene (Sub i) all.room.held.items all.states.items (rest_at all i) many rest (resting.ahead i (omega (arith, some, rest))))

  pub sub_through : (rank : NodeClock → ℕ) → HasRanks scene.clocks.now rank → i < length scene.clocks.now → ((k : ℕ) → (k ≡ i → ⊥) → rest_at kept k ≡ rest_at all k)
      → AllPassOn scene (Sub i) kept.room.held.items kept.states.items kept.room.rests.items many
  sub_through rank ranks within others =
      through_same scene (Sub i) all.room.held.items kept.room.held.items all.states.items kept.states.items all.room.rests.items kept.room.rests.items many
      (λ k inside. ap (λ ps. is_some (part_at ps.items k).slot) held) (λ k inside. ap (λ xs. slice_get xs.items k) states)
      (λ k inside. others k (λ e. absurd (apart k inside e)))
      (through_less scene (Sub i) all.room.held.items all.states.items all.room.rests.items (rest_at all i) many rest (resting.through i (omega (arith, some, rest))))
    where
      apart : (k : ℕ) → lies_at scene.clocks.now (Sub i) k ≡ true → k ≡ i → ⊥
      apart k inside e =
          let here = sym (same_clock-true (clock_at scene.clocks.now k) (Sub i) inside) ∙ ap (clock_at scene.clocks.now) e in
          let up = ranks.deeper i within in let same : rank (Sub i) ≡ rank (clock_at scene.clocks.now i) = ap rank here in omega (arith, up, same)

-- and its clock
pub sub_idle : (i : ℕ) (kept : ClockStates) → rest_at kept i ≡ 0 → IsIdle (Sub i) kept
sub_idle i kept none = record { none = λ k e. ap (rest_at kept) (sym (number_same i k e)) ∙ none }
  where
    number : NodeClock → ℕ
    number (Main m) = 0
    number (Sub k) = k

    number_same : (a b : ℕ) → Sub a ≡ Sub b → a ≡ b
    number_same a b e = ap number e

-- the samples of a clock's nodes and of those in clocks of a lower rank
pub samples_step : (clocks : List NodeClock) (rank : NodeClock → ℕ) (clock : NodeClock) (i many : ℕ) (a b c : ClockStates) → HasRanks clocks rank → i < length clocks → clock_at clocks i ≡ clock
    → AreSamplesLeft clocks rank (rank clock) is_none many a b → AreSamplesLeft clocks rank (rank (Sub i)) (is_in clocks (Sub i)) many b c → AreSamplesLeft clocks rank (rank clock) is_none many a c
samples_step clocks rank clock i many a b c ranks within here one two =
    let up = ranks.deeper i within in
    let level : rank (clock_at clocks i) ≡ rank clock = ap rank here in
    samples_then clocks rank (rank clock) (rank (Sub i)) is_none is_none (is_in clocks (Sub i)) many a b c (omega (arith, up, level)) (λ j low none. none)
    (λ j low inside. let e : rank (clock_at clocks j) ≡ rank (Sub i) = ap rank inside in omega (arith, e, up, level, low)) one two

-- the run of node i's sub-clock leaves what lies above it
pub above_sub : (clocks : List NodeClock) (rank : NodeClock → ℕ) (i : ℕ) (all kept mid new : ClockStates) → HasRanks clocks rank → i < length clocks
    → kept.states ≡ all.states → kept.times ≡ all.times → kept.room.held ≡ all.room.held → ((k : ℕ) → (k ≡ i → ⊥) → rest_at kept k ≡ rest_at all k)
    → kept.room.left ≡ all.room.left → kept.room.right ≡ all.room.right → AreLeft clocks rank (rank (Sub i)) (is_in clocks (Sub i)) kept mid
    → new.states ≡ mid.states → new.room ≡ mid.room → ((k : ℕ) → (k ≡ i → ⊥) → slice_get new.times.items k ≡ slice_get mid.times.items k)
    → AreAbove clocks rank (rank (clock_at clocks i)) (is_node i) all new
above_sub clocks rank i all kept mid new ranks within states times held rests kept_left kept_right left new_states new_runs new_times = record {
  states = λ k low. ap (λ xs. slice_get xs.items k) new_states ∙ left.states k (apart k low) (deep k low) ∙ ap (λ xs. slice_get xs.items k) states;
  held = λ k low. ap (λ r. part_at r.held.items k) new_runs ∙ left.held k (apart k low) (deep k low) ∙ ap (λ ps. part_at ps.items k) held;
  times = λ k other low. new_times k other ∙ left.times k (apart k low) (deep k low) ∙ ap (λ xs. slice_get xs.items k) times;
  rests = λ k other low. ap (λ r. slice_index_or r.rests.items k 0) new_runs ∙ left.rests k (apart k low) (deep k low) ∙ rests k other;
  laned = λ k has. subst (λ r. HasLanes r.left.items r.right.items k) (sym new_runs) (left.laned k (lanes_same all kept kept_left kept_right k has));
}
  where
    deep : (k : ℕ) → rank (clock_at clocks k) ≤ rank (clock_at clocks i) → rank (clock_at clocks k) ≤ rank (Sub i)
    deep k low = let up = ranks.deeper i within in omega (arith, up, low)

    apart : (k : ℕ) → rank (clock_at clocks k) ≤ rank (clock_at clocks i) → clock_at clocks k ≡ Sub i → ⊥
    apart k low e = let up = ranks.deeper i within in let same : rank (clock_at clocks k) ≡ rank (Sub i) = ap rank e in omega (arith, up, same, low)

-- and the samples of other clocks' nodes
pub samples_sub : (clocks : List NodeClock) (rank : NodeClock → ℕ) (i many : ℕ) (all kept mid new : ClockStates)
    → kept.room.left ≡ all.room.left → kept.room.right ≡ all.room.right → AreSamplesLeft clocks rank (rank (Sub i)) (is_in clocks (Sub i)) many kept mid
    → new.room ≡ mid.room → AreSamplesLeft clocks rank (rank (Sub i)) (is_in clocks (Sub i)) many all new
samples_sub clocks rank i many all kept mid new left right samples room = record {
  left = λ k other low. ap (λ r. samples_of r.left.items k many) room ∙ samples.left k other low ∙ ap (λ xs. samples_of xs.items k many) left;
  right = λ k other low. ap (λ r. samples_of r.right.items k many) room ∙ samples.right k other low ∙ ap (λ xs. samples_of xs.items k many) right;
}
