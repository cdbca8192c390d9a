-- What lies ahead of nodes that gave.
use Rattle.std.proofs.Common.{◌≡◌, ◌<◌, ◌≤◌, ◌∙◌, ℕ, suc, true, Some, List, length, slice_get, arith, sym, subst, inl, inr}
use Rattle.std.specs.Prelude.{slice_index_or}
use Rattle.std.proofs.lemmas.Bool.{cases_lt, true≢false}
use Rattle.clock_infer.specs.declared.clock_map.NodeClock.{NodeClock}
use Rattle.stream_meaning.specs.declared.part.Part.{Part}
use Rattle.node_states.specs.declared.state.NodeState.{NodeState}
use Rattle.node_states.specs.Passing.{passes}
use Rattle.node_states.specs.Stretches.{LiesAhead}
use Rattle.node_states.proofs.Ahead.{lies_less}
use Rattle.clock_instants.specs.Held.{AllPassOn, gave_at}
use Rattle.clock_nodes.specs.declared.scene.Scene.{Scene}
use Rattle.clock_nodes.specs.Nodes.{IsFirst, lies_at}
use Rattle.clock_instants.specs.Stretches.{AllLieAhead}
use Rattle.clock_nodes.proofs.Places.{same_or_other}

-- so many cells or items of each node of a clock that gave, of those below this one, are there and begin no track, but
-- where cells pass
pub record LieAheadBelow (scene : Scene) (clock : NodeClock) (held : List Part) (states : List NodeState) (below count : ℕ) : Type 0 where
  pub each : (i : ℕ) (state : NodeState) → i < below → lies_at scene.clocks.now clock i ≡ true → slice_get states i ≡ Some state
      → gave_at held i ≡ true → LiesAhead scene.library.now state count

module _ (scene : Scene) (clock : NodeClock) (held : List Part) (states : List NodeState) where
  pub ahead_none : (count : ℕ) → LieAheadBelow scene clock held states 0 count
  ahead_none count = record { each = λ i state low inside found gave. absurd (omega (arith, low)) }

  -- nodes of other clocks are not asked
  pub ahead_skip : (i n count : ℕ) → IsFirst scene.clocks.now clock i n → LieAheadBelow scene clock held states i count
      → LieAheadBelow scene clock held states n count
  ahead_skip i n count first ahead = record {
    each = λ k state low inside found gave. elim (cases_lt k i) [
      | inl less ↦ ahead.each k state less inside found gave
      | inr high ↦ absurd (true≢false (sym inside ∙ first.skips k high low))
    ];
  }

  -- one node more, of which no more is asked than of those before it
  pub ahead_step : (i count few : ℕ) → few ≤ count
      → ((state : NodeState) → slice_get states i ≡ Some state → gave_at held i ≡ true → LiesAhead scene.library.now state few)
      → LieAheadBelow scene clock held states i count → LieAheadBelow scene clock held states (suc i) few
  ahead_step i count few less here ahead = record {
    each = λ k state low inside found gave. elim (same_or_other i k) [
      | inl same ↦ subst (λ j. slice_get states j ≡ Some state → gave_at held j ≡ true → LiesAhead scene.library.now state few) same (here state) found gave
      | inr apart ↦ lies_less scene.library.now state count few less (ahead.each k state (omega (arith, low, apart)) inside found gave)
    ];
  }

  pub ahead_all : (n count : ℕ) → n ≡ length scene.clocks.now → LieAheadBelow scene clock held states n count
      → AllLieAhead scene clock held states count
  ahead_all n count all ahead = record {
    each = λ i state low inside found gave. ahead.each i state (omega (arith, low, all)) inside found gave;
  }

  pub ahead_less : (count few : ℕ) → few ≤ count → AllLieAhead scene clock held states count
      → AllLieAhead scene clock held states few
  ahead_less count few less ahead = record {
    each = λ i state low inside found gave. lies_less scene.library.now state count few less (ahead.each i state low inside found gave);
  }

-- the same over lists that are equal at the nodes of the clock
pub ahead_same : (scene : Scene) (clock : NodeClock) (held held_new : List Part) (states states_new : List NodeState) (count : ℕ)
    → ((i : ℕ) → lies_at scene.clocks.now clock i ≡ true → gave_at held_new i ≡ gave_at held i) → ((i : ℕ) → lies_at scene.clocks.now clock i ≡ true → slice_get states_new i ≡ slice_get states i)
    → AllLieAhead scene clock held states count → AllLieAhead scene clock held_new states_new count
ahead_same scene clock held held_new states states_new count same alike ahead = record {
  each = λ i state low inside found gave. ahead.each i state low inside (sym (alike i inside) ∙ found) (sym (same i inside) ∙ gave);
}

-- the crossfades of a clock below this node that gave and through which cells pass go on no longer than their sub-clocks
pub record PassOnBelow (scene : Scene) (clock : NodeClock) (held : List Part) (states : List NodeState) (rests : List ℕ) (below count : ℕ) : Type 0 where
  pub each : (i : ℕ) (state : NodeState) → i < below → lies_at scene.clocks.now clock i ≡ true → slice_get states i ≡ Some state
      → gave_at held i ≡ true → passes state ≡ true → count ≤ slice_index_or rests i 0

module _ (scene : Scene) (clock : NodeClock) (held : List Part) (states : List NodeState) (rests : List ℕ) where
  pub through_none : (count : ℕ) → PassOnBelow scene clock held states rests 0 count
  through_none count = record { each = λ i state low inside found gave through. absurd (omega (arith, low)) }

  pub through_skip : (i n count : ℕ) → IsFirst scene.clocks.now clock i n → PassOnBelow scene clock held states rests i count
      → PassOnBelow scene clock held states rests n count
  through_skip i n count first on = record {
    each = λ k state low inside found gave through. elim (cases_lt k i) [
      | inl less ↦ on.each k state less inside found gave through
      | inr high ↦ absurd (true≢false (sym inside ∙ first.skips k high low))
    ];
  }

  pub through_step : (i count few : ℕ) → few ≤ count
      → ((state : NodeState) → slice_get states i ≡ Some state → gave_at held i ≡ true → passes state ≡ true → few ≤ slice_index_or rests i 0)
      → PassOnBelow scene clock held states rests i count → PassOnBelow scene clock held states rests (suc i) few
  through_step i count few less here on = record {
    each = λ k state low inside found gave through. elim (same_or_other i k) [
      | inl same ↦ subst (λ j. slice_get states j ≡ Some state → gave_at held j ≡ true → passes state ≡ true → few ≤ slice_index_or rests j 0) same (here state) found gave through
      | inr apart ↦ (let l = on.each k state (omega (arith, low, apart)) inside found gave through in omega (arith, l, less))
    ];
  }

  pub through_all : (n count : ℕ) → n ≡ length scene.clocks.now → PassOnBelow scene clock held states rests n count
      → AllPassOn scene clock held states rests count
  through_all n count all on = record {
    each = λ i state low inside found gave through. on.each i state (omega (arith, low, all)) inside found gave through;
  }

  pub through_less : (count few : ℕ) → few ≤ count → AllPassOn scene clock held states rests count
      → AllPassOn scene clock held states rests few
  through_less count few less on = record {
    each = λ i state low inside found gave through. (let l = on.each i state low inside found gave through in omega (arith, l, less));
  }

pub through_same : (scene : Scene) (clock : NodeClock) (held held_new : List Part) (states states_new : List NodeState) (rests rests_new : List ℕ) (count : ℕ)
    → ((i : ℕ) → lies_at scene.clocks.now clock i ≡ true → gave_at held_new i ≡ gave_at held i) → ((i : ℕ) → lies_at scene.clocks.now clock i ≡ true → slice_get states_new i ≡ slice_get states i)
    → ((i : ℕ) → lies_at scene.clocks.now clock i ≡ true → slice_index_or rests_new i 0 ≡ slice_index_or rests i 0)
    → AllPassOn scene clock held states rests count → AllPassOn scene clock held_new states_new rests_new count
through_same scene clock held held_new states states_new rests rests_new count same alike equal on = record {
  each = λ i state low inside found gave through.
      let l = on.each i state low inside (sym (alike i inside) ∙ found) (sym (same i inside) ∙ gave) through in
      let e = equal i inside in
      omega (arith, l, e);
}
