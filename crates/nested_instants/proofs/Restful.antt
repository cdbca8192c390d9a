-- The instants that are kept of sub-clocks, while states change.
use Rattle.std.proofs.Common.{◌≡◌, ◌<◌, ◌∙◌, ℕ, false, length, slice_get, arith, ap, sym, subst, inl, inr}
use Rattle.std.specs.Prelude.{is_some}
use Rattle.clock_infer.specs.declared.clock_map.NodeClock.{NodeClock}
use Rattle.clock_infer.specs.declared.clock_map.NodeClock.TheVariants.{Sub}
use Rattle.stream_meaning.specs.Instants.{part_at, same_clock}
use Rattle.stream_meaning.proofs.Existence.{same_clock-true}
use Rattle.clock_instants.specs.Held.{AllPassOn}
use Rattle.clock_instants.specs.Stretches.{AllLieAhead}
use Rattle.clock_instants.proofs.Ahead.{ahead_same, through_same}
use Rattle.clock_nodes.proofs.Places.{same_or_other}
use Rattle.clock_nodes.specs.declared.scene.Scene.{Scene}
use Rattle.nested_instants.specs.declared.clock_states.ClockStates.{ClockStates}
use Rattle.nested_instants.specs.Clocks.{AreResting, HasRanks, IsIdle, clock_at, rest_at}
use Rattle.nested_instants.proofs.Equal.{they_differ}

module _ (scene : Scene) (old new : ClockStates) (resting : AreResting scene old) where
  -- what the nodes of the sub-clock did, their states and how far its own sub-clocks go on are as they were
  ahead_kept : (k : ℕ) → rest_at new k ≡ rest_at old k
      → ((i : ℕ) → clock_at scene.clocks.now i ≡ Sub k → (slice_get new.states.items i ≡ slice_get old.states.items i) × (part_at new.room.held.items i ≡ part_at old.room.held.items i))
      → 0 < rest_at new k → AllLieAhead scene (Sub k) new.room.held.items new.states.items (rest_at new k)
  ahead_kept k same alike some =
      ahead_same scene (Sub k) old.room.held.items new.room.held.items old.states.items new.states.items (rest_at new k)
      (λ i inside. ap (λ p. is_some p.slot) (alike i (same_clock-true (clock_at scene.clocks.now i) (Sub k) inside)).1)
      (λ i inside. (alike i (same_clock-true (clock_at scene.clocks.now i) (Sub k) inside)).0)
      (subst (AllLieAhead scene (Sub k) old.room.held.items old.states.items) (sym same) (resting.ahead k (subst (λ n. 0 < n) same some)))

  through_kept : (k : ℕ) → rest_at new k ≡ rest_at old k
      → ((i : ℕ) → clock_at scene.clocks.now i ≡ Sub k → (slice_get new.states.items i ≡ slice_get old.states.items i) × (part_at new.room.held.items i ≡ part_at old.room.held.items i))
      → ((i : ℕ) → clock_at scene.clocks.now i ≡ Sub k → rest_at new i ≡ rest_at old i)
      → 0 < rest_at new k → AllPassOn scene (Sub k) new.room.held.items new.states.items new.room.rests.items (rest_at new k)
  through_kept k same alike rests some =
      through_same scene (Sub k) old.room.held.items new.room.held.items old.states.items new.states.items old.room.rests.items new.room.rests.items (rest_at new k)
      (λ i inside. ap (λ p. is_some p.slot) (alike i (same_clock-true (clock_at scene.clocks.now i) (Sub k) inside)).1)
      (λ i inside. (alike i (same_clock-true (clock_at scene.clocks.now i) (Sub k) inside)).0)
      (λ i inside. rests i (same_clock-true (clock_at scene.clocks.now i) (Sub k) inside))
      (subst (AllPassOn scene (Sub k) old.room.held.items old.states.items old.room.rests.items) (sym same) (resting.through k (subst (λ n. 0 < n) same some)))

  -- nodes of a clock go on of which no instants are kept
  pub resting_own : (clock : NodeClock) → IsIdle clock old → ((i : ℕ) → rest_at new i ≡ rest_at old i)
      → ((i : ℕ) → same_clock (clock_at scene.clocks.now i) clock ≡ false → slice_get new.states.items i ≡ slice_get old.states.items i)
      → ((i : ℕ) → same_clock (clock_at scene.clocks.now i) clock ≡ false → part_at new.room.held.items i ≡ part_at old.room.held.items i)
      → AreResting scene new
  resting_own clock idle rests states held = record {
    ahead = λ k some. ahead_kept k (rests k) (λ i here. (states i (out k i some here), held i (out k i some here))) some;
    through = λ k some. through_kept k (rests k) (λ i here. (states i (out k i some here), held i (out k i some here))) (λ i here. rests i) some;
  }
    where
      out : (k i : ℕ) → 0 < rest_at new k → clock_at scene.clocks.now i ≡ Sub k → same_clock (clock_at scene.clocks.now i) clock ≡ false
      out k i some here = they_differ (clock_at scene.clocks.now i) clock (λ e. let none = idle.none k (sym e ∙ here) in let same = rests k in absurd (omega (arith, none, same, some)))

  -- other instants are kept of a sub-clock
  pub resting_kept : (rank : NodeClock → ℕ) (k rest : ℕ) → HasRanks scene.clocks.now rank → k < length scene.clocks.now → IsIdle (clock_at scene.clocks.now k) old → rest_at new k ≡ rest
      → ((i : ℕ) → (i ≡ k → ⊥) → rest_at new i ≡ rest_at old i) → new.states.items ≡ old.states.items → new.room.held.items ≡ old.room.held.items
      → (0 < rest → AllLieAhead scene (Sub k) old.room.held.items old.states.items rest)
      → (0 < rest → AllPassOn scene (Sub k) old.room.held.items old.states.items old.room.rests.items rest)
      → AreResting scene new
  resting_kept rank k rest ranks within idle is others states held ahead through = record {
    ahead = λ j some. elim (same_or_other j k) [
      | inl same ↦ subst (λ n. AllLieAhead scene (Sub n) new.room.held.items new.states.items (rest_at new n)) (sym same) (ahead_here (subst (λ n. 0 < rest_at new n) same some))
      | inr other ↦ ahead_kept j (others j other) (λ i here. (ap (λ xs. slice_get xs i) states, ap (λ ps. part_at ps i) held)) some
    ];
    through = λ j some. elim (same_or_other j k) [
      | inl same ↦ subst (λ n. AllPassOn scene (Sub n) new.room.held.items new.states.items new.room.rests.items (rest_at new n)) (sym same) (through_here (subst (λ n. 0 < rest_at new n) same some))
      | inr other ↦ through_kept j (others j other) (λ i here. (ap (λ xs. slice_get xs i) states, ap (λ ps. part_at ps i) held))
          (λ i here. others i (λ e. let none = idle.none j (sym (ap (clock_at scene.clocks.now) e) ∙ here) in let same = others j other in absurd (omega (arith, none, same, some)))) some
    ];
  }
    where
      ahead_here : 0 < rest_at new k → AllLieAhead scene (Sub k) new.room.held.items new.states.items (rest_at new k)
      ahead_here some =
          ahead_same scene (Sub k) old.room.held.items new.room.held.items old.states.items new.states.items (rest_at new k)
          (λ i inside. ap (λ ps. is_some (part_at ps i).slot) held) (λ i inside. ap (λ xs. slice_get xs i) states)
          (subst (AllLieAhead scene (Sub k) old.room.held.items old.states.items) (sym is) (ahead (subst (λ n. 0 < n) is some)))

      through_here : 0 < rest_at new k → AllPassOn scene (Sub k) new.room.held.items new.states.items new.room.rests.items (rest_at new k)
      through_here some =
          through_same scene (Sub k) old.room.held.items new.room.held.items old.states.items new.states.items old.room.rests.items new.room.rests.items (rest_at new k)
          (λ i inside. ap (λ ps. is_some (part_at ps i).slot) held) (λ i inside. ap (λ xs. slice_get xs i) states)
          (λ i inside. others i (λ e.
          let here = sym (same_clock-true (clock_at scene.clocks.now i) (Sub k) inside) ∙ ap (clock_at scene.clocks.now) e in
          let up = ranks.deeper k within in let same : rank (Sub k) ≡ rank (clock_at scene.clocks.now k) = ap rank here in absurd (omega (arith, up, same))))
          (subst (AllPassOn scene (Sub k) old.room.held.items old.states.items old.room.rests.items) (sym is) (through (subst (λ n. 0 < n) is some)))
