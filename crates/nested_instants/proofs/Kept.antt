-- The instants that are kept of a sub-clock stay while other clocks go on.
use Rattle.std.proofs.Common.{◌≡◌, ◌<◌, ◌≤◌, ◌+◌, ◌∙◌, ℕ, suc, slice_get, arith, ap, sym, subst}
use Rattle.std.specs.Prelude.{List}
use Rattle.clock_infer.specs.declared.clock_map.NodeClock.{NodeClock}
use Rattle.clock_infer.specs.declared.clock_map.NodeClock.TheVariants.{Sub}
use Rattle.frame_core.specs.Slots.{Slot}
use Rattle.stream_meaning.specs.Instants.{Setting, Moment, clock_of, part_at}
use Rattle.stream_meaning.specs.declared.part.Part.{Part}
use Rattle.stream_meaning.proofs.Existence.{same_clock-true}
use Rattle.stretch_laws.specs.Stretches.{IsStretch}
use Rattle.node_states.specs.declared.state.NodeState.{NodeState}
use Rattle.node_states.specs.Passing.{asked, passes}
use Rattle.nested_instants.specs.declared.clock_states.ClockStates.{ClockStates}
use Rattle.nested_instants.specs.Clocks.{GoesOnFor, IsOpen, Progress, rest_at}

-- what a clock's nodes were filled, their states and what is kept of them are as they were
pub goes_kept : (setting : Setting) (sub : ℕ → ℕ → List Slot) (clock : NodeClock) (past : List Moment) (rest : ℕ) (filled filled_now : ℕ → ℕ) (held held_now : List Part) (states states_now : List NodeState)
    → ((i : ℕ) → clock_of setting i ≡ clock → (filled_now i ≡ filled i) × (slice_get states_now i ≡ slice_get states i) × (part_at held_now i ≡ part_at held i))
    → GoesOnFor setting sub clock past rest filled held states → GoesOnFor setting sub clock past rest filled_now held_now states_now
goes_kept setting sub clock past rest filled filled_now held held_now states states_now alike goes = record {
  stretch = goes.stretch;
  held_is = record { each = λ i within inside. (alike i (same_clock-true (clock_of setting i) clock inside)).2 ∙ goes.held_is.each i within inside };
  asks = record {
    each = λ k overlap j node state below is work found gave low.
        let same = alike k (same_clock-true (clock_of setting k) clock is.inside) in
        goes.asks.each k overlap j node state below is work (sym same.1 ∙ found) gave low ∙ ap (λ f. f + asked (passes state) j) (sym same.0);
  };
}

pub open_kept : (setting : Setting) (sub : ℕ → ℕ → List Slot) (k : ℕ) (progress now : Progress) (old new : ClockStates)
    → now.ran (Sub k) ≡ progress.ran (Sub k) → rest_at new k ≡ rest_at old k
    → ((i : ℕ) → clock_of setting i ≡ Sub k → (now.filled i ≡ progress.filled i) × (slice_get new.states.items i ≡ slice_get old.states.items i) × (part_at new.room.held.items i ≡ part_at old.room.held.items i))
    → (0 < rest_at old k → IsOpen setting sub k (rest_at old k) progress old) → 0 < rest_at new k → IsOpen setting sub k (rest_at new k) now new
open_kept setting sub k progress now old new same rest alike was some =
    let o = was (subst (λ n. 0 < n) rest some) in
    subst (λ n. IsOpen setting sub k n now new) (sym rest) (record {
      n = o.n;
      at = same ∙ o.at;
      gave = o.gave;
      goes = goes_kept setting sub (Sub k) _ (rest_at old k) progress.filled now.filled old.room.held.items new.room.held.items old.states.items new.states.items alike o.goes;
    })

stretch_fewer : (setting : Setting) (sub : ℕ → ℕ → List Slot) (clock : NodeClock) (past : List Moment) (rest many : ℕ) → many ≤ rest → IsStretch setting sub clock past (suc rest) → IsStretch setting sub clock past (suc many)
stretch_fewer setting sub clock past rest many few s = record {
  leaves = λ i node leaf j is work some low. s.leaves i node leaf j is work some (omega (arith, low, few));
  ticks = λ i node buffer j is work some low. s.ticks i node buffer j is work some (omega (arith, low, few));
  readers = λ i node buffer j is work some low. s.readers i node buffer j is work some (omega (arith, low, few));
  items = λ i node overlap j is work some low. s.items i node overlap j is work some (omega (arith, low, few));
  settled = λ i node overlap j is work some low. s.settled i node overlap j is work some (omega (arith, low, few));
  marks = λ i node choice eligible j children is work some low. s.marks i node choice eligible j children is work some (omega (arith, low, few));
  free = λ i node choice eligible j is work some low. s.free i node choice eligible j is work some (omega (arith, low, few));
  titles = λ i node j is some low. s.titles i node j is some (omega (arith, low, few));
}

-- fewer instants go on too
pub goes_fewer : (setting : Setting) (sub : ℕ → ℕ → List Slot) (clock : NodeClock) (past : List Moment) (rest many : ℕ) (filled : ℕ → ℕ) (held : List Part) (states : List NodeState) → many ≤ rest
    → GoesOnFor setting sub clock past rest filled held states → GoesOnFor setting sub clock past many filled held states
goes_fewer setting sub clock past rest many filled held states few goes = record {
  stretch = stretch_fewer setting sub clock past rest many few goes.stretch;
  held_is = goes.held_is;
  asks = record {
    each = λ k overlap j node state below is work found gave low. goes.asks.each k overlap j node state below is work found gave (omega (arith, low, few));
  };
}
