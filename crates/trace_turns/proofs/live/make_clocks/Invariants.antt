use Rattle.std.proofs.Common.{◌≡◌, ℕ, Some, length, slice_get}
use Rattle.trace_turns.specs.declared.live.LiveClock.{LiveClock}
use Rattle.trace_turns.specs.Turns.{base_at}
use Rattle.trace_turns.specs.Live.{IsNewClock}
use Rattle.trace_turns.proofs.live.make_clocks.Given as goal

abbrev pub invariant-loop-clock : goal.invariant-loop-clock
invariant-loop-clock l = record {
  size : length l.lives.items ≡ l.clock;
  each : (k : ℕ) (live : LiveClock) → slice_get l.lives.items k ≡ Some live → IsNewClock (base_at l.station) k live;
}
