use Rattle.std.proofs.Common.{◌≡◌, ◌≤◌, ℕ}
use Rattle.clock_ticks.specs.declared.engine.ClockEngine.{ClockEngine}
use Rattle.trace_turns.specs.declared.course.Course.TheVariants.{Goes}
use Rattle.trace_turns.specs.Answering.{SameBuffers}
use Rattle.trace_replay.specs.Replaying.{IsReplaying, MayReplay}
use Rattle.trace_turns.specs.Turns.{Score}
use Rattle.trace_replay.proofs.engines.replay_clock.Given as goal

abbrev pub invariant-loop-tick : goal.invariant-loop-tick
invariant-loop-tick g l = record {
  behind : l.made ≤ l._tick;
  course : l.taps.course ≡ Goes;
  changed : SameBuffers l.fn.taps.buffers.items l.taps.buffers.items;
  goes : (score : Score) (total : ℕ) (first : ClockEngine _) → MayReplay g.O.Sink.told score total l.fn.engine.parts.clock l.made l.ticks first l.fn.engine l.fn.taps.buffers.items
      → IsReplaying g.O.Sink.told score total l.fn.engine.parts.clock l._tick first l.engine l.taps.buffers.items;
}
