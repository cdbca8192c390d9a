use Rattle.std.proofs.Common.{◌≡◌}
use Rattle.trace_turns.specs.Answering.{SameBuffers}
use Rattle.trace_turns.specs.declared.course.Course.TheVariants.{Goes}
use Rattle.trace_turns.specs.Thin.{AreKept}
use Rattle.trace_turns.specs.Turns.{MayTurn, RunsAt, Score}
use Rattle.trace_turns.proofs.turn.run_clock.Given as goal

abbrev pub invariant-loop-tick : goal.invariant-loop-tick
invariant-loop-tick l = record {
  course : l.taps.course ≡ Goes;
  kept : AreKept l.taps.buffers.items;
  changed : SameBuffers l.fn.taps.buffers.items l.taps.buffers.items;
  goes : (score : Score) → MayTurn score l.window l.ticks l.fn.engine.parts.clock l.fn.engine.parts l.fn.taps.buffers.items l.ends
      → RunsAt score.base score.text l.window l.ticks l.fn.engine.parts.clock l.tick score.chunks l.engine.parts l.taps.buffers.items;
}
