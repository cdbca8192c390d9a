use Rattle.std.proofs.Common.{◌≡◌, ◌≤◌}
use Rattle.trace_turns.specs.Answering.{SameBuffers}
use Rattle.trace_turns.specs.declared.course.Course.TheVariants.{Goes}
use Rattle.trace_turns.specs.Live.{HasFlown, MayFlow}
use Rattle.trace_turns.specs.Turns.{Score}
use Rattle.trace_turns.specs.Timed.{timed}
use Rattle.trace_turns.proofs.onward.go_on.Given as goal

abbrev pub invariant-loop-tick : goal.invariant-loop-tick
invariant-loop-tick l = record {
  behind : l.from ≤ l.tick;
  course : l.taps.course ≡ Goes;
  changed : SameBuffers l.fn.taps.buffers.items l.taps.buffers.items;
  goes : (score : Score) → MayFlow score l.window l.ticks l.fn.engine.parts.clock l.from l.fn.engine.parts l.fn.taps.buffers.items l.ends
      → HasFlown score.base (timed score.text l.window l.ticks) l.fn.engine.parts.clock l.tick score.chunks l.engine.parts l.taps.buffers.items;
}
