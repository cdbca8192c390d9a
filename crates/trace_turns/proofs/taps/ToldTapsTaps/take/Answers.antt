use Rattle.std.proofs.Common.{None, [], ◌∷◌}
use Rattle.frame_core.specs.Calls.{Took}
use Rattle.trace_turns.proofs.Tapping.{stays_failed, stays_waiting}
use Rattle.trace_turns.proofs.taps.ToldTapsTaps.take.Goals as goal

pub returns-in-Waits-clause-call : goal.returns-in-Waits-clause-call
returns-in-Waits-clause-call c = λ calls stand. stays_waiting c.args.self.now.course c.args.self.now.buffers.items c.in-Waits.is calls (Took c.args.buffer None ∷ []) stand

pub returns-in-Fails-clause-call : goal.returns-in-Fails-clause-call
returns-in-Fails-clause-call c = λ calls stand. stays_failed c.args.self.now.course c.args.self.now.buffers.items c.in-Fails.is calls (Took c.args.buffer None ∷ []) stand
