use Rattle.std.proofs.Common.{refl, true, [], ◌∷◌}
use Rattle.frame_core.specs.Calls.{Given}
use Rattle.trace_turns.proofs.Tapping.{stays_failed, stays_waiting}
use Rattle.trace_turns.proofs.taps.ToldTapsTaps.give.Goals as goal

pub returns-in-Waits-clause-call : goal.returns-in-Waits-clause-call
returns-in-Waits-clause-call c = (
  Given c.args.buffer c.args.chunk true,
  refl,
  λ calls stand. stays_waiting c.args.self.now.course c.args.self.now.buffers.items c.in-Waits.is calls (Given c.args.buffer c.args.chunk true ∷ []) stand,
)

pub returns-in-Fails-clause-call : goal.returns-in-Fails-clause-call
returns-in-Fails-clause-call c = (
  Given c.args.buffer c.args.chunk true,
  refl,
  λ calls stand. stays_failed c.args.self.now.course c.args.self.now.buffers.items c.in-Fails.is calls (Given c.args.buffer c.args.chunk true ∷ []) stand,
)
