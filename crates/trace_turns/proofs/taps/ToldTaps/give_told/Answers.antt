use Rattle.std.proofs.Common.{refl, true, false}
use Rattle.frame_core.specs.Calls.{Given}
use Rattle.trace_turns.proofs.Tapping.{full_back, put_accepted, put_fail, put_full}
use Rattle.trace_turns.proofs.taps.ToldTaps.give_told.Goals as goal

pub returns-in-Accepted-clause-call : goal.returns-in-Accepted-clause-call
returns-in-Accepted-clause-call c = (
  Given c.args.buffer c.args.chunk true,
  refl,
  λ calls stand. put_accepted c.args.self.now.course c.args.self.now.buffers.items c.put_into.new.buffers.items c.args.buffer c.requires.known c.requires.goes c.args.chunk c.in_ok-put_into.field-0 c.in_ok-put_into.ensures.put calls stand c.in-Accepted.is,
)

pub returns-in-Full-clause-call : goal.returns-in-Full-clause-call
returns-in-Full-clause-call c = (
  Given c.args.buffer c.args.chunk false,
  (full_back c.args.self.now.course c.args.self.now.buffers.items c.put_into.new.buffers.items c.args.buffer c.requires.known c.requires.goes c.args.chunk c.in-Full.back c.in_ok-put_into.field-0 c.in_ok-put_into.ensures.put c.in-Full.is, refl),
  λ calls stand. (put_full c.args.self.now.course c.args.self.now.buffers.items c.put_into.new.buffers.items c.args.buffer c.requires.known c.requires.goes c.args.chunk c.in_ok-put_into.field-0 c.in_ok-put_into.ensures.put calls stand c.in-Full.back c.in-Full.is).1,
)

pub returns-in-Never-clause-call : goal.returns-in-Never-clause-call
returns-in-Never-clause-call c = (
  Given c.args.buffer c.args.chunk true,
  refl,
  λ calls stand. put_fail c.args.self.now.course c.args.self.now.buffers.items c.put_into.new.buffers.items c.args.buffer c.requires.known c.requires.goes c.args.chunk c.in_ok-put_into.field-0 c.in_ok-put_into.ensures.put calls stand c.in-Never.is,
)
