use Rattle.buffer_ends.proofs.Bordering.{end_missing, closed_at}
use Rattle.buffer_ends.proofs.EndSteps.{falling_set}
use Rattle.buffer_ends.proofs.thread_taps.ThreadTaps.close_with.Goals as goal

pub unreachable-requires : goal.unreachable-requires
unreachable-requires g c = end_missing c.args.self.now.puts.items c.args.buffer c.requires.ends.put c.requires.ends.puts_there c.in_default.ensures.none

pub unreachable-requires-in_default-take_place : goal.unreachable-requires-in_default-take_place
unreachable-requires-in_default-take_place g c = end_missing c.args.takes.now.items c.args.buffer c.requires.ends.take c.requires.ends.takes_there c.in_default-take_place.ensures.none

pub invariant_of-self : goal.invariant_of-self
invariant_of-self g c =
    let k = c.close_at.ensures.closed in
    record { falling = (falling_set c.args.self.now.puts.items c.close_at.new.puts.items c.in-Some.place k.0 k.2 c.in-Some.ensures.some.0 (λ d. (k.4 d d).put_buffer) c.args.self.now.falling.0, c.args.self.now.falling.1) }

pub returns-clause-closed : goal.returns-clause-closed
returns-clause-closed g c =
    let k = c.close_at.ensures.closed in
    closed_at c.args.self.now.puts.items c.args.takes.now.items c.close_at.new.puts.items c.close_at.new.takes.items c.args.buffer c.in-Some.place c.in-Some-take_place.at k.0 k.1 c.close_at.result
    c.in-Some.ensures.some.0 c.in-Some-take_place.ensures.some.0 c.in-Some.ensures.some.1 c.in-Some-take_place.ensures.some.1 k.2 k.3 k.4

pub returns-clause-falling : goal.returns-clause-falling
returns-clause-falling g c =
    let k = c.close_at.ensures.closed in
    falling_set c.args.takes.now.items c.close_at.new.takes.items c.in-Some-take_place.at k.1 k.3 c.in-Some-take_place.ensures.some.0 (λ d. (k.4 d d).take_buffer) c.requires.falling
