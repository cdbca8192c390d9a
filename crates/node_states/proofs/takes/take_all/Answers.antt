use Rattle.node_states.proofs.Chunks.{has_taken}
use Rattle.node_states.proofs.takes.take_all.Goals as goal

pub returns-clause-took : goal.returns-clause-took
returns-clause-took g c = has_taken g.T.Taps.stands c.args.buffer c.args.reader.now c.take_chunks.new.reader c.begin.new.self c.args.taps.now c.take_chunks.new.taps c.begin.ensures c.in_ok-take_chunks.ensures.took
