use Rattle.trace_turns.proofs.Tapping.{same_set}
use Rattle.trace_turns.proofs.taps.put_into.Goals as goal

pub returns-clause-same : goal.returns-clause-same
returns-clause-same c = same_set c.args.buffers.now.items c.args.buffer c.index_mut.result.now c.put.new.self c.requires c.index_mut.ensures.value c.put.ensures.same
