use Rattle.std.proofs.Common.{◌≡◌}
use Rattle.op_leaf.specs.Readers.{missing}
use Rattle.node_states.specs.Takes.{IsTaking}
use Rattle.node_states.proofs.takes.take_chunks.Given as goal

abbrev pub invariant-loop-taps : goal.invariant-loop-taps
invariant-loop-taps g l = record {
  buffers : g.T.Taps.buffers l.taps ≡ g.T.Taps.buffers l.initial.taps;
  same : g.T.Taps.same l.initial.taps l.taps;
  taking : IsTaking g.T.Taps.stands l.buffer l.initial.reader l.reader l.initial.taps l.taps;
}

abbrev pub decreases-loop-taps : goal.decreases-loop-taps
decreases-loop-taps g l = missing l.reader
