use Rattle.std.proofs.Common.{◌≡◌, ◌+◌, ◌*◌, length}
use Rattle.frame_core.specs.Calls.{Adds}
use Rattle.stream_meaning.specs.Instants.{Setting}
use Rattle.rounds_run.specs.Rounds.{AreEngines, AreGoing, made_by}
use Rattle.rounds_run.proofs.rounds.make_rounds.Given as goal

abbrev pub invariant-loop-k : goal.invariant-loop-k
invariant-loop-k g l = record {
  buffers : g.T.Taps.buffers l.taps ≡ g.T.Taps.buffers l.fn.taps;
  same : g.T.Taps.same l.fn.taps l.taps;
  goes : (setting : Setting) → AreEngines g.O.Sink.told l.ticks setting l.fn.engines
      → AreGoing g.O.Sink.told (Adds g.T.Taps.stands l.fn.taps l.taps) setting l.ticks (made_by l._round l.k) (l._round * length l.fn.engines + l.k) l.fn.engines l.engines;
}

abbrev pub invariant-loop-round : goal.invariant-loop-round
invariant-loop-round g l = record {
  buffers : g.T.Taps.buffers l.taps ≡ g.T.Taps.buffers l.fn.taps;
  same : g.T.Taps.same l.fn.taps l.taps;
  goes : (setting : Setting) → AreEngines g.O.Sink.told l.ticks setting l.fn.engines
      → AreGoing g.O.Sink.told (Adds g.T.Taps.stands l.fn.taps l.taps) setting l.ticks (made_by l._round 0) (l._round * length l.fn.engines) l.fn.engines l.engines;
}
