use Rattle.std.proofs.Common.{drop}
use Rattle.trace_replay.specs.Replaying.{ArePlaying, tale_at}
use Rattle.trace_replay.proofs.engines.replay_turns.Given as goal

abbrev pub invariant-loop-i : goal.invariant-loop-i
invariant-loop-i g l = record {
  playing : ArePlaying g.O.Sink.told (tale_at l.station l.trace) l.sides (drop l.i l.turns) l.fn.engines l.engines l.rests l.taps.buffers.items;
}
