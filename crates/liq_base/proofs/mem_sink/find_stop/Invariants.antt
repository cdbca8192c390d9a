use Rattle.std.proofs.Common.{◌≡◌, drop}
use Rattle.liq_base.specs.SinkStates.{listed}
use Rattle.liq_base.proofs.mem_sink.find_stop.Given as goal

abbrev pub invariant-loop-at : goal.invariant-loop-at
invariant-loop-at l = listed (drop l.at-index l.fails) l.call ≡ listed l.fails l.call
