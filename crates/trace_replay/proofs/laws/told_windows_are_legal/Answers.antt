use Rattle.std.proofs.Common.{◌+◌, length, is_some, map, arith}
use Rattle.trace_records.proofs.Deciding.{test_fits}
use Rattle.trace_records.proofs.Fitting.{fits_legal}
use Rattle.trace_replay.proofs.laws.told_windows_are_legal.Goals as goal

pub returns : goal.returns
returns c = λ capacity rest queue puts takes some low legal whole.
    fits_legal (length puts + length takes) capacity rest queue puts takes (omega arith) some low (test_fits capacity (length queue) (map is_some puts) (map is_some takes) legal) whole
