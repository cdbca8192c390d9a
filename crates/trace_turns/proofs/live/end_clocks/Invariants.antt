use Rattle.std.proofs.Common.{vec_len}
use Rattle.trace_turns.proofs.live.end_clocks.Given as goal

abbrev pub decreases-loop-live : goal.decreases-loop-live
decreases-loop-live l = vec_len l.lives
