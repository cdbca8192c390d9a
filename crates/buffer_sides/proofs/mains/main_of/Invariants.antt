use Rattle.std.proofs.Common.{◌≡◌}
use Rattle.run_records.specs.Buffers.{main_of, main_within}
use Rattle.stream_meaning.specs.Instants.{Setting}
use Rattle.buffer_sides.proofs.mains.main_of.Given as goal

abbrev pub invariant-loop-depth : goal.invariant-loop-depth
invariant-loop-depth l = (setting : Setting) → setting.plan ≡ l.plan → setting.clocks ≡ l.clocks.of → main_within setting l.depth l.clock ≡ main_of setting l.node

abbrev pub decreases-loop-depth : goal.decreases-loop-depth
decreases-loop-depth l = l.depth
