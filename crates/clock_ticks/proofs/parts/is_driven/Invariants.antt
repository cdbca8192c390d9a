use Rattle.std.proofs.Common.{ℕ}
use Rattle.clock_infer.specs.declared.clock_map.NodeClock.TheVariants.{Main}
use Rattle.clock_instants.specs.Takes.{IsUnder}
use Rattle.clock_ticks.proofs.parts.is_driven.Given as goal

abbrev pub invariant-loop : goal.invariant-loop
invariant-loop l = (rank : ℕ) → IsUnder l.clocks (Main l.clock) rank l.i → (left : ℕ) × IsUnder l.clocks (Main l.clock) left l.at
