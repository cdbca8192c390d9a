use Rattle.std.proofs.Common.{◌<◌, ℕ, get_or}
use Rattle.clock_infer.specs.declared.clock_map.NodeClock.TheVariants.{Main}
use Rattle.clock_nodes.specs.Nodes.{number_of}
use Rattle.clock_nodes.proofs.nodes.numbers_of.Given as goal

abbrev pub invariant-loop-clock : goal.invariant-loop-clock
invariant-loop-clock l = (j : ℕ) → j < l.clock-index → number_of (get_or l.clocks j (Main 0)) < l.count
