use Rattle.std.proofs.Common.{◌<◌, ℕ, get_or}
use Rattle.clock_infer.specs.declared.clock_map.NodeClock.{NodeClock}
use Rattle.clock_infer.specs.declared.clock_map.NodeClock.TheVariants.{Main}
use Rattle.clock_nodes.specs.Nodes.{IsEnd, number_of}
use Rattle.clock_nodes.proofs.nodes.link_back.Given as goal

abbrev pub invariant-loop-i : goal.invariant-loop-i
invariant-loop-i l = record {
  end : (clock : NodeClock) → IsEnd l.clocks clock l.i (get_or l.ends (number_of clock) 0);
  before : (j : ℕ) → j < l.i → IsEnd l.clocks (get_or l.clocks j (Main 0)) j (get_or l.befores j 0);
}
