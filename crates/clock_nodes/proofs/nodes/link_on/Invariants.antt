use Rattle.std.proofs.Common.{◌<◌, ◌≤◌, ℕ, suc, length, get_or}
use Rattle.clock_infer.specs.declared.clock_map.NodeClock.{NodeClock}
use Rattle.clock_infer.specs.declared.clock_map.NodeClock.TheVariants.{Main}
use Rattle.clock_nodes.specs.Nodes.{IsFirst, number_of}
use Rattle.clock_nodes.proofs.nodes.link_on.Given as goal

abbrev pub invariant-loop-i : goal.invariant-loop-i
invariant-loop-i l = record {
  within : l.i ≤ length l.clocks;
  first : (clock : NodeClock) → IsFirst l.clocks clock l.i (get_or l.firsts (number_of clock) (length l.clocks));
  next : (j : ℕ) → l.i ≤ j → j < length l.clocks → IsFirst l.clocks (get_or l.clocks j (Main 0)) (suc j) (get_or l.nexts j 0);
}

abbrev pub decreases-loop-i : goal.decreases-loop-i
decreases-loop-i l = l.i
