-- The nodes of each clock, in two chains: from its first node on, and from its last one back.
use Rattle.std.specs.Prelude.{◌≡◌, ◌<◌, ◌≤◌, ◌+◌, ◌*◌, ℕ, Bool, suc, true, false, List, length, slice_index_or}
use Rattle.clock_infer.specs.declared.clock_map.NodeClock.{NodeClock}
use Rattle.clock_infer.specs.declared.clock_map.NodeClock.TheVariants.{Main, Sub}
use Rattle.stream_meaning.specs.Instants.{same_clock}
use Rattle.clock_nodes.specs.declared.nodes.ClockNodes.{ClockNodes}

-- whether node i lies in a clock; `clocks` has the clock of each node
abbrev pub lies_at : List NodeClock → NodeClock → ℕ → Bool
lies_at clocks clock i = same_clock (slice_index_or clocks i (Main 0)) clock

-- the number under which the chains of nodes keep a clock: even for a main clock, odd for a sub-clock
abbrev pub number_of : NodeClock → ℕ
number_of (Main m) = 2 * m
number_of (Sub k) = 2 * k + 1

-- node i is a clock's first one from `from` on; where there is none, i is the number of all nodes
pub record IsFirst (clocks : List NodeClock) (clock : NodeClock) (from i : ℕ) : Type 0 where
  pub low : from ≤ i
  pub high : i ≤ length clocks
  pub own : i < length clocks → lies_at clocks clock i ≡ true
  pub skips : (j : ℕ) → from ≤ j → j < i → lies_at clocks clock j ≡ false

-- a clock's last node below `below` is the one before i; where there is none, i is 0
pub record IsEnd (clocks : List NodeClock) (clock : NodeClock) (below i : ℕ) : Type 0 where
  pub high : i ≤ below
  pub own : (j : ℕ) → i ≡ suc j → lies_at clocks clock j ≡ true
  pub skips : (j : ℕ) → i ≤ j → j < below → lies_at clocks clock j ≡ false

-- these are the two chains of nodes of each clock; `clocks` has the clock of each node
pub record AreNodesOf (clocks : List NodeClock) (nodes : ClockNodes) : Type 0 where
  pub in_nexts : length nodes.nexts.items ≡ length clocks
  pub in_befores : length nodes.befores.items ≡ length clocks
  pub first : (clock : NodeClock)
      → IsFirst clocks clock 0 (slice_index_or nodes.firsts.items (number_of clock) (length clocks))
  pub next : (i : ℕ) → i < length clocks
      → IsFirst clocks (slice_index_or clocks i (Main 0)) (suc i) (slice_index_or nodes.nexts.items i 0)
  pub end : (clock : NodeClock)
      → IsEnd clocks clock (length clocks) (slice_index_or nodes.ends.items (number_of clock) 0)
  pub before : (i : ℕ) → i < length clocks
      → IsEnd clocks (slice_index_or clocks i (Main 0)) i (slice_index_or nodes.befores.items i 0)
