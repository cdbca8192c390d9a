-- The latest instant that was made.
use Rattle.std.specs.Prelude.{◌≡◌, ℕ, false, List, length, slice_index_or}
use Rattle.clock_infer.specs.declared.clock_map.NodeClock.{NodeClock}
use Rattle.stream_meaning.specs.Instants.{part_at, silent}
use Rattle.clock_nodes.specs.Nodes.{lies_at}
use Rattle.clock_instants.specs.declared.latest.Latest.{Latest}

-- at the latest instant nodes of other clocks than its own offer nothing and are not demanded
pub record IsLatest (clocks : List NodeClock) (latest : Latest) : Type 0 where
  pub in_parts : length latest.parts.items ≡ length clocks
  pub in_demanded : length latest.demanded.items ≡ length clocks
  pub parts : (j : ℕ) → lies_at clocks latest.clock j ≡ false → part_at latest.parts.items j ≡ silent
  pub demanded : (j : ℕ) → lies_at clocks latest.clock j ≡ false → slice_index_or latest.demanded.items j false ≡ false
