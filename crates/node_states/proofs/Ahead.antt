-- What lies ahead of a node also does so for fewer instants.
use Rattle.std.proofs.Common.{◌≤◌, ℕ, arith}
use Rattle.frame_core.specs.Library.{Sounds}
use Rattle.op_leaf.specs.declared.leaf.Cursor.{Cursor}
use Rattle.op_leaf.specs.declared.leaf.Cursor.TheVariants.{Track, Silence, Wave, Nothing}
use Rattle.op_leaf.specs.Inner.{CursorLiesAhead}
use Rattle.node_states.specs.declared.state.NodeState.{NodeState}
use Rattle.node_states.specs.declared.state.NodeState.TheVariants.{Leaf, Select, Turn, Mix, Cross, Read, Idle}
use Rattle.node_states.specs.Stretches.{LiesAhead}

cursor_less : (library : Sounds) (cursor : Cursor) (count few : ℕ) → few ≤ count → CursorLiesAhead library cursor count → CursorLiesAhead library cursor few
cursor_less library (Track files) count few less lies = record {
  there = lies.there;
  within = (let w = lies.within in omega (arith, w, less));
}
cursor_less library (Silence blank) count few less lies = record { within = λ some. (let w = lies.within some in omega (arith, w, less)) }
cursor_less library (Wave square) count few less lies = tt
cursor_less library Nothing count few less lies = lies

pub lies_less : (library : Sounds) (state : NodeState) (count few : ℕ) → few ≤ count → LiesAhead library state count → LiesAhead library state few
lies_less library (Leaf state) count few less lies = λ some. cursor_less library state.cursor count few less (lies (omega (arith, some, less)))
lies_less library (Select state) count few less lies = lies
lies_less library (Turn state) count few less lies = lies
lies_less library (Mix mixer) count few less lies = lies
lies_less library (Cross state) count few less lies = λ none. (let l = lies none in omega (arith, l, less))
lies_less library (Read reader) count few less lies = λ j low. lies j (omega (arith, low, less))
lies_less library Idle count few less lies = lies
