-- Which clocks a buffer joins.
use Rattle.std.specs.Prelude.{ℕ, ◌==◌, Bool, false, ◌||◌, List, [], ◌∷◌, slice_index_or, if◌then◌else◌}
use Rattle.frame_core.specs.Calls.{Call}
use Rattle.buffer_ends.specs.Local.{buffer_of}
use Rattle.clock_threads.specs.declared.wires.Wire.{Wire}

-- the wire that stands where there is no buffer: from clock 0 to itself, with no room
abbrev pub no_wire : Wire
no_wire = record { from = 0; to = 0; capacity = 0 }

-- the wire of buffer b, which says from which clock to which it leads and how many chunks it holds
abbrev pub wire_at : List Wire → ℕ → Wire
wire_at wires b = slice_index_or wires b no_wire

-- whether a wire, which names the two clocks of a buffer, joins clock k to another clock
abbrev pub ends_at : Wire → ℕ → Bool
ends_at wire k = if wire.from == wire.to then false else wire.from == k || wire.to == k

-- whether buffer b has one end at clock k and the other end at another clock
abbrev pub ended : List Wire → (k b : ℕ) → Bool
ended wires k b = ends_at (wire_at wires b) k

-- of a clock's calls, those that it makes on its own buffers: without those on buffers that join clock k to another
-- one
abbrev pub kept : List Wire → ℕ → List Call → List Call
kept wires k [] = []
kept wires k (call ∷ calls) = if ended wires k (buffer_of call) then kept wires k calls else call ∷ kept wires k calls
