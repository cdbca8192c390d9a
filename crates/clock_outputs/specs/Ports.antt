-- What an output has heard of its node: the bytes of the tick so far, and the gaps since the beginning, with and
-- without the tick.
use Rattle.std.specs.Prelude.{ℕ, ◌+◌, ◌-◌, ◌*◌, ◌^◌, ◌≤◌, min, Some, None, List, [], ◌∷◌, ◌++◌, All, length}
use Rattle.frame_core.specs.Slots.{Slot}
use Rattle.stream_meaning.specs.Sinks.{block_length, slot_block}
use Rattle.clock_outputs.specs.declared.port.Port.{Port}

-- The number of gaps of an output after one more slot of its node. A slot without a cell is a gap and adds one, up to
-- 2^64 - 1.
abbrev pub counted : ℕ → Slot → ℕ
counted gaps None = min (gaps + 1) (2 ^ 64 - 1)
counted gaps (Some cell) = gaps

-- the output `port` with these bytes collected of the tick, and with this number of gaps; a gap is an instant without a
-- cell
abbrev pub with_bytes : Port → List ℕ → ℕ → Port
with_bytes port bytes gaps = record {
  sink = port.sink;
  node = port.node;
  kind = port.kind;
  wide = port.wide;
  piece = record { bytes = bytes; room = port.piece.room };
  gaps = gaps;
  gaps_before = port.gaps_before;
}

-- An output at the start of a tick. It has no bytes of the tick yet, and its gaps so far, which are instants without a
-- cell, are noted as those before the tick.
abbrev pub emptied : Port → Port
emptied port = record {
  sink = port.sink;
  node = port.node;
  kind = port.kind;
  wide = port.wide;
  piece = record { bytes = []; room = port.piece.room };
  gaps = port.gaps;
  gaps_before = port.gaps;
}

-- An output after one more slot of its node. The bytes of the cell in it, or zeros and one gap for an empty slot, are
-- added to those of the tick.
abbrev pub after_slot : Port → Slot → Port
after_slot port slot = with_bytes port (port.piece.bytes
    ++ slot_block port.wide port.kind slot) (counted port.gaps slot)

-- An output after these slots more of its node, one after another. Each adds the bytes of its cell, or zeros and one
-- gap if it is empty.
abbrev pub after_slots : Port → List Slot → Port
after_slots port [] = port
after_slots port (slot ∷ slots) = after_slots (after_slot port slot) slots

-- an output has room for the bytes of so many slots more of its node, with a sample for each channel in each
abbrev pub HasRoomLeft : ℕ → Port → Type 0
HasRoomLeft slots port = length port.piece.bytes + slots * block_length port.wide port.kind ≤ port.piece.room

-- each of these outputs has room for the bytes of so many slots more of its node, with a sample for each channel in
-- each
abbrev pub AllHaveRoomLeft : ℕ → List Port → Type 0
AllHaveRoomLeft slots ports = All (λ port. HasRoomLeft slots port) ports
