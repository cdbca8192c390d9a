-- What an output has after the slots of a tick.
use Rattle.std.proofs.Common.{◌≡◌, ◌<◌, ◌+◌, ◌-◌, ◌*◌, ◌^◌, ◌∙◌, ◌++◌, ℕ, Bool, min, Some, None, List, [], ◌∷◌, length, append_assoc, arith, refl, ap, sym}
use Rattle.std.specs.List.{flat_map}
use Rattle.std.proofs.Math.Nat.{suc-mul}
use Rattle.std.proofs.lemmas.List.{append-nil, length-append}
use Rattle.liq_base.specs.declared.memory.Kind.{Kind}
use Rattle.frame_core.specs.Slots.{Slot}
use Rattle.stream_meaning.specs.Sinks.{block_length, missing, slot_block}
use Rattle.clock_outputs.specs.declared.port.Port.{Port}
use Rattle.clock_outputs.specs.Ports.{after_slot, after_slots}
use Rattle.clock_ticks.proofs.Hearing.{block_long}

pub filled_bytes : (port : Port) (slots : List Slot) → (after_slots port slots).piece.bytes ≡ port.piece.bytes ++ flat_map (slot_block port.wide port.kind) slots
filled_bytes port [] = sym (append-nil port.piece.bytes)
filled_bytes port (slot ∷ slots) =
    filled_bytes (after_slot port slot) slots ∙ append_assoc port.piece.bytes (slot_block port.wide port.kind slot) (flat_map (slot_block port.wide port.kind) slots)

pub filled_sink : (port : Port) (slots : List Slot) → (after_slots port slots).sink ≡ port.sink
filled_sink port [] = refl
filled_sink port (slot ∷ slots) = filled_sink (after_slot port slot) slots

pub filled_kind : (port : Port) (slots : List Slot) → (after_slots port slots).kind ≡ port.kind
filled_kind port [] = refl
filled_kind port (slot ∷ slots) = filled_kind (after_slot port slot) slots

pub filled_wide : (port : Port) (slots : List Slot) → (after_slots port slots).wide ≡ port.wide
filled_wide port [] = refl
filled_wide port (slot ∷ slots) = filled_wide (after_slot port slot) slots

pub filled_before : (port : Port) (slots : List Slot) → (after_slots port slots).gaps_before ≡ port.gaps_before
filled_before port [] = refl
filled_before port (slot ∷ slots) = filled_before (after_slot port slot) slots

pub filled_room : (port : Port) (slots : List Slot) → (after_slots port slots).piece.room ≡ port.piece.room
filled_room port [] = refl
filled_room port (slot ∷ slots) = filled_room (after_slot port slot) slots

one_more : (gaps : ℕ) → gaps + 1 < 2 ^ 64 → min (gaps + 1) (2 ^ 64 - 1) ≡ gaps + 1
one_more gaps few = omega arith

pub filled_gaps : (port : Port) (slots : List Slot) → port.gaps + length slots < 2 ^ 64 → (after_slots port slots).gaps ≡ port.gaps + missing slots
filled_gaps port [] few = omega arith
filled_gaps port (None ∷ slots) few =
    let one : min (port.gaps + 1) (2 ^ 64 - 1) ≡ port.gaps + 1 = one_more port.gaps (omega (arith, few)) in
    let rest : (after_slots (after_slot port None) slots).gaps ≡ min (port.gaps + 1) (2 ^ 64 - 1) + missing slots = filled_gaps (after_slot port None) slots (omega (arith, few, one)) in
    omega (arith, one, rest)
filled_gaps port (Some cell ∷ slots) few = filled_gaps (after_slot port (Some cell)) slots (omega (arith, few))

blocks_long : (wide : Bool) (kind : Kind) (slots : List Slot) → length (flat_map (slot_block wide kind) slots) ≡ length slots * block_length wide kind
blocks_long wide kind [] = omega arith
blocks_long wide kind (slot ∷ slots) =
    let both = length-append (slot_block wide kind slot) (flat_map (slot_block wide kind) slots) in
    let here = block_long wide kind slot in
    let rest = blocks_long wide kind slots in
    let more = suc-mul (length slots) (block_length wide kind) in
    both ∙ omega (arith, here, rest, more)

pub filled_long : (port : Port) (slots : List Slot) (count : ℕ) → port.piece.bytes ≡ [] → length slots ≡ count → length (after_slots port slots).piece.bytes ≡ count * block_length port.wide port.kind
filled_long port slots count empty long =
    ap length (filled_bytes port slots ∙ ap (λ bytes. bytes ++ flat_map (slot_block port.wide port.kind) slots) empty)
    ∙ blocks_long port.wide port.kind slots
    ∙ ap (λ n. n * block_length port.wide port.kind) long
