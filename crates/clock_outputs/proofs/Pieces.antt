-- The bytes of a tick, and the slots that they are the blocks of.
use Rattle.std.proofs.Common.{◌≡◌, ◌<◌, ◌≤◌, ◌+◌, ◌*◌, ◌^◌, ◌-◌, ◌∙◌, ◌++◌, min, ℕ, zero, suc, ℤ, Bool, true, false, Some, None, List, [], ◌∷◌, length, map, take, drop, replicate, arith, refl, ap, sym, append_assoc, append-nil, length-append}
use Rattle.std.specs.List.{flat_map}
use Rattle.std.specs.Simd.Lanes.{put_chunk}
use Rattle.std.proofs.lemmas.Simd.{length-put_chunk, put_chunk_is, take_more_put_chunk}
use Rattle.std.proofs.Math.Nat.{suc-mul}
use Rattle.liq_base.specs.declared.memory.Kind.{Kind}
use Rattle.liq_base.specs.declared.memory.Kind.TheVariants.{Mono, Stereo}
use Rattle.cell_ring.specs.Rings.{inner_cell, inner_cells}
use borrow.Rule.Slice.PartMut.{put_mid}
use Rattle.stream_meaning.specs.Sinks.{block_length, sample_block, slot_block}
use Rattle.clock_outputs.specs.Filled.{Filled}
use Rattle.clock_outputs.specs.Blocks.{sample_blocks}
use Rattle.clock_outputs.specs.declared.port.Port.{Port}
use Rattle.frame_core.specs.declared.cell.Cell.{Cell}
use Rattle.clock_outputs.specs.Ports.{HasRoomLeft, after_slot, after_slots, with_bytes}

block_long : (wide : Bool) (kind : Kind) (left right : ℤ) → length (sample_block wide kind left right) ≡ block_length wide kind
block_long true Mono left right = refl
block_long true Stereo left right = refl
block_long false Mono left right = refl
block_long false Stereo left right = refl

abbrev zeros : ℕ → List ℕ
zeros n = replicate n 0

-- the blocks of slots without a cell are zeros
zeros_block : (wide : Bool) (kind : Kind) (bytes : List ℕ) → zeros (block_length wide kind) ++ bytes ≡ slot_block wide kind None ++ bytes
zeros_block true Mono bytes = refl
zeros_block true Stereo bytes = refl
zeros_block false Mono bytes = refl
zeros_block false Stereo bytes = refl

zeros_first : (n m : ℕ) → zeros (n + m) ≡ zeros n ++ zeros m
zeros_first zero m = (let same : 0 + m ≡ m = omega arith in ap zeros same)
zeros_first (suc n) m = (let same : suc n + m ≡ suc (n + m) = omega arith in ap zeros same ∙ ap (λ (bytes : List ℕ). 0 ∷ bytes) (zeros_first n m))

pub zeros_are : (wide : Bool) (kind : Kind) (count : ℕ) → replicate (count * block_length wide kind) 0 ≡ flat_map (slot_block wide kind) (replicate count None)
zeros_are wide kind zero = (let none : 0 * block_length wide kind ≡ 0 = omega arith in ap zeros none)
zeros_are wide kind (suc count) =
    let block : ℕ = block_length wide kind in
    let more : suc count * block ≡ block + count * block = (let m = suc-mul count block in omega (arith, m)) in
    ap zeros more ∙ zeros_first block (count * block) ∙ zeros_block wide kind (zeros (count * block))
    ∙ ap (λ bytes. slot_block wide kind None ++ bytes) (zeros_are wide kind count)

-- bytes, and room for so many
abbrev pub filled_as : List ℕ → ℕ → Filled
filled_as bytes room = record { bytes = bytes; room = room }

-- more bytes were laid behind those that were there
pub more_filled : (items now more : List ℕ) (start end : ℕ) (was : Filled) → now ≡ put_chunk start items more → end ≡ start + length more → end ≤ length items
    → filled_as (take start items) (length items) ≡ was → filled_as (take end now) (length now) ≡ filled_as (was.bytes ++ more) was.room
more_filled items now more start end was is long fits view =
    ap (λ ns. filled_as (take end ns) (length ns)) is
    ∙ ap (λ bytes. filled_as bytes (length (put_chunk start items more))) (take_more_put_chunk start items more end long fits)
    ∙ ap (λ n. filled_as (take start items ++ more) n) (length-put_chunk start items more)
    ∙ ap (λ (f : Filled). filled_as (f.bytes ++ more) f.room) view

-- room for a cell and so many slots more
pub room_after : (port : Port) (cell : Cell) (slots : ℕ) → HasRoomLeft (suc slots) port → HasRoomLeft slots (after_slot port (Some cell))
room_after port cell slots room =
    let block = block_long port.wide port.kind cell.left cell.right in
    let both = length-append port.piece.bytes (sample_block port.wide port.kind cell.left cell.right) in
    let more = suc-mul slots (block_length port.wide port.kind) in
    omega (arith, block, both, more, room)

-- an output after cells that begin no track
pub after_cells : (port : Port) (title : ℕ) (left right : List ℤ) → length right ≡ length left
    → with_bytes port (port.piece.bytes ++ sample_blocks port.wide port.kind left right) port.gaps ≡ after_slots port (map Some (inner_cells title left right))
after_cells port title [] right same = ap (λ bytes. with_bytes port bytes port.gaps) (append-nil port.piece.bytes)
after_cells port title (l ∷ left) [] same = absurd (omega (arith, same))
after_cells port title (l ∷ left) (r ∷ right) same =
    ap (λ bytes. with_bytes port bytes port.gaps) (sym (append_assoc port.piece.bytes (sample_block port.wide port.kind l r) (sample_blocks port.wide port.kind left right)))
    ∙ after_cells (after_slot port (Some (inner_cell title l r))) title left right (omega (arith, same))

-- an output after slots without a cell
after_more : (port : Port) (count : ℕ) → port.gaps ≤ 2 ^ 64 - 1
    → with_bytes port (port.piece.bytes ++ flat_map (slot_block port.wide port.kind) (replicate count None)) (min (port.gaps + count) (2 ^ 64 - 1)) ≡ after_slots port (replicate count None)
after_more port zero few =
    let same : min (port.gaps + 0) (2 ^ 64 - 1) ≡ port.gaps = omega (arith, few) in
    ap (λ bytes. with_bytes port bytes (min (port.gaps + 0) (2 ^ 64 - 1))) (append-nil port.piece.bytes) ∙ ap (λ n. with_bytes port port.piece.bytes n) same
after_more port (suc count) few =
    let blocks = flat_map (slot_block port.wide port.kind) (replicate count None) in
    let same : min (port.gaps + suc count) (2 ^ 64 - 1) ≡ min (min (port.gaps + 1) (2 ^ 64 - 1) + count) (2 ^ 64 - 1) = omega (arith, few) in
    let less : min (port.gaps + 1) (2 ^ 64 - 1) ≤ 2 ^ 64 - 1 = omega arith in
    ap (λ bytes. with_bytes port bytes (min (port.gaps + suc count) (2 ^ 64 - 1))) (sym (append_assoc port.piece.bytes (slot_block port.wide port.kind None) blocks))
    ∙ ap (λ n. with_bytes port ((port.piece.bytes ++ slot_block port.wide port.kind None) ++ blocks) n) same
    ∙ after_more (after_slot port None) count less

pub after_gaps : (port : Port) (count : ℕ) → 0 < count
    → with_bytes port (port.piece.bytes ++ flat_map (slot_block port.wide port.kind) (replicate count None)) (min (port.gaps + count) (2 ^ 64 - 1)) ≡ after_slots port (replicate count None)
after_gaps port zero some = absurd (omega (arith, some))
after_gaps port (suc count) some =
    let blocks = flat_map (slot_block port.wide port.kind) (replicate count None) in
    let same : min (port.gaps + suc count) (2 ^ 64 - 1) ≡ min (min (port.gaps + 1) (2 ^ 64 - 1) + count) (2 ^ 64 - 1) = omega arith in
    let less : min (port.gaps + 1) (2 ^ 64 - 1) ≤ 2 ^ 64 - 1 = omega arith in
    ap (λ bytes. with_bytes port bytes (min (port.gaps + suc count) (2 ^ 64 - 1))) (sym (append_assoc port.piece.bytes (slot_block port.wide port.kind None) blocks))
    ∙ ap (λ n. with_bytes port ((port.piece.bytes ++ slot_block port.wide port.kind None) ++ blocks) n) same
    ∙ after_more (after_slot port None) count less

-- a write to a part of a list
pub part_put : {X : Type 0} (at k n : ℕ) (xs whole ys zs : List X) → k ≡ n → whole ≡ xs → ys ≡ zs → length zs ≡ n → at + n ≤ length xs → put_mid at k whole ys ≡ put_chunk at xs zs
part_put at k n xs whole ys zs many is part long fits =
    ap (λ ws. put_mid at k ws ys) is ∙ ap (λ ps. put_mid at k xs ps) part
    ∙ ap (λ m. take at xs ++ (zs ++ drop m (drop at xs))) (many ∙ sym long)
    ∙ sym (put_chunk_is at xs zs (omega (arith, long, fits)))
