-- How many bytes an output has.
use Rattle.std.proofs.Common.{◌≡◌, ℕ, zero, suc, ◌+◌, ◌*◌, ◌%◌, List, [], ◌∷◌, length, length-append, ap, refl, ◌∙◌, arith}
use Rattle.std.proofs.Math.Nat.{suc-mul}
use Rattle.std.proofs.lemmas.List.{length-map, length-replicate}
use Rattle.std.proofs.lemmas.List.FromFn.{length-range_with_len}
use Rattle.std.specs.Prelude.{Bool, true, false, Some, None}
use Rattle.std.specs.List.{flat_map, range_with_len}
use Rattle.liq_base.specs.declared.memory.Kind.{Kind}
use Rattle.liq_base.specs.declared.memory.Kind.TheVariants.{Mono, Stereo}
use Rattle.frame_core.specs.Slots.{Slot}
use Rattle.wav_io.specs.Header.{block_align, padded, wide_header_bytes}
use Rattle.wav_io.proofs.Headers.{length_header}
use Rattle.run_records.specs.Records.{Run}
use Rattle.stations.specs.Stations.{Station, setting_of_run}
use Rattle.stations.specs.Streams.{body_size, bytes_of, file_bytes, header_for, output_bytes, zeros_after}
use Rattle.stream_meaning.specs.Instants.{Setting, stream_of}
use Rattle.stream_meaning.specs.Sinks.{block_length, kind_of, slot_block, tick_bytes, tick_slots, ticks_bytes}

block_long : (wide : Bool) (kind : Kind) (slot : Slot) → length (slot_block wide kind slot) ≡ block_length wide kind
block_long false Mono None = refl
block_long false Mono (Some cell) = refl
block_long false Stereo None = refl
block_long false Stereo (Some cell) = refl
block_long true Mono None = refl
block_long true Mono (Some cell) = refl
block_long true Stereo None = refl
block_long true Stereo (Some cell) = refl

blocks_long : (wide : Bool) (kind : Kind) (slots : List Slot) → length (flat_map (slot_block wide kind) slots) ≡ length slots * block_length wide kind
blocks_long wide kind [] = omega arith
blocks_long wide kind (slot ∷ slots) =
    let both = length-append (slot_block wide kind slot) (flat_map (slot_block wide kind) slots) in
    let here = block_long wide kind slot in
    let rest = blocks_long wide kind slots in
    omega (arith, both, here, rest)

tick_long : (setting : Setting) (wide : Bool) (i t : ℕ) → length (tick_bytes setting wide i t) ≡ setting.plan.frame * block_length wide (kind_of setting i)
tick_long setting wide i t =
    let many : length (tick_slots setting i t) ≡ setting.plan.frame =
    length-map (range_with_len (t * setting.plan.frame) setting.plan.frame) (stream_of setting i) ∙ length-range_with_len (t * setting.plan.frame) setting.plan.frame in
    blocks_long wide (kind_of setting i) (tick_slots setting i t) ∙ ap (λ n. n * block_length wide (kind_of setting i)) many

pub ticks_long : (setting : Setting) (wide : Bool) (i ticks : ℕ) → length (ticks_bytes setting wide i ticks) ≡ ticks * (setting.plan.frame * block_length wide (kind_of setting i))
ticks_long setting wide i zero = omega arith
ticks_long setting wide i (suc ticks) =
    let both = length-append (ticks_bytes setting wide i ticks) (tick_bytes setting wide i ticks) in
    let before = ticks_long setting wide i ticks in
    let here = tick_long setting wide i ticks in
    let many = suc-mul ticks (setting.plan.frame * block_length wide (kind_of setting i)) in
    omega (arith, both, before, here, many)

length_wide : (kind : Kind) (rate samples : ℕ) → length (wide_header_bytes kind rate samples) ≡ 44
unfolding wide_header_bytes
length_wide kind rate samples = refl

pub header_long : (setting : Setting) (wide : Bool) (ticks node : ℕ) → length (header_for setting wide ticks node) ≡ 44
header_long setting false ticks node = length_header (kind_of setting node) setting.plan.rate (ticks * setting.plan.frame)
header_long setting true ticks node = length_wide (kind_of setting node) setting.plan.rate (ticks * setting.plan.frame)

same_block : (wide : Bool) (kind : Kind) → block_length wide kind ≡ block_align wide kind
same_block false kind = refl
same_block true kind = refl

-- the bytes of a file, by those of its samples
pub file_long : (setting : Setting) (wide : Bool) (ticks node : ℕ) → length (file_bytes setting wide ticks node) ≡ 44 + body_size setting wide ticks node + body_size setting wide ticks node % 2
file_long setting wide ticks node =
    let size = body_size setting wide ticks node in
    let whole = length-append (output_bytes setting wide ticks node) (zeros_after size) in
    let both = length-append (header_for setting wide ticks node) (ticks_bytes setting wide node ticks) in
    let front = header_long setting wide ticks node in
    let back = ticks_long setting wide node ticks in
    let last = length-replicate {A = ℕ} (size % 2) 0 in
    omega (arith, whole, both, front, back, last)

pub output_long : (station : Station) (run : Run) (wide : Bool) (node : ℕ) → length (bytes_of station run wide node)
    ≡ 44 + padded (station.ticks * station.plan.frame * block_align wide (kind_of (setting_of_run station run) node))
output_long station run wide node =
    let setting = setting_of_run station run in
    let size = body_size setting wide station.ticks node in
    let block = block_align wide (kind_of setting node) in
    let whole = length-append (output_bytes setting wide station.ticks node) (zeros_after size) in
    let both = length-append (header_for setting wide station.ticks node) (ticks_bytes setting wide node station.ticks) in
    let front = header_long setting wide station.ticks node in
    let back = ticks_long setting wide node station.ticks in
    let last = length-replicate {A = ℕ} (size % 2) 0 in
    let sized : size ≡ station.ticks * (station.plan.frame * block) = ap (λ b. station.ticks * (station.plan.frame * b)) (same_block wide (kind_of setting node)) in
    let same : station.ticks * (station.plan.frame * block) ≡ station.ticks * station.plan.frame * block = omega arith in
    let sums : length (bytes_of station run wide node) ≡ 44 + padded size = omega (arith, whole, both, front, back, last) in
    sums ∙ ap (λ n. 44 + padded n) (sized ∙ same)
