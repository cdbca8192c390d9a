-- A tick of an engine, from what its instants and its sinks did.
use Rattle.std.proofs.Common.{◌≡◌, ◌<◌, ◌≤◌, ◌+◌, ◌*◌, ◌∙◌, ℕ, zero, suc, Some, None, List, [], ◌∷◌, length, map, arith, ap, sym}
use Rattle.std.proofs.Math.Nat.{suc-mul}
use Rattle.std.specs.List.{flat_map, range_with_len}
use Rattle.std.proofs.lemmas.List.{length-map}
use Rattle.std.proofs.lemmas.List.FromFn.{length-range_with_len}
use Rattle.clock_infer.specs.declared.clock_map.NodeClock.TheVariants.{Main}
use Rattle.frame_core.specs.Slots.{Slot}
use Rattle.stream_meaning.specs.Instants.{Setting, clock_of, first_instants, moment_after, offer, stream_of, sub_of}
use Rattle.stream_meaning.specs.Sinks.{gaps, missing, slot_block, tick_bytes, tick_slots, kind_of}
use Rattle.clock_outputs.specs.declared.port.Port.{Port}
use Rattle.clock_outputs.specs.Ports.{after_slots, emptied}
use Rattle.clock_ticks.specs.Hearings.{slot_in}
use Rattle.clock_ticks.proofs.Filling.{filled_bytes, filled_gaps}

-- the slots that were heard are those of the tick
pub tick_heard : (setting : Setting) (m t i : ℕ) (slots : List Slot) → clock_of setting i ≡ Main m
    → slots ≡ map (slot_in setting (sub_of setting) (Main m) i) (range_with_len (t * setting.plan.frame) setting.plan.frame)
    → slots ≡ tick_slots setting i t
tick_heard setting m t i slots inside is =
    is ∙ ap (λ clock. map (λ n. offer (moment_after setting (sub_of setting) clock (first_instants setting (sub_of setting) clock n)) i) (range_with_len (t * setting.plan.frame) setting.plan.frame)) (sym inside)

missing_few : (slots : List Slot) → missing slots ≤ length slots
missing_few [] = omega arith
missing_few (None ∷ slots) = let rest = missing_few slots in omega (arith, rest)
missing_few (Some cell ∷ slots) = let rest = missing_few slots in omega (arith, rest)

tick_long : (setting : Setting) (i t : ℕ) → length (tick_slots setting i t) ≡ setting.plan.frame
tick_long setting i t = length-map (range_with_len (t * setting.plan.frame) setting.plan.frame) (stream_of setting i) ∙ length-range_with_len (t * setting.plan.frame) setting.plan.frame

-- there are no more gaps than instants
pub gaps_few : (setting : Setting) (i ticks : ℕ) → gaps setting i ticks ≤ ticks * setting.plan.frame
gaps_few setting i zero = omega arith
gaps_few setting i (suc ticks) =
    let before = gaps_few setting i ticks in
    let now = missing_few (tick_slots setting i ticks) in
    let long = tick_long setting i ticks in
    let more = suc-mul ticks setting.plan.frame in
    omega (arith, before, now, long, more)

pub times_few : (ticks frame : ℕ) → ticks < 1000000000 → frame ≤ 65536 → ticks * frame ≤ 1000000000 * 65536
times_few ticks frame few small = grind (arith, few, small)

-- the gaps of an output after a tick
pub gaps_more : (setting : Setting) (t : ℕ) (port : Port) (slots : List Slot) → t < 1000000000 → setting.plan.frame ≤ 65536
    → port.gaps ≡ gaps setting port.node t → slots ≡ tick_slots setting port.node t
    → (after_slots (emptied port) slots).gaps ≡ gaps setting port.node (suc t)
gaps_more setting t port slots few small so_far are =
    let long : length slots ≡ setting.plan.frame = ap length are ∙ tick_long setting port.node t in
    let some = gaps_few setting port.node t in
    let bound = times_few t setting.plan.frame few small in
    filled_gaps (emptied port) slots (omega (arith, so_far, long, some, bound, small))
    ∙ ap (λ n. n + missing slots) so_far
    ∙ ap (λ xs. gaps setting port.node t + missing xs) are

-- the bytes of an output in a tick
pub bytes_are : (setting : Setting) (t : ℕ) (port : Port) (slots : List Slot) → port.kind ≡ kind_of setting port.node → slots ≡ tick_slots setting port.node t
    → (after_slots (emptied port) slots).piece.bytes ≡ tick_bytes setting port.wide port.node t
bytes_are setting t port slots kind are =
    filled_bytes (emptied port) slots
    ∙ ap (λ k. flat_map (slot_block port.wide k) slots) kind
    ∙ ap (flat_map (slot_block port.wide (kind_of setting port.node))) are
