-- A segment of a clock: its first instant, and the run behind it.
use Rattle.std.proofs.Common.{◌≡◌, ◌<◌, ◌+◌, ◌-◌, ◌∙◌, ℕ, zero, suc, ℤ, Some, None, Bool, true, false, List, [], ◌∷◌, length, map, replicate, is_some, arith, refl, ap, sym, subst}
use Rattle.std.specs.List.{range_with_len}
use Rattle.std.proofs.lemmas.List.{length-map, length-replicate}
use Rattle.std.proofs.lemmas.Simd.{length-zip2}
use Rattle.clock_infer.specs.declared.clock_map.NodeClock.{NodeClock}
use Rattle.cell_ring.specs.Rings.{inner_cell, inner_cells}
use Rattle.frame_core.specs.Slots.{Slot, title_of}
use Rattle.frame_core.specs.Calls.{Answer, Call}
use Rattle.op_leaf.specs.Lanes.{AreTitled, IsLane}
use Rattle.op_leaf.proofs.Laid.{lane_cells}
use Rattle.stream_meaning.specs.Instants.{Setting, first_instants, moment_after, offer, part_at}
use Rattle.stream_meaning.specs.Calls.{HasAnswers, after_calls, calls_of, joined_upto}
use Rattle.stream_meaning.proofs.Answering.{joined_skip}
use Rattle.clock_outputs.specs.Segments.{segment_slots}
use Rattle.op_mix.specs.Stretches.{samples_of}
use Rattle.op_mix.proofs.Heard.{samples_long}
use Rattle.node_states.specs.Times.{TimeStands}
use Rattle.clock_instants.specs.Held.{IsHeld}
use Rattle.clock_nodes.specs.declared.scene.Scene.{Scene}
use Rattle.clock_nodes.specs.Scenes.{setting_over}
use Rattle.nested_instants.specs.Clocks.{InstantMade, IsWorld, Progress}
use Rattle.nested_instants.specs.Stretches.{StretchMade}
use Rattle.nested_instants.specs.declared.clock_states.ClockStates.{ClockStates}
use Rattle.clock_ticks.specs.declared.clock_state.ClockState.{ClockState}
use Rattle.clock_ticks.specs.Hearings.{SegmentMade, segment_of, slot_in, tapped}

slots_long : (slot : Slot) (many : ℕ) (lefts rights : List ℤ) → (is_some slot ≡ true → (length lefts ≡ many) × (length rights ≡ many)) → length (segment_slots slot many lefts rights) ≡ suc many
slots_long None many lefts rights long = ap suc (length-replicate many None)
slots_long (Some cell) many lefts rights long =
    let both = long refl in
    let same : length lefts ≡ length rights = both.0 ∙ sym both.1 in
    ap suc (length-map (inner_cells cell.title lefts rights) Some ∙ length-zip2 (inner_cell cell.title) lefts rights same ∙ both.0)

pub segment_long : (all : ClockStates) (many : ℕ) → (i : ℕ) → length (segment_of all many i) ≡ suc many
segment_long all many i =
    slots_long (part_at all.latest.parts.items i).slot many (samples_of all.room.left.items i many) (samples_of all.room.right.items i many)
    (λ gives. (samples_long all.room.left.items i many, samples_long all.room.right.items i many))

nones : (slots : ℕ → Slot) (from many : ℕ) → ((j : ℕ) → j < many → slots (from + j) ≡ None) → replicate many None ≡ map slots (range_with_len from many)
nones slots from zero none = refl
nones slots from (suc many) none =
    let here : from + 0 ≡ from = omega arith in
    ap (λ (slot : Slot). slot ∷ replicate many None) (sym (none 0 (omega arith)) ∙ ap slots here)
    ∙ ap (λ (rest : List Slot). slots from ∷ rest)
    (nones slots (from + 1) many (λ j low. let there : from + 1 + j ≡ from + suc j = omega arith in ap slots there ∙ none (suc j) (omega (arith, low))))

-- the slots of a run, behind that of the instant before it
slots_by : (slot : Slot) (many : ℕ) (lefts rights : List ℤ) (slots : ℕ → Slot) → (is_some slot ≡ true → IsLane slots many lefts rights)
    → (is_some slot ≡ true → AreTitled slots many (title_of slot)) → (is_some slot ≡ false → (j : ℕ) → j < many → slots j ≡ None) → segment_slots slot many lefts rights ≡ slot ∷ map slots (range_with_len 0 many)
slots_by None many lefts rights slots given titled empty =
    ap (λ (rest : List Slot). None ∷ rest) (nones slots 0 many (λ j low. let same : 0 + j ≡ j = omega arith in ap slots same ∙ empty refl j low))
slots_by (Some cell) many lefts rights slots given titled empty = ap (λ (rest : List Slot). Some cell ∷ rest) (lane_cells slots many cell.title lefts rights (given refl) (titled refl))

shifted : (f : ℕ → Slot) (from k many : ℕ) → map (λ j. f (from + j)) (range_with_len k many) ≡ map f (range_with_len (from + k) many)
shifted f from k zero = refl
shifted f from k (suc many) =
    let next : from + (k + 1) ≡ from + k + 1 = omega arith in
    ap (λ (rest : List Slot). f (from + k) ∷ rest) (shifted f from (k + 1) many ∙ ap (λ n. map f (range_with_len n many)) next)

-- an instant, and those behind it from `from` on
pub slots_from : (f : ℕ → Slot) (slot : Slot) (n from many : ℕ) → slot ≡ f n → from ≡ suc n → slot ∷ map (λ j. f (from + j)) (range_with_len 0 many) ≡ map f (range_with_len n (suc many))
slots_from f slot n from many is next =
    let there : from + 0 ≡ n + 1 = omega (arith, next) in
    ap (λ (first : Slot). first ∷ map (λ j. f (from + j)) (range_with_len 0 many)) is
    ∙ ap (λ (rest : List Slot). f n ∷ rest) (shifted f from 0 many ∙ ap (λ k. map f (range_with_len k many)) there)

-- the calls of the segment are those of its first instant
quiet_calls : (calls : ℕ → List Call) (from n many : ℕ) → from ≡ suc n → ((j : ℕ) → j < many → calls (from + j) ≡ []) → calls n ≡ joined_upto (λ j. calls (n + j)) (suc many)
quiet_calls calls from n many next quiet =
    let here : n ≡ n + 0 = omega arith in
    ap calls here
    ∙ sym (joined_skip (λ j. calls (n + j)) 1 (suc many) (omega arith)
    (λ j up low. let there : n + j ≡ from + (j - 1) = omega (arith, next, up) in ap calls there ∙ quiet (j - 1) (omega (arith, up, low))))

-- the answers behind those that were taken
pub taken_by : (setting : Setting) (now : Progress) (front : ℕ → List Answer) (more : List Call) → now.front ≡ front → HasAnswers setting (after_calls front more) → HasAnswers setting (after_calls now.front more)
taken_by setting now front more took has = subst (λ (f : ℕ → List Answer). HasAnswers setting (after_calls f more)) (sym took) has

module _ {T : Type 0} (stands : T → List Call → Type 0) (scene : Scene) (clock : NodeClock) (own : List Bool) where
  pub segment_made : (old new : ClockState) (mid : ClockStates) (a b : T) (many : ℕ) → InstantMade stands scene own clock old.time old.clocks mid a b
      → StretchMade scene clock old.time many mid new.clocks → new.clocks.latest ≡ mid.latest
      → ((start n : ℕ) → TimeStands start n old.time → TimeStands start (n + suc many) new.time)
      → SegmentMade stands scene clock own many (tapped old a) (tapped new b)
  segment_made old new mid a b many one rest kept later = record {
    more = one.more;
    taps = one.taps;
    run = λ other sub n front meant has stand.
        let S = setting_over scene other in
        let world : IsWorld S sub stand.rank own = record { ranks = stand.ranks; meaning = meant.meaning; down = meant.down; readers = meant.readers; roots = meant.roots } in
        let made = one.made other sub stand.rank stand.now world (taken_by S stand.now front one.more stand.took has) stand.stand stand.needed (subst (λ m. TimeStands S.start m old.time) (sym stand.made) stand.time) in
        let next : made.now.ran clock ≡ suc n = made.once ∙ ap suc stand.made in
        let parts : mid.latest.parts.items ≡ (moment_after S sub clock (first_instants S sub clock n)).parts =
        made.parts ∙ ap (λ m. (moment_after S sub clock (first_instants S sub clock m)).parts) stand.made in
        let ran = rest.run other sub stand.rank made.now own n world made.stand made.needed next parts
        (subst (λ m. IsHeld S sub clock (first_instants S sub clock m) mid.room.held.items) stand.made made.keeps) stand.time in
        record {
          state_stands = record {
            rank = stand.rank;
            now = ran.now;
            ranks = stand.ranks;
            made = (let once = ran.once in omega (arith, once, next));
            took = ran.took ∙ made.took ∙ ap (λ (f : ℕ → List Answer). after_calls f one.more) stand.took;
            stand = ran.stand;
            needed = ran.needed;
            time = later S.start n stand.time;
          };
          slots_are = λ i root.
              let is = ran.slots i root in
              let same : (part_at new.clocks.latest.parts.items i).slot ≡ offer (moment_after S sub clock (first_instants S sub clock n)) i =
              ap (λ latest. (part_at latest.parts.items i).slot) kept ∙ ap (λ ps. (part_at ps i).slot) parts in
              slots_by (part_at new.clocks.latest.parts.items i).slot many (samples_of new.clocks.room.left.items i many) (samples_of new.clocks.room.right.items i many)
              (λ j. slot_in S sub clock i (made.now.ran clock + j)) (λ there. is.given (sym (ap (λ (slot : Slot). is_some slot) same) ∙ there))
              (λ there j low. is.titled (sym (ap (λ (slot : Slot). is_some slot) same) ∙ there) j low ∙ sym (ap title_of same)) (λ none. is.silent (sym (ap (λ (slot : Slot). is_some slot) same) ∙ none))
              ∙ slots_from (slot_in S sub clock i) (part_at new.clocks.latest.parts.items i).slot n (made.now.ran clock) many
              (ap (λ latest. (part_at latest.parts.items i).slot) kept ∙ ap (λ ps. (part_at ps i).slot) parts) next;
          calls = made.calls ∙ ap (λ m. calls_of S sub clock (first_instants S sub clock m)) stand.made
              ∙ quiet_calls (λ m. calls_of S sub clock (first_instants S sub clock m)) (made.now.ran clock) n many next ran.quiet;
        };
  }
