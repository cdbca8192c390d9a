-- What the taps of a clock stand for.
use Rattle.std.specs.Prelude.{◌≡◌, ℕ, ◌<◌, not, List, [], length, map, count_by, slice_index_or, ◌⊎◌}
use Rattle.frame_core.specs.Calls.{Call, takes_of, puts_to}
use Rattle.buffer_ends.specs.Sides.{Side}
use Rattle.buffer_ends.specs.Local.{LocalBuffer, held, on, Leads, empty_list, no_answers, all_answers, yes}
use Rattle.buffer_queue.specs.Window.{is_chunk}
use Rattle.buffer_ends.specs.declared.counts.Counts.{Counts}

-- a clock has an end of buffer b: one of `sides`, its ends of buffers that join it to other clocks
abbrev pub Has : List Side → ℕ → Type 0
Has sides b = (k : ℕ) × (k < length sides) × ((d : Side) → (slice_index_or sides k d).buffer ≡ b)

-- Each of the buffers `lists` is in the state to which the calls on it lead from an empty buffer, with the same
-- answers. Buffers for which `elsewhere` holds are left out: they join another clock, and are kept at their ends.
abbrev pub ListsStand : (ℕ → Type 0) → List LocalBuffer → List Call → Type 0
ListsStand elsewhere lists calls =
    (b : ℕ) (d : LocalBuffer) → b < length lists → (elsewhere b → ⊥)
    → Leads (empty_list (slice_index_or lists b d).capacity) (on b calls) (held (slice_index_or lists b d))

-- each of `sides`, a clock's ends that put, has recorded just the answers of the puts on its buffer among these calls
abbrev pub PutsStand : List Side → List Call → Type 0
PutsStand sides calls = (k : ℕ) (d : Side) → k < length sides
    → (slice_index_or sides k d).window.answers ≡ puts_to (slice_index_or sides k d).buffer calls

-- each of `sides`, a clock's ends that take, has recorded just the answers of the takes on its buffer among these
-- calls
abbrev pub TakesStand : List Side → List Call → Type 0
TakesStand sides calls = (k : ℕ) (d : Side) → k < length sides
    → (slice_index_or sides k d).window.answers ≡ takes_of (slice_index_or sides k d).buffer calls

-- each of the buffers `lists` is in the state to which the calls on it lead from an empty buffer, with the same
-- answers
abbrev pub LocalStands : List LocalBuffer → List Call → Type 0
LocalStands lists calls = ListsStand (λ b. ⊥) lists calls

-- A clock's buffers are as these calls left them. The ends that put (`puts`) and that take (`takes`) have recorded the
-- answers. The buffers of `lists` without such an end are in the state to which the calls on them lead from empty.
abbrev pub EndsStand : List Side → List Side → List LocalBuffer → List Call → Type 0
EndsStand puts takes lists calls = PutsStand puts calls × TakesStand takes calls
    × ListsStand (λ b. Has puts b ⊎ Has takes b) lists calls

-- No call was made yet on the buffers of these ends, `sides`: neither an end nor the buffer's place in `lists` has an
-- answer.
abbrev pub AreNew : List Side → List LocalBuffer → Type 0
AreNew sides lists =
    (k : ℕ) (d : Side) → k < length sides
    → ((slice_index_or sides k d).window.answers ≡ [])
    × ((slice_index_or sides k d).buffer < length lists)
    × ((e : LocalBuffer) → all_answers (slice_index_or lists (slice_index_or sides k d).buffer e) ≡ no_answers)

-- The counts of buffer b tell its puts: how many were accepted and how many found it full. They are counted in the
-- window of its end among `sides`, or in `list`, the buffer as a list, if it has no end there.
abbrev pub PutsCounted : List Side → LocalBuffer → ℕ → Counts → Type 0
PutsCounted sides list b counts =
    ((k : ℕ) (d : Side) → k < length sides → (slice_index_or sides k d).buffer ≡ b
    → (counts.accepted ≡ count_by yes (map is_chunk (slice_index_or sides k d).window.answers))
    × (counts.full ≡ count_by not (map is_chunk (slice_index_or sides k d).window.answers)))
    × ((Has sides b → ⊥) → (counts.accepted ≡ count_by yes (all_answers list).puts)
    × (counts.full ≡ count_by not (all_answers list).puts))

-- The counts of buffer b tell its takes: how many got a chunk and how many found it empty. They are counted in the
-- window of its end among `sides`, or in `list`, the buffer as a list, if it has no end there.
abbrev pub TakesCounted : List Side → LocalBuffer → ℕ → Counts → Type 0
TakesCounted sides list b counts =
    ((k : ℕ) (d : Side) → k < length sides → (slice_index_or sides k d).buffer ≡ b
    → (counts.got ≡ count_by yes (map is_chunk (slice_index_or sides k d).window.answers))
    × (counts.empty ≡ count_by not (map is_chunk (slice_index_or sides k d).window.answers)))
    × ((Has sides b → ⊥) → (counts.got ≡ count_by yes (all_answers list).takes)
    × (counts.empty ≡ count_by not (all_answers list).takes))
