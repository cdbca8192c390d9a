-- The record of rounds on one thread follows from the setting: each tick in its turn, with what the buffers hold then.
use Rattle.std.specs.Prelude.{Bool, true, false, Option, Some, None, List, [], ◌∷◌, ◌++◌, ℕ, zero, suc, drop, length, map, nat_lt}
use Rattle.frame_core.specs.declared.cell.Cell.{Cell}
use Rattle.frame_core.specs.Calls.{Call, Took, Given, Answer, puts_to, takes_of}
use Rattle.stream_meaning.specs.Instants.{Setting, answered}
use Rattle.stream_meaning.specs.Calls.{answers_in, calls_of_tick, takes_of_tick}
use Rattle.run_records.specs.Records.{Run, Window, capacity_of, on}

-- the chunks that a list holds after these calls on it, if it held those of `queue` before: a put adds one behind, and
-- a take drops the first
abbrev pub held_after : List (List Cell) → List Call → List (List Cell)
held_after queue [] = queue
held_after queue (Took buffer None ∷ calls) = held_after queue calls
held_after queue (Took buffer (Some chunk) ∷ calls) = held_after (drop 1 queue) calls
held_after queue (Given buffer chunk true ∷ calls) = held_after (queue ++ chunk ∷ []) calls
held_after queue (Given buffer chunk false ∷ calls) = held_after queue calls

-- the chunks that a buffer holds after these calls, the oldest first
abbrev pub held_by : (buffer : ℕ) → List Call → List (List Cell)
held_by buffer calls = held_after [] (on buffer calls)

-- whether a buffer has room for one more chunk after these calls
abbrev pub has_place : Setting → List Call → (buffer : ℕ) → Bool
has_place setting calls buffer = nat_lt (length (held_by buffer calls)) (capacity_of setting buffer)

-- what the takes of a buffer got by these calls, and then what those of one more tick get: each chunk that it holds,
-- and after that nothing
abbrev pub answers_after : List Call → (buffer : ℕ) → List Answer
answers_after calls buffer = answers_in buffer calls ++ map Some (held_by buffer calls)

-- whether a buffer accepts the put of tick t of clock m, which comes after these calls; the tick takes first
abbrev pub accepted_after : Setting → List Call → (m t buffer : ℕ) → Bool
accepted_after setting calls m t = has_place setting (calls
    ++ takes_of_tick (answered setting (answers_after calls)) m t)

-- the calls of tick t of clock m, which comes after these calls: each take gets what its buffer holds then
abbrev pub tick_after : Setting → List Call → (m t : ℕ) → List Call
tick_after setting calls m t = calls_of_tick (answered setting (answers_after calls)) (accepted_after setting calls m t)
    m t

-- these calls, and then those of tick t of the first so many clocks, in their order
abbrev pub round_after : Setting → List Call → (t clocks : ℕ) → List Call
round_after setting calls t zero = calls
round_after setting calls t (suc m) = round_after setting calls t m
    ++ tick_after setting (round_after setting calls t m) m t

-- the calls of N rounds of so many clocks
abbrev pub calls_in_rounds : Setting → (clocks N : ℕ) → List Call
calls_in_rounds setting clocks zero = []
calls_in_rounds setting clocks (suc t) = round_after setting (calls_in_rounds setting clocks t) t clocks

-- the record of `count` buffers, of which the first has the number `buffer`: one window for each, with its puts and its
-- takes among these calls
abbrev pub windows_from : List Call → (buffer count : ℕ) → List (List Window)
windows_from calls buffer zero = []
windows_from calls buffer (suc count) = ((puts_to buffer calls, takes_of buffer calls) ∷ [])
    ∷ windows_from calls (suc buffer) count

-- the record of N rounds of so many clocks on one thread
abbrev pub rounds_record : Setting → (clocks N : ℕ) → Run
rounds_record setting clocks N = record
    { buffers = windows_from (calls_in_rounds setting clocks N) 0 (length setting.plan.buffers) }
