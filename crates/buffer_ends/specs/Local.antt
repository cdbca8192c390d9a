-- A buffer that one clock keeps as a list.
use Rattle.std.specs.Prelude.{◌≡◌, ℕ, zero, suc, ◌<◌, ◌==◌, Bool, true, false, not, List, [], ◌∷◌, ◌++◌, length, flat_map, count_by, Some, None, if◌then◌else◌, refl}
use Rattle.std.specs.Coded.{Coded, code_by, coded×, coded_ℕ, coded_bool, coded_list}
use Rattle.frame_core.specs.Coded.{cell_coded}
use Rattle.frame_core.specs.declared.cell.Cell.{Cell}
use Rattle.frame_core.specs.Calls.{Call}
use Rattle.frame_core.specs.Calls.Call.{Took, Given}
use Rattle.plan_core.specs.declared.sink.BufferPlan.{BufferPlan}
use Rattle.buffer_ends.specs.declared.counts.Counts.{Counts}

-- The answers of a buffer in one window (a run of ticks between two meetings of its ends). A put is true if the chunk
-- was accepted, and a take if a chunk was got.
pub record Answers : Type 0 where
  pub puts : List Bool
  pub takes : List Bool

-- A buffer that one thread keeps as a list: how many chunks it may hold, those that it holds, the answers of each
-- closed window, and those of the open one.
pub record LocalBuffer : Type 0 where
  pub capacity : ℕ
  pub chunks : List (List Cell)
  pub closed : List Answers
  pub current : Answers

-- the answers of a window in which no call was made yet
abbrev pub no_answers : Answers
no_answers = record { puts = []; takes = [] }

-- a buffer that one thread keeps, for at most `capacity` chunks, before any call
abbrev pub empty_buffer : ℕ → LocalBuffer
empty_buffer capacity = record { capacity = capacity; chunks = []; closed = []; current = no_answers }

-- the answers of the puts in a window
abbrev pub puts_of : Answers → List Bool
puts_of answers = answers.puts

-- the answers of the takes in a window
abbrev pub takes_of_window : Answers → List Bool
takes_of_window answers = answers.takes

-- all answers of a buffer over its windows as those of one, the oldest first
abbrev pub all_answers : LocalBuffer → Answers
all_answers buffer = record {
  puts = flat_map puts_of buffer.closed ++ buffer.current.puts;
  takes = flat_map takes_of_window buffer.closed ++ buffer.current.takes;
}

-- A bounded queue, as its rules see it: how many chunks it may hold, those that it holds, and all answers so far.
pub record Held : Type 0 where
  pub capacity : ℕ
  pub chunks : List (List Cell)
  pub answers : Answers

-- A buffer of one thread, seen as a bounded queue: its chunks, and the answers of all its windows as those of one.
abbrev pub held : LocalBuffer → Held
held buffer = record { capacity = buffer.capacity; chunks = buffer.chunks; answers = all_answers buffer }

-- a bounded queue of at most `capacity` chunks before any call
abbrev pub empty_list : ℕ → Held
empty_list capacity = record { capacity = capacity; chunks = []; answers = no_answers }

-- the answers with that of one more put at the end
abbrev pub with_put : Bool → Answers → Answers
with_put answer answers = record { puts = answers.puts ++ answer ∷ []; takes = answers.takes }

-- the answers with that of one more take at the end
abbrev pub with_take : Bool → Answers → Answers
with_take answer answers = record { puts = answers.puts; takes = answers.takes ++ answer ∷ [] }

-- What one call does to a bounded queue, from `before` to `after`. A take gets the front chunk, and finds nothing only
-- where the queue is empty. A put adds at the back, and is refused only where the queue is full.
abbrev pub Step : Held → Call → Held → Type 0
Step before (Took buffer None) after =
    (before.chunks ≡ []) × (after ≡ record before { answers = with_take false before.answers })
Step before (Took buffer (Some chunk)) after =
    (rest : List (List Cell)) × (before.chunks ≡ chunk ∷ rest)
    × (after ≡ record { capacity = before.capacity; chunks = rest; answers = with_take true before.answers })
Step before (Given buffer chunk true) after =
    (length before.chunks < before.capacity)
    × (after ≡ record {
      capacity = before.capacity;
      chunks = before.chunks ++ chunk ∷ [];
      answers = with_put true before.answers;
    })
Step before (Given buffer chunk false) after =
    (length before.chunks ≡ before.capacity) × (after ≡ record before { answers = with_put false before.answers })

-- these calls, one after another, lead from one state of a bounded queue to another
abbrev pub Leads : Held → List Call → Held → Type 0
Leads before [] after = before ≡ after
Leads before (call ∷ calls) after = (between : Held) × Step before call between × Leads between calls after

-- the number of the buffer on which a call was made
abbrev pub buffer_of : Call → ℕ
buffer_of (Took buffer answer) = buffer
buffer_of (Given buffer chunk accepted) = buffer

-- those of these calls that were made on the buffer with this number, in order
abbrev pub on : ℕ → List Call → List Call
on buffer [] = []
on buffer (call ∷ calls) = if buffer == buffer_of call then call ∷ on buffer calls else on buffer calls

-- whether an answer is true: the test by which successes are counted
abbrev pub yes : Bool → Bool
yes answer = answer

-- how many of these answers are of each sort: puts accepted, puts that found it full, takes that got a chunk, takes
-- that found it empty
abbrev pub counts_of : Answers → Counts
counts_of answers = record {
  accepted = count_by yes answers.puts;
  full = count_by not answers.puts;
  got = count_by yes answers.takes;
  empty = count_by not answers.takes;
}

-- a buffer after its open window was closed: its answers go to the closed windows, and a new one is open
abbrev pub closed : LocalBuffer → LocalBuffer
closed buffer = record {
  capacity = buffer.capacity;
  chunks = buffer.chunks;
  closed = buffer.closed ++ buffer.current ∷ [];
  current = no_answers;
}

-- a list of buffers after the open windows of the first n of them were closed; n is the first argument
abbrev pub closed_first : ℕ → List LocalBuffer → List LocalBuffer
closed_first zero buffers = buffers
closed_first (suc n) [] = []
closed_first (suc n) (buffer ∷ buffers) = closed buffer ∷ closed_first n buffers

-- the answers of a buffer's closed windows, window by window and the oldest first
abbrev pub closed_windows : LocalBuffer → List Answers
closed_windows buffer = buffer.closed

-- a buffer as a plan asks for it, before any call: empty, and with the capacity of the plan
abbrev pub planned : BufferPlan → LocalBuffer
planned buffer = empty_buffer buffer.capacity

-- how the answers of a window are coded as a number, by way of pairs, so that contracts may see a value that holds them
abbrev pub answers_coded : Coded Answers
answers_coded = code_by (List Bool × List Bool) (coded× (coded_list coded_bool) (coded_list coded_bool))
    (λ a. (a.puts, a.takes)) (λ p. record { puts = p.0; takes = p.1 }) (λ _. refl)

-- how a buffer that one thread keeps is coded as a number, by way of nested pairs, so that contracts may see a value
-- that holds it
abbrev pub buffer_coded : Coded LocalBuffer
buffer_coded =
    code_by (ℕ × (List (List Cell) × (List Answers × Answers)))
    (coded× coded_ℕ (coded× (coded_list (coded_list cell_coded)) (coded× (coded_list answers_coded) answers_coded)))
    (λ b. (b.capacity, (b.chunks, (b.closed, b.current)))) (λ p. record {
      capacity = p.0;
      chunks = p.1.0;
      closed = p.1.1.0;
      current = p.1.1.1;
    }) (λ _. refl)
