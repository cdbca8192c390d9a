-- How far the calls of a clock came on each buffer, and buffers where its run goes on.
use Rattle.std.specs.Prelude.{◌≡◌, ◌<◌, ◌≤◌, ℕ, Bool, true, false, List, drop, length, nat_eq, slice_index_or}
use Rattle.frame_core.specs.declared.cell.Cell.{Cell}
use Rattle.trace_turns.specs.declared.told.Mark.{Mark}
use Rattle.trace_turns.specs.Answering.{BufferState, begun}

-- how far the calls of a clock came on a buffer, if it has made none: the counts of puts, of takes and of chunks that
-- were got are 0. Here a mark is such three counts, and no beginning of a track.
abbrev pub no_mark : Mark
no_mark = record { put_at = 0; take_at = 0; got = 0 }

-- how far the calls of a clock's run came on a buffer, read off the buffer's state: the counts of puts, of takes and of
-- chunks that were got
abbrev pub mark_of : BufferState → Mark
mark_of s = record { put_at = s.put_at; take_at = s.take_at; got = s.got }

-- The calls of a clock on a buffer s can have come as far as `mark` counts: no more puts and takes than the trace tells
-- answers of, and no more chunks got than came into the buffer.
pub record IsWithin (s : BufferState) (mark : Mark) : Type 0 where
  pub puts : mark.put_at ≤ length s.puts
  pub takes : mark.take_at ≤ length s.takes
  pub got : mark.got ≤ length s.chunks

-- On each buffer the calls of a clock can have come as far as `marks` counts by the buffer's number: no more puts and
-- takes than the trace tells answers of, and no more chunks got than came into the buffer.
abbrev pub AreWithin : List BufferState → List Mark → Type 0
AreWithin states marks = (b : ℕ) (d : BufferState) (e : Mark) → b < length states
    → IsWithin (slice_index_or states b d) (slice_index_or marks b e)

-- how many chunks other clocks have put to a buffer when a clock's run goes on: none if the clock feeds it itself,
-- which `true` says, and otherwise all that came into it
abbrev pub others_in : Bool → List (List Cell) → ℕ
others_in true chunks = 0
others_in false chunks = length chunks

-- The state of a buffer with which a clock's run goes on: its counts of calls are those of `mark`, to which the clock
-- had come, and its chunks stay. `fed` and `read` say whether the clock feeds the buffer and reads it.
abbrev pub resumed : BufferState → (fed read : Bool) → Mark → BufferState
resumed s fed read mark = record {
  capacity = s.capacity;
  puts = s.puts;
  takes = s.takes;
  fed = fed;
  read = read;
  put_at = mark.put_at;
  take_at = mark.take_at;
  got = mark.got;
  opened = others_in fed s.chunks;
  chunks = s.chunks;
  gone = s.gone;
}

-- The buffers `new` are those of `old`, set back to where the calls of clock m had come, so that its run can go on.
-- By the number of a buffer, `marks` has the counts of these calls, and `feeders` and `readers` have the main clocks of
-- its feed and its reader.
abbrev pub HaveResumed : (feeders readers : List ℕ) → (m : ℕ) → List Mark → List BufferState → List BufferState → Type 0
HaveResumed feeders readers m marks old new = (b : ℕ) (d : BufferState) (e : Mark) → b < length old
    → slice_index_or new b d
    ≡ resumed (slice_index_or old b d) (nat_eq (slice_index_or feeders b 0) m) (nat_eq (slice_index_or readers b 0) m)
    (slice_index_or marks b e)

-- `marks` has, by the number of a buffer, how far the calls of the run came on it: the counts of puts, of takes and of
-- chunks that were got
abbrev pub HaveMarked : List BufferState → List Mark → Type 0
HaveMarked states marks = (b : ℕ) (d : BufferState) (e : Mark) → b < length states
    → slice_index_or marks b e ≡ mark_of (slice_index_or states b d)

-- From `before` to `after` a buffer may have freed chunks that its reader had got: the first ones, `gone` of them. It
-- frees them only where the clock reads it. All other chunks are still there, and nothing else of the state changed.
pub record HasLetGo (before after : BufferState) : Type 0 where
  pub same : after ≡ record before { chunks = after.chunks; gone = after.gone }
  pub many : length after.chunks ≡ length before.chunks
  pub rest : drop after.gone after.chunks ≡ drop after.gone before.chunks
  pub on : before.gone ≤ after.gone
  pub unread : before.read ≡ false → after.gone ≡ before.gone
  pub low : before.gone ≤ before.got → after.gone ≤ before.got
  pub most : after.gone ≤ length after.chunks

-- From `old` to `new` each buffer that the clock reads may have freed chunks that were got. All other chunks are still
-- there, and nothing else changed.
abbrev pub HaveLetGo : List BufferState → List BufferState → Type 0
HaveLetGo old new = (b : ℕ) (d : BufferState) → b < length old
    → HasLetGo (slice_index_or old b d) (slice_index_or new b d)

-- each buffer of `new` is that of `old` before any run: it has no chunk and all its counts are 0; its capacity and the
-- answers that the trace tells of it stay
abbrev pub IsForgotten : List BufferState → List BufferState → Type 0
IsForgotten old new = (b : ℕ) (d : BufferState) → b < length old
    → slice_index_or new b d ≡ begun (slice_index_or old b d) true true
