-- Buffers that let go of chunks, and what they stand for.
use Rattle.std.specs.Prelude.{◌≡◌, ◌<◌, ◌≤◌, ◌⊎◌, ℕ, true, None, List, ◌∷◌, ◌++◌, drop, length, slice_index_or}
use Rattle.frame_core.specs.Calls.{Call, Took}
use Rattle.trace_turns.specs.declared.told.Mark.{Mark}
use Rattle.trace_turns.specs.declared.course.Course.{Course}
use Rattle.trace_turns.specs.declared.course.Course.TheVariants.{Goes, Waits, Fails}
use Rattle.trace_turns.specs.Answering.{AllStand, BufferState, HasFailed, HasWaited}

-- `full` is the state s of a buffer with all the chunks that came into it, also the first ones, which s has freed; the
-- other chunks and all else are equal
pub record IsFull (s full : BufferState) : Type 0 where
  pub same : full ≡ record s { chunks = full.chunks; gone = 0 }
  pub many : length full.chunks ≡ length s.chunks
  pub rest : drop s.gone full.chunks ≡ drop s.gone s.chunks
  pub low : s.gone ≤ length s.chunks

-- `full` are the states of these buffers with all the chunks that came into them, also those that were freed
pub record AreFull (states full : List BufferState) : Type 0 where
  pub many : length full ≡ length states
  pub each : (b : ℕ) (d : BufferState) → b < length states
      → IsFull (slice_index_or states b d) (slice_index_or full b d)

-- among these calls is one take without an answer, from a buffer that has freed the next chunk to be got, as its state
-- among `states` says
pub record HasLost (states full : List BufferState) (calls : List Call) : Type 0 where
  pub front : List Call
  pub behind : List Call
  pub buffer : ℕ
  pub are : calls ≡ front ++ Took buffer None ∷ behind
  pub known : buffer < length states
  pub lost : (d : BufferState) → (slice_index_or states buffer d).got < (slice_index_or states buffer d).gone

-- Buffers that freed chunks are after these calls as the same buffers with all their chunks are. The course says how:
-- all calls were answered; or one take waits for a chunk, or is to get a chunk that was freed; or no answer is right to
-- one of them.
abbrev pub TapsFollow : Course → List BufferState → List Call → Type 0
TapsFollow Goes states calls = (full : List BufferState) × AreFull states full × AllStand full calls
TapsFollow Waits states calls = (full : List BufferState) × AreFull states full
    × (HasWaited full calls ⊎ HasLost states full calls)
TapsFollow Fails states calls = (full : List BufferState) × AreFull states full × HasFailed full calls

-- no chunk is lost that the clock is still to get: of each buffer that it reads, only chunks were freed that it has got
abbrev pub NoneLost : List BufferState → Type 0
NoneLost states = (b : ℕ) (d : BufferState) → b < length states → (slice_index_or states b d).read ≡ true
    → (slice_index_or states b d).gone ≤ (slice_index_or states b d).got

-- no chunk is lost that clock m is still to get: of each buffer that it reads, only chunks were freed that it has got.
-- By a buffer's number, `marks` has how far the clock's calls came on it, and `readers` the main clock of its reader.
abbrev pub AreUnlost : (readers : List ℕ) → (m : ℕ) → List Mark → List BufferState → Type 0
AreUnlost readers m marks states = (b : ℕ) (d : BufferState) (e : Mark) → b < length states
    → slice_index_or readers b 0 ≡ m → (slice_index_or states b d).gone ≤ (slice_index_or marks b e).got

-- A turn of clock m, its run of some ticks, frees no chunk that another clock is still to get. It led the buffers from
-- `before` to `after`; `readers` has the main clock of the reader of each.
abbrev pub OthersStayUnlost : (readers : List ℕ) → (m : ℕ) → (before after : List BufferState) → Type 0
OthersStayUnlost readers m before after = (k : ℕ) (marks : List Mark) → (k ≡ m → ⊥)
    → AreUnlost readers k marks before → AreUnlost readers k marks after

-- no chunk of any buffer was let go
abbrev pub AreKept : List BufferState → Type 0
AreKept states = (b : ℕ) (d : BufferState) → b < length states → (slice_index_or states b d).gone ≡ 0
