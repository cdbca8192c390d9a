-- The logs of a run, and their counts.
use Rattle.std.specs.Prelude.{◌≡◌, ◌≢◌, ◌<◌, ◌+◌, ℕ, List, [], length, flat_map, slice_index_or}
use Rattle.buffer_ends.specs.Local.{Answers, LocalBuffer, counts_of, puts_of, takes_of_window}
use Rattle.buffer_ends.specs.declared.counts.Counts.{Counts}
use Rattle.buffer_ends.specs.declared.thread_taps.ThreadTaps.{ThreadTaps}
use Rattle.clock_threads.specs.declared.task.Task.{Task}
use Rattle.clock_threads.specs.declared.wires.Wire.{Wire}
use Rattle.clock_threads.specs.Wires.{wire_at}

-- adds two counts of a buffer's answers, sort by sort: accepted puts, puts at a full buffer, takes that got a chunk,
-- and takes that found none
abbrev pub more_counts : Counts → Counts → Counts
more_counts one other = record {
  accepted = one.accepted + other.accepted;
  full = one.full + other.full;
  got = one.got + other.got;
  empty = one.empty + other.empty;
}

-- all answers of a buffer's log, which has them window by window, as one list of puts and one of takes
abbrev pub answers_of_log : List Answers → Answers
answers_of_log log = record { puts = flat_map puts_of log; takes = flat_map takes_of_window log }

-- how many answers of each sort a buffer's log has: puts accepted or at a full buffer, takes with a chunk or without
abbrev pub counts_in : List Answers → Counts
counts_in log = counts_of (answers_of_log log)

-- there are `many` logs, one for each buffer, and none has the answers of any window yet
pub record AreNoLogs (many : ℕ) (logs : List (List Answers)) : Type 0 where
  pub are_many : length logs ≡ many
  pub each : (b : ℕ) (d : List Answers) → b < length logs → slice_index_or logs b d ≡ []

-- The logs, which have each buffer's answers window by window, came to `after`. For the buffers with both ends in this
-- clock they are now those in its `lists`, and for the others they are as they were. Wire b names the two clocks of
-- buffer b.
pub record TookLogs (wires : List Wire) (clock : ℕ) (lists logs after : List (List Answers)) : Type 0 where
  pub many : length after ≡ length logs
  pub here : (b : ℕ) (d : List Answers) → b < length wires → b < length lists → b < length logs
      → (wire_at wires b).from ≡ (wire_at wires b).to → (wire_at wires b).from ≡ clock
      → slice_index_or after b d ≡ slice_index_or lists b d
  pub joined : (b : ℕ) (d : List Answers) → (wire_at wires b).from ≢ (wire_at wires b).to
      → slice_index_or after b d ≡ slice_index_or logs b d
  pub others : (b : ℕ) (d : List Answers) → (wire_at wires b).from ≢ clock
      → slice_index_or after b d ≡ slice_index_or logs b d

-- The logs, which have each buffer's answers window by window, came to `after`. For a buffer with both ends in one
-- clock they are now those in the list of that clock's task, and for the others they are as they were. Wire b names the
-- two clocks of buffer b.
pub record AreCollected {S R : Type 0} (wires : List Wire) (tasks : List (Task S (ThreadTaps R)))
    (logs after : List (List Answers)) : Type 0 where
  pub many : length after ≡ length logs
  pub local : (b : ℕ) (d : List Answers) (e : Task S (ThreadTaps R)) (f : LocalBuffer) → b < length wires
      → b < length logs → (wire_at wires b).from ≡ (wire_at wires b).to → (wire_at wires b).from < length tasks
      → b < length (slice_index_or tasks (wire_at wires b).from e).taps.local
      → slice_index_or after b d
      ≡ (slice_index_or (slice_index_or tasks (wire_at wires b).from e).taps.local b f).closed
  pub joined : (b : ℕ) (d : List Answers) → (wire_at wires b).from ≢ (wire_at wires b).to
      → slice_index_or after b d ≡ slice_index_or logs b d
