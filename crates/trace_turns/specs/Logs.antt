-- What the logs of a trace tell of buffers, before any run.
use Rattle.std.specs.Prelude.{◌≡◌, ◌<◌, ℕ, suc, Bool, true, false, Some, List, [], length, take, slice_get, slice_index_or}
use Rattle.std.specs.List.{flat_map}
use Rattle.buffer_ends.specs.Local.{Answers}
use Rattle.plan_core.specs.declared.sink.BufferPlan.{BufferPlan}
use Rattle.trace_turns.specs.declared.ends.Ends.{Ends}
use Rattle.trace_records.specs.Clocks.{Log, puts_in, takes_in}
use Rattle.trace_turns.specs.Answering.{BufferState}
use Rattle.trace_turns.specs.Turns.{AreEnds}
use Rattle.trace_records.specs.Traces.{text_of}

-- the answers of one end of a buffer in a window: of its puts, if `true`, and otherwise of its takes
abbrev pub side_of : Bool → Answers → List Bool
side_of true answers = answers.puts
side_of false answers = answers.takes

-- `ends` has, for each of these windows of a buffer, how many answers of puts there are up to its end; or of takes,
-- where `puts` is false
abbrev pub AreEndsOf : Bool → List Answers → List ℕ → Type 0
AreEndsOf puts windows ends = (j : ℕ) → j < length windows
    → slice_get ends j ≡ Some (length (flat_map (side_of puts) (take (suc j) windows)))

-- the state of a buffer of this capacity before any run: with the answers that this log of a trace tells, and no chunk
abbrev pub new_state : (capacity : ℕ) → Log → BufferState
new_state capacity log = record {
  capacity = capacity;
  puts = puts_in log;
  takes = takes_in log;
  fed = false;
  read = false;
  put_at = 0;
  take_at = 0;
  got = 0;
  opened = 0;
  chunks = [];
  gone = 0;
}

-- These are the states of a plan's first `count` buffers before any run, with the answers that the logs of a trace
-- tell; and `ends` says where their windows end.
abbrev pub AreNew : List BufferPlan → List (List Answers) → (count : ℕ) → List BufferState → List Ends → Type 0
AreNew plans logs count states ends = (b : ℕ) → b < count
    → ((d : BufferState) (plan : BufferPlan) → slice_get plans b ≡ Some plan
    → slice_index_or states b d ≡ new_state plan.capacity (text_of logs b))
    × ((e : Ends) → AreEnds (text_of logs b) (slice_index_or ends b e))
