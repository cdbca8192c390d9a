-- What a trace tells, and which traces are accepted.
use Rattle.std.specs.Prelude.{◌≡◌, ℕ, Bool, List, [], length, map, slice_index_or}
use Rattle.clock_infer.specs.declared.clock_map.ClockMap.{ClockMap}
use Rattle.frame_core.specs.Library.{Sounds}
use Rattle.plan_core.specs.declared.plan.Plan.{Plan}
use Rattle.stream_meaning.specs.Instants.{Setting}
use Rattle.buffer_ends.specs.Local.{Answers}
use Rattle.run_records.specs.Ordered.{IsOrdered}
use Rattle.run_records.specs.Records.{AreWindows, Run, setting_in}
use Rattle.buffer_sides.specs.Logs.{told}
use Rattle.trace_log.specs.Values.{TraceValue}
use Rattle.trace_records.specs.Clocks.{Log}
use Rattle.trace_records.specs.Passes.{IsOrderedText}

-- the setting of a plan with its audio files, its clocks and its start second, before its buffers have answered any
-- take
abbrev pub base_of : Plan → Sounds → ClockMap → (start : ℕ) → Setting
base_of plan library clocks start = record {
  plan = plan;
  library = library;
  clocks = clocks.of;
  start = start;
  answers = λ buffer. [];
}

-- the answers of a window, of its puts and of its takes, as a pair
abbrev pub pair_of : Answers → List Bool × List Bool
pair_of answers = (answers.puts, answers.takes)

-- the text of a trace: what its logs tell of buffer b, the answers of each window
abbrev pub text_of : List (List Answers) → ℕ → Log
text_of logs b = map pair_of (slice_index_or logs b [])

-- A trace of N ticks of clocks 0 to `clocks - 1` is accepted: its text is that of a lawful record whose ticks can be
-- put in an order in which no chunk is got before it was put.
pub record IsAccepted (base : Setting) (clocks N : ℕ) (trace : TraceValue) : Type 0 where
  pub ticks : trace.ticks ≡ N
  pub buffers : length trace.buffers ≡ length base.plan.buffers
  pub ordered : IsOrderedText base clocks trace.window N (text_of trace.buffers)

-- the trace that a run leaves: of N ticks in windows of W ticks, the answers of its puts and takes without the chunks
abbrev pub trace_of : (W N : ℕ) → Run → TraceValue
trace_of W N run = record { ticks = N; window = W; buffers = map (map told) run.buffers }

-- The run is the record that a trace tells, of clocks 0 to `clocks - 1`: it is lawful, its ticks can be put in an order
-- in which no chunk is got before it was put, and it leaves this trace.
pub record IsRecordOf (base : Setting) (clocks : ℕ) (trace : TraceValue) (run : Run) : Type 0 where
  pub lawful : AreWindows base clocks trace.window trace.ticks run
  pub ordered : IsOrdered (setting_in base run) clocks lawful.accepted trace.ticks
  pub leaves : trace ≡ trace_of trace.window trace.ticks run
