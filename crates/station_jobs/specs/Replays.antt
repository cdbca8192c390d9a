-- The trace by which a script is rendered again: what is in its file, and why it is not rendered.
use Rattle.std.specs.Prelude.{◌≡◌, ◌≤◌, ◌<◌, ◌^◌, ℕ, List, Some, None, length}
use Rattle.liq_base.specs.Files.{Files, file_at}
use Rattle.stream_meaning.specs.Instants.{Setting}
use Rattle.trace_log.specs.Stops.{StopsAt}
use Rattle.trace_log.specs.Texts.{IsTrace, trace_text}
use Rattle.trace_log.specs.Values.{TraceValue}
use Rattle.trace_records.specs.Traces.{IsAccepted}
use Rattle.stations.specs.Stations.{Way, Again}
use Rattle.refusal_lines.specs.declared.replay_lines.ReplayFault.{ReplayFault}
use Rattle.refusal_lines.specs.declared.replay_lines.ReplayFault.TheVariants.{NoTrace, TraceTooLarge, NotATrace, DoesNotFit}

-- The size of the largest trace file that a replay reads: 2^28 bytes.
abbrev pub most_bytes : ℕ
most_bytes = 2 ^ 28

-- The file of this name is there and holds these bytes, which are no more than a trace may have.
pub record HasText (files : Files) (name text : List ℕ) : Type 0 where
  pub there : file_at files name ≡ Some text
  pub few : length text ≤ most_bytes

-- The file of this name is there, and has more bytes than a trace may have.
pub record HasMore (files : Files) (name : List ℕ) : Type 0 where
  pub text : List ℕ
  pub there : file_at files name ≡ Some text
  pub many : most_bytes < length text

-- The file of this name is the text of this trace, a record of what the buffers between clocks answered in a run.
pub record HasTrace (files : Files) (name : List ℕ) (trace : TraceValue) : Type 0 where
  pub text : List ℕ
  pub has : HasText files name text
  pub is_trace : IsTrace trace
  pub text_is : text ≡ trace_text trace

-- The file of this name is no trace: line number `line` is the first that has not the form of one.
pub record HasNoTrace (files : Files) (name : List ℕ) (line : ℕ) : Type 0 where
  pub text : List ℕ
  pub has : HasText files name text
  pub stops : StopsAt text line

-- The file of this name is a trace that can be replayed for N ticks of so many clocks: a lawful run of them has it,
-- whose ticks can be put in one order. `base` is the plan with its audio files and start.
pub record HasFitting (files : Files) (name : List ℕ) (base : Setting) (clocks N : ℕ) (trace : TraceValue) : Type 0
  where
    pub has : HasTrace files name trace
    pub fits : IsAccepted base clocks N trace

-- The file of this name is a trace that cannot be replayed here: no lawful run of N ticks of so many clocks, whose
-- ticks can be put in one order, has it. `base` is the plan with its audio files and start.
pub record HasUnfitting (files : Files) (name : List ℕ) (base : Setting) (clocks N : ℕ) : Type 0 where
  pub trace : TraceValue
  pub has : HasTrace files name trace
  pub unfit : IsAccepted base clocks N trace → ⊥

-- The way of a replay, which makes ticks as a trace tells: the file of this name is a trace that fits N ticks of so
-- many clocks. `base` is the plan with its audio files and start.
pub record IsWayOf (files : Files) (name : List ℕ) (base : Setting) (clocks N : ℕ) (way : Way) : Type 0 where
  pub trace : TraceValue
  pub fitting : HasFitting files name base clocks N trace
  pub way_is : way ≡ Again trace

-- Why a script is not replayed by the trace of this name: there is no such file, it is too large, a line is not in the
-- form of a trace, or it is of no run of N ticks of so many clocks. `base` is the plan with its audio files and start.
abbrev pub IsReplayFault : Files → (name : List ℕ) (base : Setting) (clocks N : ℕ) → ReplayFault → Type 0
IsReplayFault files name base clocks N (NoTrace told) = (told ≡ name) × (file_at files name ≡ None)
IsReplayFault files name base clocks N (TraceTooLarge told) = (told ≡ name) × HasMore files name
IsReplayFault files name base clocks N (NotATrace line) = HasNoTrace files name line
IsReplayFault files name base clocks N DoesNotFit = HasUnfitting files name base clocks N
