-- The run of one clock, between two ticks.
use Rattle.std.specs.Prelude.{◌≡◌, ◌<◌, ◌-◌, ◌/◌, ◌%◌, ◌⊎◌, ℕ, suc, Bool, true, false, Some, List, [], ◌∷◌, ◌++◌, length, take, nat_eq, slice_get, slice_index_or, if◌then◌else◌}
use Rattle.frame_core.specs.declared.cell.Cell.{Cell}
use Rattle.frame_core.specs.Calls.{Call}
use Rattle.stream_meaning.specs.Instants.{Setting, same_clock}
use Rattle.stream_meaning.specs.Calls.{answers_in}
use Rattle.run_records.specs.Buffers.{feeder, reader}
use Rattle.run_records.specs.Records.{capacity_of}
use Rattle.clock_ticks.specs.declared.engine.EngineParts.{EngineParts}
use Rattle.clock_ticks.specs.Engines.{EngineStands, setting_of}
use Rattle.plan_core.specs.declared.sink.SinkPlan.{SinkPlan}
use Rattle.plan_core.specs.declared.sink.SinkPlan.TheVariants.{Output, Feed}
use Rattle.clock_infer.specs.declared.clock_map.NodeClock.{NodeClock}
use Rattle.clock_infer.specs.declared.clock_map.ClockMap.{ClockMap}
use Rattle.stream_meaning.specs.Settings.{IsSetting}
use Rattle.trace_turns.specs.declared.course.Course.{Course}
use Rattle.trace_turns.specs.declared.course.Course.TheVariants.{Goes, Waits, Fails}
use Rattle.trace_turns.specs.declared.ends.Ends.{Ends}
use Rattle.trace_turns.specs.declared.station.Station.{Station}
use Rattle.trace_records.specs.Traces.{base_of}
use Rattle.trace_records.specs.Clocks.{AreWhole, Log, puts_in, takes_in}
use Rattle.trace_records.specs.Passes.{IsFormed, IsMadeBy, ticks_in}
use Rattle.trace_turns.specs.Answering.{AllStand, BufferState, begun}

-- the state that stands for a buffer which the plan does not have: without a chunk, an answer or a clock
abbrev pub no_state : BufferState
no_state = record {
  capacity = 0;
  puts = [];
  takes = [];
  fed = false;
  read = false;
  put_at = 0;
  take_at = 0;
  got = 0;
  opened = 0;
  chunks = [];
  gone = 0;
}

-- the chunks that were put to buffer b so far; none if there is no such buffer
abbrev pub chunks_of : List BufferState → ℕ → List (List Cell)
chunks_of states b = (slice_index_or states b no_state).chunks

-- `ends` says where the windows of a buffer's log in a trace end: for each, how many answers of puts and of takes the
-- log has up to there
pub record AreEnds (log : Log) (ends : Ends) : Type 0 where
  pub puts : (j : ℕ) → j < length log → slice_get ends.puts.items j ≡ Some (length (puts_in (take (suc j) log)))
  pub takes : (j : ℕ) → j < length log → slice_get ends.takes.items j ≡ Some (length (takes_in (take (suc j) log)))

-- On a buffer s the clock made just the calls of windows 0 to j: all their puts if it feeds the buffer, and all their
-- takes if it reads it. `ends` has these numbers for each window.
pub record IsAtEnd (s : BufferState) (ends : Ends) (j : ℕ) : Type 0 where
  pub puts : s.fed ≡ true → slice_get ends.puts.items j ≡ Some s.put_at
  pub takes : s.read ≡ true → slice_get ends.takes.items j ≡ Some s.take_at

-- These are the states of a plan's buffers in the run of clock m. They have the answers that `text`, the text of a
-- trace, tells of each, and know whether the clock feeds or reads them. A buffer that it feeds began empty, and any
-- other with the chunks `chunks b`.
pub record AreOf (base : Setting) (text : ℕ → Log) (m : ℕ) (chunks : ℕ
    → List (List Cell)) (states : List BufferState) : Type 0 where
  pub many : length states ≡ length base.plan.buffers
  pub puts : (b : ℕ) (d : BufferState) → b < length base.plan.buffers
      → (slice_index_or states b d).puts ≡ puts_in (text b)
  pub takes : (b : ℕ) (d : BufferState) → b < length base.plan.buffers
      → (slice_index_or states b d).takes ≡ takes_in (text b)
  pub capacity : (b : ℕ) (d : BufferState) → b < length base.plan.buffers
      → (slice_index_or states b d).capacity ≡ capacity_of base b
  pub fed : (b : ℕ) (d : BufferState) → b < length base.plan.buffers → feeder base b ≡ m
      → (slice_index_or states b d).fed ≡ true
  pub not_fed : (b : ℕ) (d : BufferState) → b < length base.plan.buffers → (feeder base b ≡ m → ⊥)
      → (slice_index_or states b d).fed ≡ false
  pub read : (b : ℕ) (d : BufferState) → b < length base.plan.buffers → reader base b ≡ m
      → (slice_index_or states b d).read ≡ true
  pub not_read : (b : ℕ) (d : BufferState) → b < length base.plan.buffers → (reader base b ≡ m → ⊥)
      → (slice_index_or states b d).read ≡ false
  pub anew : (b : ℕ) (d : BufferState) → b < length base.plan.buffers → feeder base b ≡ m
      → (slice_index_or states b d).opened ≡ 0
  pub there : (b : ℕ) (d : BufferState) → b < length base.plan.buffers → (feeder base b ≡ m → ⊥)
      → (slice_index_or states b d).opened ≡ length (chunks b)
  pub front : (b : ℕ) (d : BufferState) → b < length base.plan.buffers → (feeder base b ≡ m → ⊥)
      → (rest : List (List Cell)) × ((slice_index_or states b d).chunks ≡ chunks b ++ rest)

-- Clock m has made its first n ticks as the text of a trace tells; its engine, of `parts`, and the states of its
-- buffers are those after its calls. The text has N ticks in windows of W; `chunks` are those that other clocks had put
-- when the run began.
pub record RunsAt (base : Setting) (text : ℕ → Log) (W N m n : ℕ) (chunks : ℕ
    → List (List Cell)) (parts : EngineParts) (states : List BufferState) : Type 0 where
  pub calls : List Call
  pub accepted : ℕ → ℕ → Bool
  pub over : setting_of parts ≡ base
  pub clock : parts.clock ≡ m
  pub are : IsMadeBy base m n accepted calls
  pub engine : EngineStands parts n (λ b. answers_in b calls)
  pub stand : AllStand states calls
  pub of : AreOf base text m chunks states
  pub whole : AreWhole base text W N m n (λ t. ticks_in base accepted calls m t)

-- on each buffer the clock made just the calls of windows 0 to j: the puts where it feeds it, and the takes where it
-- reads it; `ends` says where the windows of each buffer end
abbrev pub AreAtEnd : List BufferState → List Ends → (j : ℕ) → Type 0
AreAtEnd states ends j = (b : ℕ) (s : BufferState) (e : Ends) → b < length states
    → IsAtEnd (slice_index_or states b s) (slice_index_or ends b e) j

-- on some buffer the clock made more or fewer calls than windows 0 to j have; `ends` says where the windows of each
-- buffer end
pub record IsOffEnd (states : List BufferState) (ends : List Ends) (j : ℕ) : Type 0 where
  pub buffer : ℕ
  pub known : buffer < length states
  pub off : (s : BufferState) (e : Ends) → IsAtEnd (slice_index_or states buffer s) (slice_index_or ends buffer e) j → ⊥

-- a window ends with tick n, in a run of N ticks in windows of W
abbrev pub EndsWith : (W N n : ℕ) → Type 0
EndsWith W N n = (n % W ≡ W - 1) ⊎ (suc n ≡ N)

-- The last argument is how a clock's run of N ticks, in windows of W, goes on after tick n, and `before` is how it
-- would by the answers of the tick's calls. They are the same, but a run that could go on fails where a window ends
-- with this tick and the clock's calls on some buffer are not just those up to there; `ends` says where windows end.
abbrev pub GoesOn : (W N n : ℕ) → Course → List BufferState → List Ends → Course → Type 0
GoesOn W N n before states ends Goes = (before ≡ Goes) × (EndsWith W N n → AreAtEnd states ends (n / W))
GoesOn W N n before states ends Waits = before ≡ Waits
GoesOn W N n before states ends Fails = (before ≡ Fails)
    ⊎ ((before ≡ Goes) × EndsWith W N n × IsOffEnd states ends (n / W))

-- what a replay of a trace rests on: a plan with its clocks and files, the text of the trace, and the chunks that are
-- there of each buffer
pub record Score : Type 0 where
  pub base : Setting
  pub clocks : ClockMap
  pub text : ℕ → Log
  pub chunks : ℕ → List (List Cell)

-- An engine of clock m, of `parts`, may be run over these buffers from its first tick on: it is new, and they have made
-- no call. They tell the text of a trace, of N ticks in windows of W that end as `ends` says.
pub record MayTurn (score : Score) (W N m : ℕ) (parts : EngineParts) (states : List BufferState)
    (ends : List Ends) : Type 0 where
  pub is : IsSetting score.base score.clocks
  pub over : setting_of parts ≡ score.base
  pub clock : parts.clock ≡ m
  pub fresh : EngineStands parts 0 (λ b. [])
  pub of : AreOf score.base score.text m score.chunks states
  pub stand : AllStand states []
  pub formed : IsFormed (length score.base.plan.buffers) W N score.text
  pub long : length ends ≡ length states
  pub ends_are : (b : ℕ) (e : Ends) → b < length score.base.plan.buffers
      → AreEnds (score.text b) (slice_index_or ends b e)

-- buffers that tell the answers of a text: one for each of the plan, with its capacity, and with the answers that the
-- text has of its puts and takes
pub record AreTold (base : Setting) (text : ℕ → Log) (states : List BufferState) : Type 0 where
  pub many : length states ≡ length base.plan.buffers
  pub puts : (b : ℕ) (d : BufferState) → b < length base.plan.buffers
      → (slice_index_or states b d).puts ≡ puts_in (text b)
  pub takes : (b : ℕ) (d : BufferState) → b < length base.plan.buffers
      → (slice_index_or states b d).takes ≡ takes_in (text b)
  pub capacity : (b : ℕ) (d : BufferState) → b < length base.plan.buffers
      → (slice_index_or states b d).capacity ≡ capacity_of base b

-- these lists have, by the number of a buffer, the main clock of its feed and that of its reader
pub record AreSides (base : Setting) (feeders readers : List ℕ) : Type 0 where
  pub feeders_many : length feeders ≡ length base.plan.buffers
  pub readers_many : length readers ≡ length base.plan.buffers
  pub fed : (b : ℕ) → b < length base.plan.buffers → slice_index_or feeders b 0 ≡ feeder base b
  pub read : (b : ℕ) → b < length base.plan.buffers → slice_index_or readers b 0 ≡ reader base b

-- each buffer of `new` is that of `old` at the beginning of a run of clock m: it counts as fed or read by the clock
-- where `feeders` or `readers` name m
abbrev pub HaveBegun : (feeders readers : List ℕ) → (m : ℕ) → List BufferState → List BufferState → Type 0
HaveBegun feeders readers m old new = (b : ℕ) (d : BufferState) → b < length old
    → slice_index_or new b d
    ≡ begun (slice_index_or old b d) (nat_eq (slice_index_or feeders b 0) m) (nat_eq (slice_index_or readers b 0) m)

-- whether a sink of a plan is an output whose node lies in main clock m
abbrev pub is_output_in : List NodeClock → (m : ℕ) → SinkPlan → Bool
is_output_in clocks m (Output name node fallible wide) = same_clock (slice_index_or clocks node (NodeClock.Main 0))
    (NodeClock.Main m)
is_output_in clocks m (Feed buffer node) = false

-- how many of these sinks are outputs whose node lies in main clock m
abbrev pub outputs_in : List NodeClock → (m : ℕ) → List SinkPlan → ℕ
outputs_in clocks m [] = 0
outputs_in clocks m (sink ∷ sinks) = if is_output_in clocks m sink then suc (outputs_in clocks m sinks)
    else outputs_in clocks m sinks

-- these buffers have the answers that the text of a trace tells, for the plan of `base`; the text is of N ticks in
-- windows of W ticks, and `ends` says where the windows of each buffer end
pub record AreFit (base : Setting) (W N : ℕ) (text : ℕ
    → Log) (states : List BufferState) (ends : List Ends) : Type 0 where
  pub told : AreTold base text states
  pub formed : IsFormed (length base.plan.buffers) W N text
  pub ends_are : (b : ℕ) (e : Ends) → b < length base.plan.buffers → AreEnds (text b) (slice_index_or ends b e)

-- From `before` to `after` the buffers keep the answers that they tell: whatever plan and text of N ticks in windows of
-- W they fitted, they still fit, with windows that end as the list of `Ends` says.
abbrev pub StayFit : List Ends → (W N : ℕ) → (before after : List BufferState) → Type 0
StayFit ends W N before after = (base : Setting) (text : ℕ → Log) → AreFit base W N text before ends
    → AreFit base W N text after ends

-- the setting of a plan with its clocks, files and start second, before its buffers have answered
abbrev pub base_at : Station → Setting
base_at station = base_of station.plan.now station.library.now station.clocks.now station.start.second
