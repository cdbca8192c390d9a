-- The run of an engine, turn after turn.
use Rattle.std.specs.Prelude.{◌≡◌, ◌<◌, ◌≤◌, ◌+◌, ◌++◌, ℕ, suc, Bool, Some, List, [], length, slice_get, slice_index_or}
use Rattle.frame_core.specs.declared.cell.Cell.{Cell}
use Rattle.liq_base.specs.Pieces.{SinkTold}
use Rattle.frame_core.specs.Calls.{Call, Answer}
use Rattle.clock_infer.specs.declared.clock_map.ClockMap.{ClockMap}
use Rattle.stream_meaning.specs.Instants.{Setting, answered}
use Rattle.stream_meaning.specs.Calls.{answers_in}
use Rattle.stream_meaning.specs.Settings.{IsSetting}
use Rattle.trace_log.specs.Values.{TraceValue}
use Rattle.run_records.specs.Outputs.{first_calls}
use Rattle.run_records.specs.Records.{AreWindows, Run, answers_of}
use Rattle.clock_ticks.specs.Pieces.{RoseAt}
use Rattle.clock_ticks.specs.declared.engine.ClockEngine.{ClockEngine}
use Rattle.clock_ticks.specs.Engines.{EngineStands, outputs_of, setting_of}
use Rattle.clock_ticks.specs.Ticks.{HaveTicksRoom}
use Rattle.rounds_run.specs.Rounds.{AreEngines, HasRunPart, HasRunTurns, world}
use Rattle.trace_turns.specs.declared.course.TurnMade.{TurnMade}
use Rattle.trace_replay.specs.declared.engines.Rest.{Rest}
use Rattle.trace_turns.specs.declared.station.Sides.{Sides}
use Rattle.trace_turns.specs.declared.station.Station.{Station}
use Rattle.trace_turns.specs.declared.told.Mark.{Mark}
use Rattle.trace_records.specs.Clocks.{HasReplayed, IsFront, Log}
use Rattle.trace_records.specs.Passes.{AreAt, HasCome, IsFormed, IsMadeBy, IsTold}
use Rattle.trace_turns.specs.Answering.{AllStand, BufferState}
use Rattle.trace_turns.specs.Turns.{base_at, AreOf, AreSides, AreTold, Score, chunks_of}
use Rattle.trace_turns.specs.Live.{IsPaused, mains}
use Rattle.trace_turns.specs.Marks.{no_mark}
use Rattle.trace_turns.specs.Orders.{AreTurns, no_chunks, no_ticks}
use Rattle.trace_turns.specs.Thin.{AreFull, AreKept, AreUnlost, NoneLost}
use Rattle.trace_records.specs.Traces.{text_of}
use Rattle.trace_turns.specs.Timed.{timed}

-- The state of a replay between two ticks: clock m has made the first n of its N ticks, by `calls` on the buffers.
-- These took its engine from `first` to `now`. The buffers are `states`, and `full` the same with all chunks that they
-- ever had. `told` gives what a sink tells of itself, and `score` has the plan and the answers and chunks by which the
-- clock plays.
pub record IsReplaying {S : Type 0} (told : S
    → SinkTold) (score : Score) (N m n : ℕ) (first now : ClockEngine S) (states : List BufferState) : Type 0 where
  pub calls : List Call
  pub accepted : ℕ → ℕ → Bool
  pub over : setting_of now.parts ≡ score.base
  pub clock : now.parts.clock ≡ m
  pub are : IsMadeBy score.base m n accepted calls
  pub engine : EngineStands now.parts n (λ b. answers_in b calls)
  pub full : List BufferState
  pub fills : AreFull states full
  pub unlost : NoneLost states
  pub stand : AllStand full calls
  pub of : AreOf score.base score.text m score.chunks full
  pub run : HasRunTurns told calls n first now
  pub rooms : (left : ℕ) → n + left ≡ N → HaveTicksRoom told now.parts now.outs left

-- The engine of clock m, which went from `first` to `now` by `made` ticks, may go on to tick n of its N. This means:
-- the trace tells how the clock makes these ticks, and the chunks that it gets in them are in the buffers (`states`).
-- `told` gives what a sink tells of itself, and `score` has the plan, the answers of the trace and the chunks.
pub record MayReplay {S : Type 0} (told : S
    → SinkTold) (score : Score) (N m made n : ℕ) (first now : ClockEngine S) (states : List BufferState) : Type 0 where
  pub is : IsSetting score.base score.clocks
  pub before : IsReplaying told score N m made first now states
  pub on : made ≤ n
  pub within : n ≤ N
  pub window : ℕ
  pub given : ℕ → List Answer
  pub taken : ℕ → ℕ → Bool
  pub whole : HasReplayed score.base score.text window N m n score.chunks given taken

-- A replay of clock m, from engine `first` to `now`, ended at a fault in a tick below n. It made the calls of the ticks
-- before (`calls`) and the first ones of this tick (`made`). These are a prefix of what the trace tells of n ticks of
-- N. `told` gives what a sink tells of itself, and `score` has the plan and the answers of the trace.
pub record IsBrokenOff {S : Type 0} (told : S
    → SinkTold) (score : Score) (N m n : ℕ) (first now : ClockEngine S) : Type 0 where
  pub tick : ℕ
  pub low : tick < n
  pub calls : List Call
  pub made : List Call
  pub front : (W : ℕ) (given : ℕ → List Answer) (taken : ℕ → ℕ → Bool)
      → HasReplayed score.base score.text W N m n score.chunks given taken
      → IsFront (calls ++ made) (first_calls (answered score.base given) taken m n)
  pub part : HasRunPart told (world (setting_of first.parts) (calls ++ made)) tick (suc tick) first now

-- The sink of this number failed: the engine's clock has an output to it, and `now` it tells of more faults than at
-- `first`. `told` gives what a sink tells of itself.
pub record HasSinkFailed {S : Type 0} (told : S → SinkTold) (sink : ℕ) (first now : ClockEngine S) : Type 0 where
  pub place : ℕ
  pub node : ℕ
  pub there : slice_get (outputs_of (setting_of first.parts) first.parts.clock) place ≡ Some (sink, node)
  pub rose : RoseAt told place first.outs now.outs

-- What a replay is to play: a plan with its audio files (`base`) and its clocks, the answers of each buffer that the
-- trace tells (`text`), how many ticks a window of the trace has, and how many ticks there are in all.
pub record Tale : Type 0 where
  pub base : Setting
  pub clocks : ClockMap
  pub text : ℕ → Log
  pub window : ℕ
  pub ticks : ℕ

-- What a replay of this trace is to play, over the plan, clocks and files of a station.
abbrev pub tale_at : Station → TraceValue → Tale
tale_at station trace = record {
  base = base_at station;
  clocks = station.clocks.now;
  text = text_of trace.buffers;
  window = trace.window;
  ticks = trace.ticks;
}

-- What a clock plays by in a replay: the plan, clocks and answers of the tale, with the chunks of the buffers. `full`
-- has each buffer with all chunks that were put so far, also those that were let go.
abbrev pub score_over : Tale → (full : List BufferState) → Score
score_over tale full = record { base = tale.base; clocks = tale.clocks; text = tale.text; chunks = chunks_of full }

-- How far a clock came in a replay: its engine at first and as it is now. Then for each buffer how many puts and takes
-- it has made there, and how many chunks it got (`marks`, which are no marks of tracks).
pub record Progress (S : Type 0) : Type 0 where
  pub first : ClockEngine S
  pub now : ClockEngine S
  pub marks : List Mark

-- How far a clock came in a replay, from its parts: its engine at first and now, and for each buffer how many puts and
-- takes it has made there.
abbrev pub progress : {S : Type 0} → (first now : ClockEngine S) → List Mark → Progress S
progress first now marks = record { first = first; now = now; marks = marks }

-- Clock m rests between two turns of a replay: its engine made n ticks, and in `gone` is how far it came. Each lawful
-- run with the answers of the trace makes the same calls till there. `tale` is what is replayed, and `sides` tells
-- which clocks feed and read each buffer. The buffers are `states`, and `full` the same with all their chunks. `told`
-- gives what a sink tells of itself.
pub record IsResting {S : Type 0} (told : S
    → SinkTold) (tale : Tale) (sides : Sides) (m n : ℕ) (gone : Progress S) (full states : List BufferState)
    : Type 0 where
  pub paused : IsPaused tale.base (timed tale.text tale.window tale.ticks)
      (mains sides.feeders.items sides.readers.items) m n gone.now.parts gone.marks full
  pub forced : (run : Run) (lawful : AreWindows tale.base tale.clocks.running tale.window tale.ticks run)
      → IsTold tale.base tale.text run
      → paused.calls ≡ first_calls (answered tale.base (answers_of run)) (lawful.accepted m) m n
  pub run : HasRunTurns told paused.calls n gone.first gone.now
  pub rooms : (left : ℕ) → n + left ≡ tale.ticks → HaveTicksRoom told gone.now.parts gone.now.outs left
  pub unlost : AreUnlost sides.readers.items m gone.marks states
  pub many : length gone.marks ≡ length states

-- Clock m may take a turn of a replay, from `made` ticks to n. It rests after `made`, as `gone` says, all clocks stand
-- as the trace tells, and by its answers the turn leaves the chunks `next` in the buffers, now `states`. `tale` is what
-- is replayed, and `sides` tells which clocks feed and read each buffer. `told` gives what a sink tells of itself.
pub record MayPlay {S : Type 0} (told : S
    → SinkTold) (tale : Tale) (sides : Sides) (m made n : ℕ) (gone : Progress S) (states : List BufferState)
    : Type 0 where
  pub is : IsSetting tale.base tale.clocks
  pub ends : AreSides tale.base sides.feeders.items sides.readers.items
  pub runs : m < tale.clocks.running
  pub full : List BufferState
  pub fills : AreFull states full
  pub tell : AreTold tale.base tale.text full
  pub ticks : ℕ → ℕ
  pub at : AreAt tale.base tale.clocks.running tale.window tale.ticks tale.text ticks (chunks_of full)
  pub rests : IsResting told tale sides m made gone full states
  pub on : made ≤ n
  pub next : ℕ → List (List Cell)
  pub come : HasCome tale.base tale.window tale.ticks tale.text m n (chunks_of full) next

-- An engine that went from `first` to `now` may take a turn of a replay up to n ticks, from where it rests. `tale` is
-- what is replayed, `sides` tells which clocks feed and read each buffer, and `told` what a sink tells of itself.
abbrev pub MayPlayOn : {S : Type 0} → (told : S
    → SinkTold) → Tale → Sides → (n : ℕ) → (first now : ClockEngine S) → Rest → List BufferState → Type 0
MayPlayOn told tale sides n first now rest states = MayPlay told tale sides now.parts.clock rest.made n
    (progress first now rest.marks.items) states

-- What a turn of clock m in a replay did: it came to n ticks, as `gone` says, and changed the chunks put so far from
-- those of `opening` to `next`. The buffers were `before` and are `states`, and none let go of a chunk that another
-- clock still gets. `tale` is what is replayed, and `sides` tells which clocks feed and read each buffer. `told` gives
-- what a sink tells of itself.
pub record HasPlayed {S : Type 0} (told : S
    → SinkTold) (tale : Tale) (sides : Sides) (m n : ℕ) (gone : Progress S) (opening before states : List BufferState)
    (next : ℕ → List (List Cell)) : Type 0 where
  pub full : List BufferState
  pub fills : AreFull states full
  pub tell : AreTold tale.base tale.text full
  pub come : HasCome tale.base tale.window tale.ticks tale.text m n (chunks_of opening) (chunks_of full)
  pub same : (b : ℕ) → b < length tale.base.plan.buffers → chunks_of full b ≡ next b
  pub rests : IsResting told tale sides m n gone full states
  pub unlost : (k : ℕ) (other : List Mark) → (k ≡ m → ⊥) → AreUnlost sides.readers.items k other before
      → AreUnlost sides.readers.items k other states

-- A whole replay between two turns: each engine went from `first` to `now` and rests (`rests`), the buffers (`states`)
-- have the chunks that were put so far, and `turns` are those left. `tale` is what is replayed, and `sides` tells which
-- clocks feed and read each buffer. `told` gives what a sink tells of itself.
pub record ArePlaying {S : Type 0} (told : S
    → SinkTold) (tale : Tale) (sides : Sides) (turns : List TurnMade) (first now : List (ClockEngine S))
    (rests : List Rest) (states : List BufferState) : Type 0 where
  pub full : List BufferState
  pub fills : AreFull states full
  pub tell : AreTold tale.base tale.text full
  pub made : ℕ → ℕ
  pub few : (k : ℕ) → made k ≤ tale.ticks
  pub at : AreAt tale.base tale.clocks.running tale.window tale.ticks tale.text made (chunks_of full)
  pub left : AreTurns tale.base tale.clocks.running tale.window tale.ticks tale.text turns made (chunks_of full)
  pub size : length now ≡ length first
  pub long : length rests ≡ length first
  pub counts : (k : ℕ) (rest : Rest) → slice_get rests k ≡ Some rest → rest.made ≡ made k
  pub each : (k : ℕ) (before after : ClockEngine S) (rest : Rest) → slice_get first k ≡ Some before
      → slice_get now k ≡ Some after → slice_get rests k ≡ Some rest
      → IsResting told tale sides k (made k) (progress before after rest.marks.items) full states

-- A replay may begin: the engines `running` have made no tick, the buffers (`states`) have the answers of the trace and
-- no chunk, and in the turns of `list` the clocks make all ticks that the trace tells. The sides `of` tell which clocks
-- feed and read each buffer. `tells` gives what a sink tells of itself.
pub record MayPlayAll {S : Type 0} (tells : S
    → SinkTold) (station : Station) (of : Sides) (list : List TurnMade) (trace : TraceValue)
    (running : List (ClockEngine S)) (states : List BufferState) : Type 0 where
  pub few : trace.ticks ≤ 1000000000
  pub setting : IsSetting (base_at station) station.clocks.now
  pub sides : AreSides (base_at station) of.feeders.items of.readers.items
  pub engines : AreEngines tells trace.ticks (base_at station) running
  pub all : length running ≡ station.clocks.now.running
  pub formed : IsFormed (length (base_at station).plan.buffers) trace.window trace.ticks (text_of trace.buffers)
  pub told : AreTold (base_at station) (text_of trace.buffers) states
  pub empty : (b : ℕ) → chunks_of states b ≡ []
  pub kept : AreKept states
  pub turns : AreTurns (base_at station) station.clocks.now.running trace.window trace.ticks (text_of trace.buffers)
      list no_ticks no_chunks

-- Where an engine rests before its first tick of a replay: it has made no tick, and no put or take on any of so many
-- buffers.
pub record IsNewRest (buffers : ℕ) (rest : Rest) : Type 0 where
  pub made : rest.made ≡ 0
  pub many : length rest.marks.items ≡ buffers
  pub none : (b : ℕ) (e : Mark) → b < buffers → slice_index_or rest.marks.items b e ≡ no_mark

-- Where each of `count` engines rests before its first tick of a replay: it has made no tick, and no put or take on any
-- of so many buffers.
pub record AreNewRests (count buffers : ℕ) (rests : List Rest) : Type 0 where
  pub size : length rests ≡ count
  pub each : (k : ℕ) (rest : Rest) → slice_get rests k ≡ Some rest → IsNewRest buffers rest
