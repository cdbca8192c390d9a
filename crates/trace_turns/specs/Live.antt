-- Clocks whose engines go on from turn to turn.
use Rattle.std.specs.Prelude.{◌≡◌, ◌<◌, ◌≤◌, ℕ, Bool, Some, List, [], length, nat_eq, slice_get, slice_index_or}
use Rattle.frame_core.specs.Calls.{Call}
use Rattle.clock_infer.specs.declared.clock_map.ClockMap.{ClockMap}
use Rattle.stream_meaning.specs.Instants.{Setting}
use Rattle.stream_meaning.specs.Calls.{answers_in}
use Rattle.stream_meaning.specs.Settings.{IsSetting}
use Rattle.clock_ticks.specs.declared.engine.EngineParts.{EngineParts}
use Rattle.clock_ticks.specs.Engines.{EngineStands, setting_of}
use Rattle.frame_core.specs.declared.cell.Cell.{Cell}
use Rattle.trace_turns.specs.declared.course.Course.{Course}
use Rattle.trace_turns.specs.declared.course.Course.TheVariants.{Goes}
use Rattle.trace_turns.specs.declared.ends.Ends.{Ends}
use Rattle.trace_turns.specs.declared.live.LiveClock.{LiveClock}
use Rattle.trace_turns.specs.declared.station.Sides.{Sides}
use Rattle.trace_turns.specs.declared.told.Mark.{Mark}
use Rattle.trace_turns.specs.Answering.{BufferState, StandsFor}
use Rattle.trace_records.specs.Clocks.{AreWhole, Log}
use Rattle.trace_turns.specs.Marks.{no_mark, resumed}
use Rattle.trace_records.specs.Passes.{HasCome, IsFormed, IsMadeBy, ticks_in}
use Rattle.trace_turns.specs.Thin.{AreFull, AreUnlost, NoneLost}
use Rattle.trace_turns.specs.Turns.{AreEnds, AreFit, AreSides, RunsAt, Score, chunks_of}
use Rattle.trace_turns.specs.Timed.{TimedText, timed}

-- What a replay of N ticks in windows of W ticks rests on for each of its clocks. `score` has the plan with its clocks,
-- and the text of the trace, which has as many windows as these ticks need. There is one buffer state for each buffer
-- of the plan, and `ends` says where the text's windows end.
pub record MayMove (score : Score) (W N : ℕ) (states : List BufferState) (ends : List Ends) : Type 0 where
  pub is : IsSetting score.base score.clocks
  pub formed : IsFormed (length score.base.plan.buffers) W N score.text
  pub many : length states ≡ length score.base.plan.buffers
  pub long : length ends ≡ length states
  pub ends_are : (b : ℕ) (e : Ends) → b < length score.base.plan.buffers
      → AreEnds (score.text b) (slice_index_or ends b e)

-- Clock m, which has made n of its N ticks in windows of W, may make more over these buffers: their states and its
-- engine, of `parts`, are those after its calls so far. `score` is the plan with the text of the trace, and `ends` says
-- where the text's windows end.
pub record MayGoOn (score : Score) (W N m n : ℕ) (parts : EngineParts) (states : List BufferState)
    (ends : List Ends) : Type 0 where
  pub move : MayMove score W N states ends
  pub run : RunsAt score.base score.text W N m n score.chunks parts states

-- Clock m, which has made n of its N ticks in windows of W, may make more over buffers that freed some chunks: it may
-- over the same buffers with all chunks, and none is missing that it is still to get. `parts` is its engine, `score`
-- the plan with the text of the trace, and `ends` says where the text's windows end.
pub record MayFlow (score : Score) (W N m n : ℕ) (parts : EngineParts) (states : List BufferState)
    (ends : List Ends) : Type 0 where
  pub full : List BufferState
  pub fills : AreFull states full
  pub unlost : NoneLost states
  pub may : MayGoOn score W N m n parts full ends

-- A clock that has made n of its N ticks, in windows of W, may make a few more: `course` says that every call was
-- answered so far, and its buffers and its engine, of `parts`, are in the middle of some replay. `ends` says where the
-- windows of that replay's trace end.
pub record MayMakeMore (W N n : ℕ) (parts : EngineParts) (course : Course) (states : List BufferState)
    (ends : List Ends) : Type 0 where
  pub some : 1 ≤ W
  pub few : N ≤ 1000000000
  pub within : n ≤ N
  pub goes : course ≡ Goes
  pub turn : (score : Score) × MayFlow score W N parts.clock n parts states ends

-- Clock m has made its first n ticks as the trace `told` tells, over buffers that freed some chunks, none that it is
-- still to get. `parts` is its engine, and `chunks` are those that other clocks had put when its run began.
pub record HasFlown (base : Setting) (told : TimedText) (m n : ℕ) (chunks : ℕ → List (List Cell)) (parts : EngineParts)
    (states : List BufferState) : Type 0 where
  pub full : List BufferState
  pub fills : AreFull states full
  pub unlost : NoneLost states
  pub run : RunsAt base told.text told.window told.ticks m n chunks parts full

-- two lists by a buffer's number: the main clock of its feed, and that of its reader
pub record Mains : Type 0 where
  pub feeders : List ℕ
  pub readers : List ℕ

-- the two lists as one record: by a buffer's number, the main clocks of its feed and of its reader
abbrev pub mains : (feeders readers : List ℕ) → Mains
mains feeders readers = record { feeders = feeders; readers = readers }

-- Clock m paused in a replay after its first n ticks: its engine, of `parts`, is that after their calls, and so are the
-- buffers once they are set back to these calls. `marks` has, by a buffer's number, how far the calls came on it,
-- `ends` the main clocks of its feed and its reader; `told` is the trace.
pub record IsPaused (base : Setting) (told : TimedText) (ends : Mains) (m n : ℕ) (parts : EngineParts)
    (marks : List Mark) (states : List BufferState) : Type 0 where
  pub calls : List Call
  pub accepted : ℕ → ℕ → Bool
  pub over : setting_of parts ≡ base
  pub clock : parts.clock ≡ m
  pub are : IsMadeBy base m n accepted calls
  pub engine : EngineStands parts n (λ b. answers_in b calls)
  pub whole : AreWhole base told.text told.window told.ticks m n (λ t. ticks_in base accepted calls m t)
  pub stand : (b : ℕ) (d : BufferState) (e : Mark) → b < length states
      → StandsFor (resumed (slice_index_or states b d) (nat_eq (slice_index_or ends.feeders b 0) m)
      (nat_eq (slice_index_or ends.readers b 0) m) (slice_index_or marks b e)) b calls

-- In a turn, a run of some ticks in the replay of the trace `told`, clock m came to n ticks and paused there, with the
-- engine of `parts`; the buffers came from `opening` to `states`. By a buffer's number, `marks` has how far the clock's
-- calls came on it, and `ends` the main clocks of its feed and its reader.
pub record HasGone (base : Setting) (told : TimedText) (ends : Mains) (m n : ℕ) (parts : EngineParts)
    (marks : List Mark) (opening states : List BufferState) : Type 0 where
  pub come : HasCome base told.window told.ticks told.text m n (chunks_of opening) (chunks_of states)
  pub paused : IsPaused base told ends m n parts marks states

-- In a turn over buffers that freed some chunks clock m came to n ticks of the trace `told` and paused, with the engine
-- of `parts`; none was freed that it is still to get. The buffers came from `opening` to `states`. By a buffer's
-- number, `marks` has how far the clock's calls came on it, and `ends` the main clocks of its feed and its reader.
pub record HasFlownOn (base : Setting) (told : TimedText) (ends : Mains) (m n : ℕ) (parts : EngineParts)
    (marks : List Mark) (opening states : List BufferState) : Type 0 where
  pub full : List BufferState
  pub fills : AreFull states full
  pub gone : HasGone base told ends m n parts marks opening full
  pub unlost : AreUnlost ends.readers m marks states

-- what a clock goes on with in a replay: a plan with its clocks, the text of a trace, and the buffers with all their
-- chunks, also those that were let go
pub record FullScore : Type 0 where
  pub base : Setting
  pub clocks : ClockMap
  pub text : ℕ → Log
  pub full : List BufferState

-- The clock `live`, which has made n of N ticks in windows of W, may go on with the replay `score`, over buffers that
-- freed some chunks: it paused there, and none is missing that it is still to get. `of` has the main clocks of each
-- buffer's feed and reader, and `ends` says where the windows of the trace end.
pub record MayResume (score : FullScore) (of : Sides) (ends : List Ends) (W N n : ℕ) (live : LiveClock)
    (states : List BufferState) : Type 0 where
  pub setting : IsSetting score.base score.clocks
  pub sides : AreSides score.base of.feeders.items of.readers.items
  pub fit : AreFit score.base W N score.text states ends
  pub fills : AreFull states score.full
  pub unlost : AreUnlost of.readers.items live.engine.parts.clock live.marks.items states
  pub paused : IsPaused score.base (timed score.text W N) (mains of.feeders.items of.readers.items)
      live.engine.parts.clock n live.engine.parts live.marks.items score.full

-- The clock `live`, which has made n of its N ticks in windows of W, may run some further ones in a replay: there is a
-- plan, a text and buffers with which it may go on. `of` has the main clocks of each buffer's feed and reader, and
-- `ends` says where the windows of the trace end.
pub record MayTakeTurn (of : Sides) (ends : List Ends) (W N n : ℕ) (live : LiveClock)
    (states : List BufferState) : Type 0 where
  pub some : 1 ≤ W
  pub few : N ≤ 1000000000
  pub within : n ≤ N
  pub long : length ends ≡ length states
  pub marks : length live.marks.items ≡ length states
  pub turn : (score : FullScore) × MayResume score of ends W N n live states

-- In a turn clock m, which is `live` now, went on with the replay `score`, of N ticks in windows of W, and came to n
-- ticks; the buffers are `states` now. `Sides` has the main clocks of each buffer's feed and reader.
abbrev pub HasResumed : FullScore → Sides → (W N m n : ℕ) → LiveClock → List BufferState → Type 0
HasResumed score of W N m n live states = HasFlownOn score.base (timed score.text W N)
    (mains of.feeders.items of.readers.items) m n live.engine.parts live.marks.items score.full states

-- `live` is main clock m of the setting `base` before its first tick: with a new engine, and no call on any buffer
pub record IsNewClock (base : Setting) (m : ℕ) (live : LiveClock) : Type 0 where
  pub over : setting_of live.engine.parts ≡ base
  pub clock : live.engine.parts.clock ≡ m
  pub fresh : EngineStands live.engine.parts 0 (λ b. [])
  pub many : length live.marks.items ≡ length base.plan.buffers
  pub none : (b : ℕ) (e : Mark) → b < length base.plan.buffers → slice_index_or live.marks.items b e ≡ no_mark

-- the first `count` clocks of a station, in their order, each before its first tick
pub record AreNewClocks (base : Setting) (count : ℕ) (lives : List LiveClock) : Type 0 where
  pub size : length lives ≡ count
  pub each : (k : ℕ) (live : LiveClock) → slice_get lives k ≡ Some live → IsNewClock base k live
