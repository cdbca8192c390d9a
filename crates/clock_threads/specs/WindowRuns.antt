-- A run of all clocks by threads.
use Rattle.std.specs.Prelude.{◌≡◌, ◌⊎◌, ◌<◌, ◌≤◌, ◌-◌, ◌^◌, ℕ, suc, Some, None, List, [], ◌∷◌, ◌++◌, length, slice_index_or}
use Rattle.liq_base.specs.Pieces.{SinkTold}
use Rattle.frame_core.specs.declared.cell.Cell.{Cell}
use Rattle.frame_core.specs.Legal.{IsHistory}
use Rattle.frame_core.specs.Calls.{Call, takes_of, puts_to, Answer}
use Rattle.buffer_ends.specs.Local.{Answers, on}
use Rattle.buffer_ends.specs.declared.run_end.End.{End}
use Rattle.buffer_ends.specs.declared.run_end.End.TheVariants.{Write, Memory as NoMemory}
use Rattle.buffer_ends.specs.declared.thread_taps.ThreadTaps.{ThreadTaps}
use Rattle.clock_ticks.specs.declared.fault.TickFault.{TickFault}
use Rattle.clock_ticks.specs.declared.fault.TickFault.TheVariants.{Memory as OutOfMemory, Write as Refused}
use Rattle.clock_threads.specs.declared.task.Task.{Task}
use Rattle.clock_threads.specs.TickCalls.{TickCalls, joined_from}
use Rattle.stream_meaning.specs.Calls.{joined_upto}
use Rattle.clock_ticks.specs.declared.engine.ClockEngine.{ClockEngine}
use Rattle.clock_ticks.specs.Engines.{EngineStands, EngineStopped, held_of}
use Rattle.clock_ticks.specs.Pieces.{GotBetween, GotPieces}
use Rattle.clock_threads.specs.TaskRuns.{EngineGone, EngineGonePart, IsSameClock, IsWriteOf}
use Rattle.clock_threads.specs.declared.wires.Wire.{Wire}
use Rattle.clock_threads.specs.Wires.{wire_at}
use Rattle.run_records.specs.Records.{Follows, start}
use Rattle.clock_threads.specs.Records.{windows_upto, Going}

-- The tasks of all clocks are ready for a run of N ticks in windows of W ticks, and none was made. Wire b names the
-- clocks at the two ends of buffer b, which are among the tasks. Each plan has as many buffers as there are wires.
-- `told` is what a sink tells of its bytes, and `logs` has each buffer's answers so far.
pub record IsReady {S R : Type 0} (told : S
    → SinkTold) (wires : List Wire) (W N : ℕ) (tasks : List (Task S (ThreadTaps R))) (logs : List (List Answers)) : Type
    0 where
  pub some : 0 < length tasks
  pub few : length wires < 2 ^ 32
  pub places : (b : ℕ) → b < length wires → (wire_at wires b).from < length tasks
      × ((wire_at wires b).to < length tasks)
  pub buffers : (k : ℕ) (d : Task S (ThreadTaps R)) → k < length tasks
      → length (slice_index_or tasks k d).engine.parts.scene.plan.now.buffers ≡ length wires
  pub begun : (d : Task S (ThreadTaps R)) → Going told wires W N 0 tasks tasks logs d

-- All N ticks of each clock were made, in windows of W ticks: the tasks `first` came to `now`. `told` is what a sink
-- tells of its bytes, and `logs` has the answers of each buffer. `d` stands where a list has no task.
pub record DoneAt {S R : Type 0} (told : S
    → SinkTold) (wires : List Wire) (W N : ℕ) (first now : List (Task S (ThreadTaps R))) (logs : List (List Answers))
    (d : Task S (ThreadTaps R)) : Type 0 where
  pub windows : ℕ
  pub all : start W N windows ≡ N
  pub tight : (i : ℕ) → i < windows → start W N i < N
  pub going : Going told wires W N windows first now logs d

-- All N ticks of each clock were made, in windows of W ticks: the tasks `first` came to `now`. `told` is what a sink
-- tells of its bytes, a wire names the two clocks of a buffer, and `logs` has each buffer's answers.
abbrev pub RunDone : {S R : Type 0} → (told : S → SinkTold) → List Wire → (W N : ℕ)
    → (first now : List (Task S (ThreadTaps R))) → (logs : List (List Answers)) → Type 0
RunDone {S} {R} told wires W N first now logs = (d : Task S (ThreadTaps R)) → DoneAt told wires W N first now logs d

-- How far a clock came in the window after the first `closed` ones of W ticks: its task `first` came to `now`. It made
-- so many `ticks`, with the calls of `tick_calls`, and maybe stopped in the next one, which is still of that window.
-- Since the window began it made the calls `since`. Each sink got a piece for each tick, and at most one more where it
-- stopped.
pub record CameTo {S R : Type 0} (told : S
    → SinkTold) (W N closed : ℕ) (tick_calls : TickCalls) (since : List Call) (first now : Task S (ThreadTaps R)) : Type
    0 where
  pub same : IsSameClock told first.engine now.engine
  pub ticks : ℕ
  pub least : start W N closed ≤ ticks
  pub pieces : now.engine.parts.stopped ≡ None → GotPieces told ticks first.engine.outs now.engine.outs
  pub pieces_part : GotBetween told ticks (suc ticks) first.engine.outs now.engine.outs
  pub came : ((ticks ≤ start W N (suc closed)) × EngineGone told ticks tick_calls (held_of told first.engine) now.engine
      × (since ≡ joined_from tick_calls.calls (start W N closed) (ticks - start W N closed)))
      ⊎ ((ticks < start W N (suc closed))
      × (part : EngineGonePart told ticks tick_calls (held_of told first.engine) now.engine)
      × (since ≡ joined_from tick_calls.calls (start W N closed) (ticks - start W N closed) ++ part.made))

-- An engine has made `made` ticks, in which its takes got these answers. Either it tried no other (`tried` is `made`),
-- or it stopped at a fault in the next one (`tried` is one more).
abbrev pub StandsOrStopped : {S : Type 0} → ClockEngine S → (made tried : ℕ) → (answers : ℕ → List Answer) → Type 0
StandsOrStopped engine made tried answers =
    ((tried ≡ made) × EngineStands engine.parts made answers)
    ⊎ ((tried ≡ suc made) × (calls : List Call) × EngineStopped engine.parts made answers calls)

-- How far a run of N ticks in windows of W came, in the tasks `now`: no clock is past the window that follows those
-- that were closed. Either no clock stopped and all are at that window's beginning, or all that did not stop are at its
-- end. The windows of each buffer, with the open one, are one history. `d` stands where a list has no task.
pub record PartAt {S R : Type 0} (told : S
    → SinkTold) (wires : List Wire) (W N : ℕ) (first now : List (Task S (ThreadTaps R)))
    (d : Task S (ThreadTaps R)) : Type 0 where
  pub closed : ℕ
  pub clock_calls : ℕ → TickCalls
  pub since : ℕ → List Call
  pub many : length now ≡ length first
  pub clocks : (k : ℕ) → k < length first
      → CameTo told W N closed (clock_calls k) (since k) (slice_index_or first k d) (slice_index_or now k d)
  pub ended : ((k : ℕ) (low : k < length first)
      → ((slice_index_or now k d).engine.parts.stopped ≡ None) × ((clocks k low).ticks ≡ start W N closed))
      ⊎ ((k : ℕ) (low : k < length first) → (slice_index_or now k d).engine.parts.stopped ≡ None
      → (clocks k low).ticks ≡ start W N (suc closed))
  pub runs : (b : ℕ) → b < length wires → (chunks : List (List Cell))
      × IsHistory (wire_at wires b).capacity [] (windows_upto (wire_at wires b) clock_calls b W N closed
      ++ (puts_to b (since (wire_at wires b).from), takes_of b (since (wire_at wires b).to)) ∷ []) chunks
  pub in_order : (b : ℕ) → b < length wires → (wire_at wires b).from ≡ (wire_at wires b).to
      → (chunks : List (List Cell))
      × Follows (wire_at wires b).capacity []
      (on b (joined_upto (clock_calls (wire_at wires b).from).calls (start W N closed)
      ++ since (wire_at wires b).from)) chunks

-- How far a run of N ticks in windows of W ticks came that a fault broke off: the tasks `first` came to `now`. `told`
-- is what a sink tells of its bytes, and a wire names the two clocks of a buffer.
abbrev pub RunPart : {S R : Type 0} → (told : S → SinkTold) → List Wire → (W N : ℕ)
    → (first now : List (Task S (ThreadTaps R))) → Type 0
RunPart {S} {R} told wires W N first now = (d : Task S (ThreadTaps R)) → PartAt told wires W N first now d

-- how a run ends that a fault of this clock stopped: at the sink that refused bytes, or for want of memory
abbrev pub end_by : (clock : ℕ) → TickFault → End
end_by clock (Refused sink) = Write clock sink
end_by clock OutOfMemory = NoMemory

-- A run that faults of some tasks stopped ends, with `end`, by one of these faults: that of the first task in the list
-- whose engine stopped.
pub record IsToldByLowest {S R : Type 0} (tasks : List (Task S (ThreadTaps R))) (end : End) : Type 0 where
  pub place : ℕ
  pub within : place < length tasks
  pub fault : TickFault
  pub stopped : (d : Task S (ThreadTaps R)) → (slice_index_or tasks place d).engine.parts.stopped ≡ Some fault
  pub lowest : (k : ℕ) (d : Task S (ThreadTaps R)) → k < place → (slice_index_or tasks k d).engine.parts.stopped ≡ None
  pub end_is : (d : Task S (ThreadTaps R)) → end ≡ end_by (slice_index_or tasks place d).engine.parts.clock fault

-- Of all tasks whose engine stopped, the first in the list is of this clock, and its fault is that this sink refused
-- bytes. The tasks `first` came to `now`; `told` is what a sink tells of its bytes.
pub record IsWriteAt {S R : Type 0} (told : S
    → SinkTold) (clock sink : ℕ) (first now : List (Task S (ThreadTaps R))) : Type 0 where
  pub place : ℕ
  pub within : place < length first
  pub clock_is : (d : Task S (ThreadTaps R)) → (slice_index_or now place d).engine.parts.clock ≡ clock
  pub stopped : (d : Task S (ThreadTaps R)) → (slice_index_or now place d).engine.parts.stopped ≡ Some (Refused sink)
  pub lowest : (k : ℕ) (d : Task S (ThreadTaps R)) → k < place → (slice_index_or now k d).engine.parts.stopped ≡ None
  pub write : (d : Task S (ThreadTaps R))
      → IsWriteOf told sink (slice_index_or first place d).engine (slice_index_or now place d).engine
