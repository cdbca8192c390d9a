-- What the clocks have done, window by window.
use Rattle.std.specs.Prelude.{◌≡◌, ◌≢◌, ◌⊎◌, ◌<◌, ◌+◌, ◌-◌, ◌^◌, ℕ, zero, suc, Option, List, [], ◌∷◌, ◌++◌, length, map, slice_index_or, slice_set}
use Rattle.liq_base.specs.Pieces.{SinkTold}
use Rattle.frame_core.specs.declared.cell.Cell.{Cell}
use Rattle.frame_core.specs.Legal.{IsHistory}
use Rattle.frame_core.specs.Calls.{Call, takes_of, puts_to}
use Rattle.buffer_ends.specs.Sides.{Side}
use Rattle.buffer_ends.specs.Local.{Answers, LocalBuffer, closed, no_answers}
use Rattle.buffer_ends.specs.Ends.{EndsStand, ListsStand, Has}
use Rattle.buffer_ends.specs.declared.thread_taps.ThreadTaps.{ThreadTaps}
use Rattle.clock_ticks.specs.Ticks.{HaveTicksRoom}
use Rattle.clock_ticks.specs.Pieces.{GotPieces}
use Rattle.run_records.specs.Records.{Window, start}
use Rattle.buffer_sides.specs.Logs.{told as told_of}
use Rattle.clock_threads.specs.declared.task.Task.{Task}
use Rattle.clock_threads.specs.TickCalls.{TickCalls, joined_from}
use Rattle.stream_meaning.specs.Calls.{joined_upto}
use Rattle.clock_ticks.specs.Engines.{held_of}
use Rattle.clock_threads.specs.TaskRuns.{EngineGone, IsSameClock}
use Rattle.clock_threads.specs.declared.wires.Wire.{Wire}
use Rattle.clock_threads.specs.Wires.{wire_at, kept}
use Rattle.clock_threads.specs.Ends.{puts_of as put_ends, takes_of as take_ends, JoinOpen}

-- What the puts and the takes of buffer b met in `count` ticks, from tick `from` on. `clock_calls` has the calls of
-- each clock by tick, and the wire names the clock that puts and the one that takes.
abbrev pub window_of : Wire → (ℕ → TickCalls) → (b from count : ℕ) → Window
window_of wire clock_calls b from count = (
  puts_to b (joined_from (clock_calls wire.from).calls from count),
  takes_of b
      (joined_from (clock_calls wire.to).calls from count),
)

-- the first `count` windows of buffer b, each with what its puts and takes met, in a run of N ticks that is cut into
-- windows of W ticks; the wire names the two clocks of the buffer, and `clock_calls` has each clock's calls
abbrev pub windows_upto : Wire → (ℕ → TickCalls) → (b W N count : ℕ) → List Window
windows_upto wire clock_calls b W N zero = []
windows_upto wire clock_calls b W N (suc j) =
    windows_upto wire clock_calls b W N j
    ++ window_of wire clock_calls b (start W N j) (start W N (suc j) - start W N j) ∷ []

-- The task of clock k has ends only of buffers that join clock k to another one. It puts where the buffer's wire
-- begins, and takes where it ends; wire b names the two clocks of buffer b.
pub record IsWired {S R : Type 0} (wires : List Wire) (k : ℕ) (task : Task S (ThreadTaps R)) : Type 0 where
  pub puts : (p : ℕ) (d : Side) → p < length (put_ends task) → let b = (slice_index_or (put_ends task) p d).buffer in
      (b < length wires) × ((wire_at wires b).from ≡ k) × ((wire_at wires b).to ≢ k)
  pub takes : (p : ℕ) (d : Side) → p < length (take_ends task) → let b = (slice_index_or (take_ends task) p d).buffer in
      (b < length wires) × ((wire_at wires b).to ≡ k) × ((wire_at wires b).from ≢ k)

-- The task of clock k, `first` before the run, has come to `now`: it made t of N ticks with the calls of `tick_calls`.
-- Each of its sinks got a piece of bytes for each tick, and its taps stand for the calls on buffers that are its
-- clock's own. `told` is what a sink tells of its bytes.
pub record ClockGoing {S R : Type 0} (told : S → SinkTold) (wires : List Wire) (N t k : ℕ) (tick_calls : TickCalls)
    (first now : Task S (ThreadTaps R)) : Type 0 where
  pub gone : EngineGone told t tick_calls (held_of told first.engine) now.engine
  pub same : IsSameClock told first.engine now.engine
  pub pieces : GotPieces told t first.engine.outs now.engine.outs
  pub rooms : (n : ℕ) → t + n ≡ N → HaveTicksRoom told now.engine.parts now.engine.outs n
  pub wired : IsWired wires k now
  pub stand : EndsStand (put_ends now) (take_ends now) now.taps.local (kept wires k (joined_upto tick_calls.calls t))
  pub lists : length now.taps.local ≡ length wires
  pub capacities : (b : ℕ) (d : LocalBuffer) → b < length wires
      → (slice_index_or now.taps.local b d).capacity ≡ (wire_at wires b).capacity

-- Buffer b, whose wire joins two clocks, has gone through these windows. They are one history of a queue of the wire's
-- capacity, which began empty. Both its ends, in the tasks, open the next window with the chunks that are left.
pub record JoinGoing {S R : Type 0} (wire : Wire) (b : ℕ) (windows : List Window)
    (tasks : List (Task S (ThreadTaps R))) : Type 0 where
  pub chunks : List (List Cell)
  pub run : IsHistory wire.capacity [] windows chunks
  pub opens : JoinOpen wire b chunks tasks

-- a clock's list of a buffer with both ends in it has logged the answers of these windows, which are closed, and of no
-- others
pub record IsLogged (windows : List Window) (list : LocalBuffer) : Type 0 where
  pub closed_are : list.closed ≡ map told_of windows
  pub opens : list.current ≡ no_answers

-- The answers of the windows of each buffer, `windows b`, are logged. Those of a buffer that joins two clocks are in
-- `logs`. Those of a buffer with both ends in one clock are in the list of that clock's task in `now`. `d` stands where
-- there is no task.
pub record LogsGoing {S R : Type 0} (wires : List Wire) (windows : ℕ
    → List Window) (now : List (Task S (ThreadTaps R))) (logs : List (List Answers)) (d : Task S (ThreadTaps R)) : Type
    0 where
  pub many : length logs ≡ length wires
  pub joined : (b : ℕ) (e : List Answers) → b < length wires → (wire_at wires b).from ≢ (wire_at wires b).to
      → slice_index_or logs b e ≡ map told_of (windows b)
  pub local : (b : ℕ) (e : LocalBuffer) → b < length wires → (wire_at wires b).from ≡ (wire_at wires b).to
      → IsLogged (windows b) (slice_index_or (slice_index_or now (wire_at wires b).from d).taps.local b e)

-- A run of N ticks has closed j windows of W ticks: the tasks `first` came to `now`. All clocks made the ticks of these
-- windows, the buffers' windows are lawful, and `logs` or the tasks have their answers. `told` is what a sink tells of
-- its bytes; `d` stands where a list has no task.
pub record Going {S R : Type 0} (told : S → SinkTold) (wires : List Wire) (W N j : ℕ)
    (first now : List (Task S (ThreadTaps R))) (logs : List (List Answers)) (d : Task S (ThreadTaps R)) : Type 0 where
  pub clock_calls : ℕ → TickCalls
  pub many : length now ≡ length first
  pub clocks : (k : ℕ) → k < length first
      → ClockGoing told wires N (start W N j) k (clock_calls k) (slice_index_or first k d) (slice_index_or now k d)
  pub joins : (b : ℕ) → b < length wires → (wire_at wires b).from ≢ (wire_at wires b).to
      → JoinGoing (wire_at wires b) b (windows_upto (wire_at wires b) clock_calls b W N j) now
  pub logged : LogsGoing wires (λ b. windows_upto (wire_at wires b) clock_calls b W N j) now logs d

-- The task `old` came to `new` when the window of buffer b, with both its ends in the task's clock, was closed. Only
-- the list of that buffer's answers changed, in which the answers of the open window were closed.
pub record ListClosed {S R : Type 0} (b : ℕ) (old new : Task S (ThreadTaps R)) : Type 0 where
  pub engine : new.engine ≡ old.engine
  pub puts : put_ends new ≡ put_ends old
  pub takes : take_ends new ≡ take_ends old
  pub local : (d : LocalBuffer) → new.taps.local
      ≡ slice_set old.taps.local b (closed (slice_index_or old.taps.local b d))
  pub lists : (calls : List Call) → ListsStand (λ n. Has (put_ends old) n ⊎ Has (take_ends old) n) old.taps.local calls
      → ListsStand (λ n. Has (put_ends old) n ⊎ Has (take_ends old) n) new.taps.local calls

-- both ends of a buffer are in clock k
abbrev pub IsOwn : (wires : List Wire) → (k b : ℕ) → Type 0
IsOwn wires k b = ((wire_at wires b).from ≡ k) × ((wire_at wires b).to ≡ k)

-- The task of clock k, `old`, came to `new`: the open windows of its own buffers, which have both ends in clock k, were
-- closed. This was done for those with numbers less than `below`, and for no others.
pub record EndedTask {S R : Type 0} (wires : List Wire) (below k : ℕ) (old new : Task S (ThreadTaps R)) : Type 0 where
  pub engine : new.engine ≡ old.engine
  pub puts : put_ends new ≡ put_ends old
  pub takes : take_ends new ≡ take_ends old
  pub many : length new.taps.local ≡ length old.taps.local
  pub own : (b : ℕ) (d : LocalBuffer) → b < below → IsOwn wires k b
      → slice_index_or new.taps.local b d ≡ closed (slice_index_or old.taps.local b d)
  pub others : (b : ℕ) (d : LocalBuffer) → (IsOwn wires k b → ⊥)
      → slice_index_or new.taps.local b d ≡ slice_index_or old.taps.local b d
  pub lists : (calls : List Call) → ListsStand (λ n. Has (put_ends old) n ⊎ Has (take_ends old) n) old.taps.local calls
      → ListsStand (λ n. Has (put_ends old) n ⊎ Has (take_ends old) n) new.taps.local calls

-- the tasks `old` came to `new`: the window of each buffer with both ends in one clock was closed, in the task of that
-- clock
pub record AllEndedTasks {S R : Type 0} (wires : List Wire) (old new : List (Task S (ThreadTaps R))) : Type 0 where
  pub many : length new ≡ length old
  pub each : (k : ℕ) (d : Task S (ThreadTaps R)) → k < length old
      → EndedTask wires (length wires) k (slice_index_or old k d) (slice_index_or new k d)

-- each task has a list for each of these wires' buffers, and each wire begins at a task: so the windows of a clock's
-- own buffers can be closed in its lists
pub record HaveLists {S R : Type 0} (wires : List Wire) (tasks : List (Task S (ThreadTaps R))) : Type 0 where
  pub few : length wires < 2 ^ 32
  pub places : (b : ℕ) → b < length wires → (wire_at wires b).from < length tasks
  pub lists : (k : ℕ) (d : Task S (ThreadTaps R)) → k < length tasks
      → length (slice_index_or tasks k d).taps.local ≡ length wires

-- there are as many tasks as before, and each has the engine that it had
pub record SameEngines {S R : Type 0} (old new : List (Task S (ThreadTaps R))) : Type 0 where
  pub many : length new ≡ length old
  pub each : (k : ℕ) (d : Task S (ThreadTaps R)) → k < length old
      → (slice_index_or new k d).engine ≡ (slice_index_or old k d).engine
