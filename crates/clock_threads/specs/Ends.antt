-- The ends of the buffers that join clocks, in all tasks.
use Rattle.std.specs.Prelude.{◌≡◌, ◌≢◌, ◌<◌, ◌^◌, ◌++◌, ◌∷◌, [], ℕ, List, length, slice_index_or, slice_set}
use Rattle.frame_core.specs.declared.cell.Cell.{Cell}
use Rattle.frame_core.specs.Legal.{Legal}
use Rattle.atomic_table.specs.Seated.{TableId}
use Rattle.buffer_queue.specs.Window.{Window, opened, capacity_of}
use Rattle.buffer_ends.specs.Local.{Answers}
use Rattle.buffer_ends.specs.Sides.{Side, Falling}
use Rattle.buffer_ends.specs.Borders.{HasEnd, WasClosed}
use Rattle.buffer_ends.specs.declared.thread_taps.ThreadTaps.{ThreadTaps}
use Rattle.buffer_sides.specs.Logs.{told as told_of}
use Rattle.clock_threads.specs.declared.task.Task.{Task}
use Rattle.clock_threads.specs.declared.wires.Wire.{Wire}
use Rattle.clock_threads.specs.Wires.{wire_at}

-- the ends of buffers at which a task, a clock's engine with its taps, puts chunks
abbrev pub puts_of : {S R : Type 0} → Task S (ThreadTaps R) → List Side
puts_of task = task.taps.puts.items

-- the ends of buffers at which a task, a clock's engine with its taps, takes chunks
abbrev pub takes_of : {S R : Type 0} → Task S (ThreadTaps R) → List Side
takes_of task = task.taps.takes.items

-- a task kept its engine and its lists of the buffers that are its clock's own; only its ends of buffers that join it
-- to other clocks may have changed
pub record SameButEnds {S R : Type 0} (old new : Task S (ThreadTaps R)) : Type 0 where
  pub engine : new.engine ≡ old.engine
  pub local : new.taps.local ≡ old.taps.local

-- Between two windows of ticks, one buffer that joins two clocks was closed. The end of the task that puts, `giver`,
-- and that of the task that takes, `taker`, changed, and nothing else did. `next_giver` and `next_taker` are the tasks
-- after it, and `log` has the window's answers.
pub record TasksClosed {S R : Type 0} (buffer : ℕ) (giver taker next_giver next_taker : Task S (ThreadTaps R))
    (log : Answers) : Type 0 where
  pub giver_same : SameButEnds giver next_giver
  pub taker_same : SameButEnds taker next_taker
  pub giver_takes : takes_of next_giver ≡ takes_of giver
  pub taker_puts : puts_of next_taker ≡ puts_of taker
  pub closed : WasClosed buffer (puts_of giver) (puts_of next_giver) (takes_of taker) (takes_of next_taker) log

-- The task `old` came to `new`: the ends at which it takes from buffers were moved out of it, as `takes`. This is so
-- that both ends of a buffer are at hand when its window is closed.
pub record WasLent {S R : Type 0} (old new : Task S (ThreadTaps R)) (takes : List Side) : Type 0 where
  pub lent : takes ≡ takes_of old
  pub falling : Falling takes
  pub puts : puts_of new ≡ puts_of old
  pub same : SameButEnds old new

-- The task `old` came to `new`: the ends `takes`, which were moved out of it while the window of a buffer was closed,
-- are its own again. It kept all else.
pub record WasPutBack {S R : Type 0} (old new : Task S (ThreadTaps R)) (takes : List Side) : Type 0 where
  pub back : takes_of new ≡ takes
  pub puts : puts_of new ≡ puts_of old
  pub same : SameButEnds old new

-- The window of a buffer was closed: the task that puts into it, `old`, came to `new`. The ends that take, `takes`,
-- moved out of their task, came to `after`. `log` has the answers of the window.
pub record GiverClosed {S R : Type 0} (buffer : ℕ) (old new : Task S (ThreadTaps R)) (takes after : List Side)
    (log : Answers) : Type 0 where
  pub takes_kept : takes_of new ≡ takes_of old
  pub same : SameButEnds old new
  pub closed : WasClosed buffer (puts_of old) (puts_of new) takes after log
  pub falling : Falling after

-- The window of a buffer that joins two clocks was closed, in a list of tasks. Task number `from` puts into it and task
-- number `to` takes from it. `log` has the answers of the window.
pub record JoinClosed {S R : Type 0} (from to buffer : ℕ) (old new : List (Task S (ThreadTaps R)))
    (log : Answers) : Type 0 where
  pub giver : Task S (ThreadTaps R)
  pub taker : Task S (ThreadTaps R)
  pub gives : (d : Task S (ThreadTaps R)) → slice_index_or old from d ≡ giver
  pub takes : (d : Task S (ThreadTaps R)) → slice_index_or old to d ≡ taker
  pub next_giver : Task S (ThreadTaps R)
  pub next_taker : Task S (ThreadTaps R)
  pub are : new ≡ slice_set (slice_set old from next_giver) to next_taker
  pub tasks : TasksClosed buffer giver taker next_giver next_taker log

-- Both ends of buffer b, in the tasks of the two clocks that its wire names, are at the beginning of a window. The
-- buffer holds these chunks then, and neither end made a call in the window yet.
pub record JoinOpen {S R : Type 0} (wire : Wire) (b : ℕ) (chunks : List (List Cell))
    (tasks : List (Task S (ThreadTaps R))) : Type 0 where
  pub queue : TableId
  pub capacity : capacity_of queue ≡ wire.capacity
  pub put : (d : Task S (ThreadTaps R)) → HasEnd (puts_of (slice_index_or tasks wire.from d)) b (opened queue chunks)
  pub take : (d : Task S (ThreadTaps R)) → HasEnd (takes_of (slice_index_or tasks wire.to d)) b (opened queue chunks)

-- buffer b after its clocks ran: its ends, in the two tasks that its wire names, have come to the windows `put` and
-- `take`, of one queue of the wire's capacity
pub record JoinRan {S R : Type 0} (wire : Wire) (b : ℕ) (put take : Window)
    (tasks : List (Task S (ThreadTaps R))) : Type 0 where
  pub capacity : capacity_of put.queue ≡ wire.capacity
  pub queue : take.queue ≡ put.queue
  pub put_end : (d : Task S (ThreadTaps R)) → HasEnd (puts_of (slice_index_or tasks wire.from d)) b put
  pub take_end : (d : Task S (ThreadTaps R)) → HasEnd (takes_of (slice_index_or tasks wire.to d)) b take

-- The windows of all buffers may be closed: each wire, which names the two clocks of a buffer, leads between tasks,
-- and each buffer that joins two clocks has both ends, of one queue.
pub record MayClose {S R : Type 0} (wires : List Wire) (tasks : List (Task S (ThreadTaps R))) : Type 0 where
  pub few : length wires < 2 ^ 32
  pub places : (b : ℕ) → b < length wires → (wire_at wires b).from < length tasks
      × ((wire_at wires b).to < length tasks)
  pub ran : (b : ℕ) → b < length wires → (wire_at wires b).from ≢ (wire_at wires b).to
      → (put : Window) × (take : Window) × JoinRan (wire_at wires b) b put take tasks

-- the tasks changed in nothing but the windows of their ends: each kept its engine and its lists, and as many ends, of
-- the same buffers
pub record SameTasks {S R : Type 0} (old new : List (Task S (ThreadTaps R))) : Type 0 where
  pub many : length new ≡ length old
  pub same : (k : ℕ) (d : Task S (ThreadTaps R)) → k < length old
      → SameButEnds (slice_index_or old k d) (slice_index_or new k d)
  pub puts_many : (k : ℕ) (d : Task S (ThreadTaps R)) → k < length old
      → length (puts_of (slice_index_or new k d)) ≡ length (puts_of (slice_index_or old k d))
  pub puts : (k p : ℕ) (d : Task S (ThreadTaps R)) (e : Side) → k < length old
      → (slice_index_or (puts_of (slice_index_or new k d)) p e).buffer
      ≡ (slice_index_or (puts_of (slice_index_or old k d)) p e).buffer
  pub takes_many : (k : ℕ) (d : Task S (ThreadTaps R)) → k < length old
      → length (takes_of (slice_index_or new k d)) ≡ length (takes_of (slice_index_or old k d))
  pub takes : (k p : ℕ) (d : Task S (ThreadTaps R)) (e : Side) → k < length old
      → (slice_index_or (takes_of (slice_index_or new k d)) p e).buffer
      ≡ (slice_index_or (takes_of (slice_index_or old k d)) p e).buffer

-- The window of buffer b was closed, and the next one opened, in the tasks. What its ends put and took in it (`put`,
-- `take`) is legal for a queue of the wire's capacity. The next window opens with the chunks that it left.
pub record JoinTurned {S R : Type 0} (wire : Wire) (b : ℕ) (put take : Window)
    (tasks : List (Task S (ThreadTaps R))) : Type 0 where
  pub rest : List (List Cell)
  pub legal : Legal wire.capacity rest put.opening put.answers take.answers
  pub opens : JoinOpen wire b rest tasks

-- The tasks `old` came to `new` when the windows of all buffers that join two clocks were closed, and the next ones
-- opened. A wire names the two clocks of a buffer.
pub record AllShut {S R : Type 0} (wires : List Wire) (old new : List (Task S (ThreadTaps R))) : Type 0 where
  pub tasks : SameTasks old new
  pub each : (b : ℕ) (put take : Window) → b < length wires → (wire_at wires b).from ≢ (wire_at wires b).to
      → JoinRan (wire_at wires b) b put take old
      → JoinTurned (wire_at wires b) b put take new

-- The tasks `old` came to `new` when the windows of all buffers that join two clocks were closed. The answers of each
-- window were added to the buffer's list in `logs`, which came to `after`.
pub record AllClosed {S R : Type 0} (wires : List Wire) (old new : List (Task S (ThreadTaps R)))
    (logs after : List (List Answers)) : Type 0 where
  pub shut : AllShut wires old new
  pub logs_many : length after ≡ length logs
  pub logged : (b : ℕ) (put take : Window) (d : List Answers) → b < length wires
      → (wire_at wires b).from ≢ (wire_at wires b).to → JoinRan (wire_at wires b) b put take old
      → slice_index_or after b d ≡ slice_index_or logs b d ++ told_of (put.answers, take.answers) ∷ []
