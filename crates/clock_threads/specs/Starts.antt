-- Tasks before the first tick.
use Rattle.std.specs.Prelude.{◌≡◌, ◌≢◌, ◌<◌, ◌≤◌, ℕ, List, [], ◌∷◌, ◌++◌, length, slice_index_or, slice_set}
use Rattle.atomic_table.specs.Seated.{TableId}
use Rattle.buffer_queue.specs.Window.{Window, opened, capacity_of}
use Rattle.buffer_ends.specs.Sides.{Side}
use Rattle.buffer_ends.specs.declared.thread_taps.ThreadTaps.{ThreadTaps}
use Rattle.clock_threads.specs.declared.task.Task.{Task}
use Rattle.clock_threads.specs.declared.wires.Wire.{Wire}
use Rattle.clock_threads.specs.Wires.{wire_at}
use Rattle.clock_threads.specs.Ends.{puts_of as put_ends, takes_of as take_ends, SameButEnds, JoinOpen}

-- Each of the first `many` buffers has a queue, of the capacity that its wire says. `passes` has both its ends, the one
-- that puts and the one that takes, and their window opens with no chunk.
pub record AreQueues (wires : List Wire) (many : ℕ) (queues : List TableId) (passes : List (Window
    × Window)) : Type 0 where
  pub queues_many : length queues ≡ many
  pub passes_many : length passes ≡ many
  pub capacity : (b : ℕ) (d : TableId) → b < many → capacity_of (slice_index_or queues b d) ≡ (wire_at wires b).capacity
  pub ends : (b : ℕ) (d : TableId) (e : Window × Window) → b < many
      → slice_index_or passes b e ≡ (opened (slice_index_or queues b d) [], opened (slice_index_or queues b d) [])

-- before the run: no task has an end of a buffer that joins its clock to another one
pub record AreBare {S R : Type 0} (tasks : List (Task S (ThreadTaps R))) : Type 0 where
  pub puts : (k : ℕ) (d : Task S (ThreadTaps R)) → k < length tasks → put_ends (slice_index_or tasks k d) ≡ []
  pub takes : (k : ℕ) (d : Task S (ThreadTaps R)) → k < length tasks → take_ends (slice_index_or tasks k d) ≡ []

-- a task got one more end of a buffer, `side`, at which it puts, and kept all else
pub record PutAdded {S R : Type 0} (old new : Task S (ThreadTaps R)) (side : Side) : Type 0 where
  pub puts : put_ends new ≡ put_ends old ++ side ∷ []
  pub takes : take_ends new ≡ take_ends old
  pub same : SameButEnds old new

-- a task got one more end of a buffer, `side`, at which it takes, and kept all else
pub record TakeAdded {S R : Type 0} (old new : Task S (ThreadTaps R)) (side : Side) : Type 0 where
  pub takes : take_ends new ≡ take_ends old ++ side ∷ []
  pub puts : put_ends new ≡ put_ends old
  pub same : SameButEnds old new

-- the two ends of one buffer were handed to two tasks of a list: `put` to task number `from`, and `take` to task
-- number `to`
pub record BothAdded {S R : Type 0} (from to : ℕ) (put take : Side) (old new : List (Task S (ThreadTaps R))) : Type 0
  where
    pub giver : Task S (ThreadTaps R)
    pub taker : Task S (ThreadTaps R)
    pub are : new ≡ slice_set (slice_set old from giver) to taker
    pub put_added : (d : Task S (ThreadTaps R)) → PutAdded (slice_index_or old from d) giver put
    pub take_added : (d : Task S (ThreadTaps R)) → TakeAdded (slice_index_or old to d) taker take

-- The tasks `old` came to `new` when the buffers with numbers from `from` on got their ends. Both ends of each buffer
-- that joins two clocks were handed to the tasks of these clocks, and no other ends; their windows have no answer yet.
-- Wire b names the two clocks of buffer b.
pub record AreJoined {S R : Type 0} (wires : List Wire) (from : ℕ) (old new : List (Task S (ThreadTaps R))) : Type 0
  where
    pub many : length new ≡ length old
    pub same : (k : ℕ) (d : Task S (ThreadTaps R)) → k < length old
        → SameButEnds (slice_index_or old k d) (slice_index_or new k d)
    pub puts : (k p : ℕ) (d : Task S (ThreadTaps R)) (e : Side) → k < length old
        → p < length (put_ends (slice_index_or new k d)) →
        let side = slice_index_or (put_ends (slice_index_or new k d)) p e in
        (from ≤ side.buffer) × (side.buffer < length wires) × ((wire_at wires side.buffer).from ≡ k)
        × ((wire_at wires side.buffer).to ≢ k) × (side.window.answers ≡ [])
    pub takes : (k p : ℕ) (d : Task S (ThreadTaps R)) (e : Side) → k < length old
        → p < length (take_ends (slice_index_or new k d)) →
        let side = slice_index_or (take_ends (slice_index_or new k d)) p e in
        (from ≤ side.buffer) × (side.buffer < length wires) × ((wire_at wires side.buffer).to ≡ k)
        × ((wire_at wires side.buffer).from ≢ k) × (side.window.answers ≡ [])
    pub opens : (b : ℕ) → from ≤ b → b < length wires → (wire_at wires b).from ≢ (wire_at wires b).to
        → JoinOpen (wire_at wires b) b [] new
