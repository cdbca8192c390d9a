-- Tasks of engines.
use Rattle.std.specs.Prelude.{◌≡◌, ◌<◌, ℕ, List, [], length, map, slice_index_or}
use Rattle.plan_core.specs.declared.plan.Plan.{Plan}
use Rattle.buffer_ends.specs.Local.{LocalBuffer, planned}
use Rattle.buffer_ends.specs.declared.thread_taps.ThreadTaps.{ThreadTaps}
use Rattle.clock_ticks.specs.declared.engine.ClockEngine.{ClockEngine}
use Rattle.clock_threads.specs.declared.task.Task.{Task}
use Rattle.clock_threads.specs.Ends.{puts_of as put_ends, takes_of as take_ends}

-- the engine of a task, without the taps by which the task reaches the buffers
abbrev pub engine_of : {S R : Type 0} → Task S (ThreadTaps R) → ClockEngine S
engine_of task = task.engine

-- for each of `many` clocks, its lists before any call: one for each buffer of the plan, for the buffers with both
-- ends in that clock
pub record AreLocals (plan : Plan) (many : ℕ) (locals : List (List LocalBuffer)) : Type 0 where
  pub are_many : length locals ≡ many
  pub each : (k : ℕ) (d : List LocalBuffer) → k < length locals → slice_index_or locals k d ≡ map planned plan.buffers

-- a task before the run: it has no ends of buffers, and its lists of the plan's buffers have no call
pub record IsBare {S R : Type 0} (plan : Plan) (task : Task S (ThreadTaps R)) : Type 0 where
  pub puts : put_ends task ≡ []
  pub takes : take_ends task ≡ []
  pub local : task.taps.local ≡ map planned plan.buffers

-- these tasks have these engines, in the same order, and none has an end of a buffer or a call yet
pub record AreTasks {S R : Type 0} (plan : Plan) (engines : List (ClockEngine S))
    (tasks : List (Task S (ThreadTaps R))) : Type 0 where
  pub engines_are : map engine_of tasks ≡ engines
  pub each : (k : ℕ) (d : Task S (ThreadTaps R)) → k < length tasks → IsBare plan (slice_index_or tasks k d)
