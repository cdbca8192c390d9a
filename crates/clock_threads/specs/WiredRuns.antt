-- A run of all clocks by threads, over wires.
use Rattle.std.specs.Prelude.{◌≡◌, ◌<◌, ℕ, Option, List, length, map, slice_index_or}
use Rattle.liq_base.specs.Pieces.{SinkTold}
use Rattle.plan_core.specs.declared.plan.Plan.{Plan}
use Rattle.plan_core.specs.declared.sink.BufferPlan.{BufferPlan}
use Rattle.clock_infer.specs.declared.clock_map.ClockMap.{ClockMap}
use Rattle.buffer_ends.specs.Local.{Answers}
use Rattle.buffer_ends.specs.declared.thread_taps.ThreadTaps.{ThreadTaps}
use Rattle.stream_meaning.specs.Instants.{Setting}
use Rattle.run_records.specs.Records.{Window}
use Rattle.clock_ticks.specs.declared.engine.ClockEngine.{ClockEngine}
use Rattle.clock_threads.specs.declared.task.Task.{Task}
use Rattle.clock_threads.specs.declared.wires.Wire.{Wire}
use Rattle.clock_threads.specs.Wires.{wire_at}
use Rattle.clock_threads.specs.Records.{LogsGoing}
use Rattle.clock_threads.specs.Lawful.{AreWires}
use Rattle.clock_threads.specs.Listed.{listed}
use Rattle.clock_threads.specs.ThreadRuns.{AreEngines, HasRun}
use Rattle.clock_threads.specs.EngineTasks.{engine_of}

-- The wires are those of a plan's buffers: one for each, with its capacity, which is not 0. Each leads from one of
-- `clocks` clocks to one of them.
pub record AreLaid (plan : Plan) (clocks : ℕ) (wires : List Wire) : Type 0 where
  pub many : length wires ≡ length plan.buffers
  pub few : length wires < 4294967296
  pub some : (b : ℕ) → b < length wires → 0 < (wire_at wires b).capacity
  pub capacities : (b : ℕ) (d : BufferPlan) → b < length wires
      → (slice_index_or plan.buffers b d).capacity ≡ (wire_at wires b).capacity
  pub places : (b : ℕ) → b < length wires → (wire_at wires b).from < clocks × ((wire_at wires b).to < clocks)

-- Before a run of N ticks: these are the engines of all clocks of a setting of this plan, and the wires of its buffers.
-- A wire names the two clocks of a buffer; `told` is what a sink tells of its bytes.
pub record AreFresh {S : Type 0} (told : S
    → SinkTold) (plan : Plan) (wires : List Wire) (N : ℕ) (setting : Setting) (clocks : ClockMap)
    (engines : List (ClockEngine S)) : Type 0 where
  pub engines_are : AreEngines told plan clocks N setting engines
  pub wires_are : AreWires setting clocks.running wires

-- Before a run of N ticks: there is a setting of this plan of which these are the engines of all clocks, and the wires
-- of its buffers. A wire names the two clocks of a buffer; `told` is what a sink tells of its bytes.
pub record AreSomeFresh {S : Type 0} (told : S
    → SinkTold) (plan : Plan) (wires : List Wire) (N : ℕ) (engines : List (ClockEngine S)) : Type 0 where
  pub setting : Setting
  pub clocks : ClockMap
  pub are : AreFresh told plan wires N setting clocks engines

-- The engines `old` made all N ticks of each clock, in windows of W ticks, and came to those of `tasks`. `logs` has the
-- answers of buffers between clocks, and the tasks' lists those of the others. A wire names the two clocks of a buffer;
-- `told` is what a sink tells of its bytes.
pub record HasRunTasks {S R : Type 0} (told : S
    → SinkTold) (wires : List Wire) (setting : Setting) (clocks : ClockMap) (W N : ℕ)
    (old : List (ClockEngine S)) (tasks : List (Task S (ThreadTaps R))) (logs : List (List Answers)) : Type 0 where
  pub windows : ℕ → List Window
  pub run : HasRun told setting clocks W N (record { buffers = listed (length wires) windows }) old
      (map engine_of tasks)
  pub one : Task S (ThreadTaps R)
  pub logged : LogsGoing wires windows tasks logs one
  pub places : (b : ℕ) → b < length wires → (wire_at wires b).from < length tasks
  pub lists : (k : ℕ) → k < length tasks → length (slice_index_or tasks k one).taps.local ≡ length wires
