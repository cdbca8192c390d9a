-- The wires of a plan's buffers. Only private functions cite this.
use Rattle.std.specs.Prelude.{◌≡◌, ◌<◌, ℕ, List, length, nat_lt, if◌then◌else◌}
use Rattle.plan_core.specs.declared.plan.Plan.{Plan}
use Rattle.clock_infer.specs.declared.clock_map.ClockMap.{ClockMap}
use Rattle.clock_infer.specs.declared.clock_map.NodeClock.{NodeClock}
use Rattle.stream_meaning.specs.Instants.{Setting}
use Rattle.run_records.specs.Buffers.{main_of}
use Rattle.clock_threads.specs.declared.wires.Wire.{Wire}
use Rattle.clock_threads.specs.Wires.{wire_at}
use Rattle.clock_threads.specs.Lawful.{IsWireOf}

-- the setting with this plan and these clocks, and with the files, start and answers of `other`
abbrev pub over : Plan → List NodeClock → Setting → Setting
over plan clocks other = record {
  plan = plan;
  library = other.library;
  clocks = clocks;
  start = other.start;
  answers = other.answers;
}

-- a buffer's wire: it leads from the main clock of the node `feed` to that of its reader `reads`, among `clocks`
-- running ones; if the second does not run, both its ends are at the first
pub record IsWireAt (setting : Setting) (clocks feed reads capacity : ℕ) (wire : Wire) : Type 0 where
  pub from_is : wire.from ≡ main_of setting feed
  pub to_is : wire.to ≡ (if nat_lt (main_of setting reads) clocks then main_of setting reads else main_of setting feed)
  pub capacity_is : wire.capacity ≡ capacity

-- These are the wires of the first n buffers of a plan with these clocks, whatever its files and answers are. Each says
-- from which clock to which a buffer leads, and its capacity.
pub record AreFirstWires (plan : Plan) (clocks : ClockMap) (n : ℕ) (wires : List Wire) : Type 0 where
  pub many : length wires ≡ n
  pub each : (other : Setting) (b : ℕ) → b < n → IsWireOf (over plan clocks.of other) clocks.running b (wire_at wires b)
