-- Engines over a plan without buffers.
use Rattle.std.specs.Prelude.{◌≡◌, ℕ, Option, List, length}
use Rattle.liq_base.specs.Pieces.{SinkTold}
use Rattle.plan_core.specs.declared.plan.Plan.{Plan}
use Rattle.clock_infer.specs.declared.clock_map.ClockMap.{ClockMap}
use Rattle.stream_meaning.specs.Instants.{Setting}
use Rattle.clock_ticks.specs.declared.engine.ClockEngine.{ClockEngine}
use Rattle.clock_threads.specs.ThreadRuns.{AreEngines}

-- These are the engines of all running clocks, before N ticks, of some plan that has no buffers, so that clocks share
-- nothing. `told` is what a sink tells of its bytes.
pub record AreUnbuffered {S : Type 0} (told : S → SinkTold) (N : ℕ) (engines : List (ClockEngine S)) : Type 0 where
  pub plan : Plan
  pub setting : Setting
  pub clocks : ClockMap
  pub none : length plan.buffers ≡ 0
  pub are : AreEngines told plan clocks N setting engines
