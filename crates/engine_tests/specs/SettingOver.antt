-- The setting of a plan. Only private functions of the tests cite this.
use Rattle.std.specs.Prelude.{[]}
use Rattle.plan_core.specs.declared.plan.Plan.{Plan}
use Rattle.clock_infer.specs.declared.clock_map.ClockMap.{ClockMap}
use Rattle.frame_core.specs.Library.{Sounds}
use Rattle.stream_meaning.specs.Instants.{Setting}

-- the setting in which a test renders: this plan with its files and clocks, from second 0 of the week on, where no
-- buffer has answered anything yet
abbrev pub setting_over : Plan → Sounds → ClockMap → Setting
setting_over plan library clocks = record {
  plan = plan;
  library = library;
  clocks = clocks.of;
  start = 0;
  answers = λ buffer. [];
}
