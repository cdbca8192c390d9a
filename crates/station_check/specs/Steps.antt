-- What the steps of a check find.
use Rattle.std.specs.Prelude.{◌≡◌, ◌≢◌, ℕ, Bool, List, [], None}
use Rattle.liq_base.specs.Files.{Files}
use Rattle.frame_core.specs.Library.{Sounds}
use Rattle.plan_core.specs.declared.plan.Plan.{Plan}
use Rattle.plan_core.specs.declared.sink.SinkPlan.{SinkPlan}
use Rattle.plan_core.specs.declared.sink.SinkPlan.TheVariants.{Output, Feed}
use Rattle.clock_infer.specs.declared.clock_map.ClockMap.{ClockMap}
use Rattle.clock_infer.specs.declared.clock_map.ClockFault.{ClockFault}
use Rattle.clock_infer.specs.declared.clock_map.ClockFault.TheVariants.{Memory}
use Rattle.clock_infer.specs.Answers.{IsClockMap, IsCause}
use Rattle.fallible_infer.specs.Infallible.{IsMarking, refuses}
use Rattle.stations.specs.Findings.{Fits, IsFound, first_name}
use Rattle.stations.specs.Reports.{checked_line}
use Rattle.stations.specs.Stations.{Station}

-- no output of a plan may have gaps that the script does not allow: each has an infallible node, or is written with
-- `fallible=true`
pub record IsUngapped (plan : Plan) : Type 0 where
  pub mark : ℕ → Bool
  pub marking : IsMarking plan.nodes mark
  pub none : first_name (refuses mark) plan.sinks ≡ None

-- these are the clocks of a plan, which has no others and no fault of clocks
pub record OnlyClocks (plan : Plan) (clocks : ClockMap) : Type 0 where
  pub map : IsClockMap plan clocks
  pub only : (other : ClockMap) → IsClockMap plan other → other ≡ clocks
  pub apart : (fault : ClockFault) → fault ≢ Memory → IsCause plan fault → ⊥

-- this is why a plan has no clocks, and there is no other cause
pub record OnlyCause (plan : Plan) (fault : ClockFault) : Type 0 where
  pub of_plan : fault ≢ Memory
  pub cause : IsCause plan fault
  pub only : (other : ClockFault) → other ≢ Memory → IsCause plan other → other ≡ fault
  pub apart : (clocks : ClockMap) → IsClockMap plan clocks → ⊥

-- what is found of a plan, for so many ticks, is these clocks with some audio files, and nothing else
pub record FitsBy (files : Files) (plan : Plan) (ticks : ℕ) (clocks : ClockMap) : Type 0 where
  pub library : Sounds
  pub found : IsFound files plan ticks (Fits library clocks)

-- this station has this plan and these clocks, whatever else it has
pub record IsOf (plan : Plan) (clocks : ClockMap) (station : Station) : Type 0 where
  pub plan_is : station.plan ≡ plan
  pub clocks_are : station.clocks ≡ clocks

-- the line in the report of a check for a sink, if it is an output; a feed of a buffer has none
abbrev pub sink_line : ClockMap → (mark : ℕ → Bool) → SinkPlan → List ℕ
sink_line clocks mark (Output name node fallible wide) = checked_line clocks mark name node
sink_line clocks mark (Feed buffer node) = []
