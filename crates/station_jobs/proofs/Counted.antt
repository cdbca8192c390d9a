-- Each output has its count of gaps.
use Rattle.std.proofs.Common.{◌≡◌, ◌∙◌, ℕ, suc, List, [], ◌∷◌, length, refl, ap}
use Rattle.plan_core.specs.declared.sink.SinkPlan.{SinkPlan}
use Rattle.plan_core.specs.declared.sink.SinkPlan.TheVariants.{Output, Feed}
use Rattle.station_render.specs.Renders.{written}
use Rattle.run_records.specs.Records.{Run}
use Rattle.stations.specs.Stations.{Station, setting_of_run}
use Rattle.stations.specs.Streams.{counts_in, gaps_in_order}
use Rattle.stream_meaning.specs.Instants.{Setting}

counts_long : (setting : Setting) (ticks : ℕ) (sinks : List SinkPlan) → length (counts_in setting ticks sinks) ≡ length (written sinks)
counts_long setting ticks [] = refl
counts_long setting ticks (Output name node fallible wide ∷ sinks) = ap suc (counts_long setting ticks sinks)
counts_long setting ticks (Feed buffer node ∷ sinks) = counts_long setting ticks sinks

pub as_many : (station : Station) (run : Run) (gaps : List ℕ) → gaps ≡ gaps_in_order station run → length gaps ≡ length (written station.plan.sinks)
as_many station run gaps are = ap length are ∙ counts_long (setting_of_run station run) station.ticks station.plan.sinks
