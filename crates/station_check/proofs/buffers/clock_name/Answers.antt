use Rattle.std.proofs.Common.{◌∙◌, [], ap, slice_index_or}
use Rattle.clock_infer.specs.declared.clock_map.ClockMap.{ClockMap}
use Rattle.stations.specs.Stations.{bare}
use Rattle.station_check.proofs.buffers.clock_name.Goals as goal

pub returns : goal.returns
returns c = λ station is.
    c.main_name.ensures
    ∙ ap (λ m. slice_index_or c.args.clocks.now.names m []) (c.main_of.ensures (bare station) is.plan_is (ap (λ (clocks : ClockMap). clocks.of) is.clocks_are))
