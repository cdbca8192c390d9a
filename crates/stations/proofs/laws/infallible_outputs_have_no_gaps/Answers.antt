use Rattle.std.proofs.Common.{◌<◌, length}
use Rattle.std.proofs.lemmas.List.Elements.{All-contains}
use Rattle.plan_core.specs.Plans.{sink_node}
use Rattle.stations.specs.Stations.{setting_of_run}
use Rattle.stations.proofs.Gapless.{is_setting}
use Rattle.stations.proofs.laws.infallible_outputs_have_no_gaps.Goals as goal

pub returns : goal.returns
returns c = λ files station run plan accepted start mark name node fallible wide marking among true.
    c.infallible_nodes_offer.ensures.gaps (setting_of_run station run) station.clocks mark node station.ticks
    (is_setting files station run plan accepted start) marking
    (All-contains (λ sink. sink_node sink < length station.plan.nodes) station.plan.sinks _ plan.sinks among) true
