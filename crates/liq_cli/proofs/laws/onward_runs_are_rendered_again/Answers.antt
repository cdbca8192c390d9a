use Rattle.stations.specs.Stations.{bare}
use Rattle.liq_cli.proofs.Retelling.{fit_setting, in_windows}
use Rattle.liq_cli.proofs.laws.onward_runs_are_rendered_again.Goals as goal

pub returns : goal.returns
returns c = λ files file name station window run listing way some few fit early lawful lead has prepared.
    c.accepted_runs_are_rendered_again.ensures files file name station window run way some few fit early lawful
    (c.onward_traces_are_accepted.ensures (bare station) station.clocks (fit_setting station fit early) window station.ticks run (in_windows station window run way lawful) listing lead)
    has prepared
