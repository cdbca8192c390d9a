use Rattle.liq_cli.proofs.Retelling.{rendered_again}
use Rattle.liq_cli.proofs.laws.accepted_runs_are_rendered_again.Goals as goal

pub returns : goal.returns
returns c = rendered_again c.replays_are_of_the_run.ensures
