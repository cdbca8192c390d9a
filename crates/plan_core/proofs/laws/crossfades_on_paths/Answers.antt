use Rattle.plan_core.proofs.Paths.{path_bounded, path_reached, four_at_most}
use Rattle.plan_core.proofs.laws.crossfades_on_paths.Goals as goal

pub returns-clause-bound : goal.returns-clause-bound
returns-clause-bound c = path_bounded

pub returns-clause-reached : goal.returns-clause-reached
returns-clause-reached c = path_reached

pub returns-clause-four : goal.returns-clause-four
returns-clause-four c = four_at_most
