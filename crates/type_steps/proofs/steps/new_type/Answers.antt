use Rattle.type_steps.proofs.StepLemmas.{defined}
use Rattle.type_steps.proofs.steps.new_type.Goals as goal

pub returns : goal.returns
returns c = defined _ _ _ _ c.in_ok-n.ensures.bound
