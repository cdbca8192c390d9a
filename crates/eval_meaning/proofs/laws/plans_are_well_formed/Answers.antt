use Rattle.eval_meaning.proofs.KeepingScripts.{each_has_a_call, plan_is_well_formed}
use Rattle.eval_meaning.proofs.laws.plans_are_well_formed.Goals as goal

pub returns : goal.returns
returns c = record { made = plan_is_well_formed; calls = each_has_a_call }
