use Rattle.plan_blames.proofs.Chains.{three}
use Rattle.plan_blames.proofs.faults.push_own_region.Goals as goal

pub returns : goal.returns
returns c = three _ _ _ _ _ _ _ c.in_ok-push_plain.ensures c.in_ok-push_own_label.ensures c.in_ok-push_own_rest.ensures
