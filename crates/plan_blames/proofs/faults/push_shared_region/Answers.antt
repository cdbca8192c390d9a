use Rattle.plan_blames.proofs.Chains.{three}
use Rattle.plan_blames.proofs.faults.push_shared_region.Goals as goal

pub returns : goal.returns
returns c = three _ _ _ _ _ _ _ c.in_ok-push_plain.ensures c.in_ok-push_shared_label.ensures c.in_ok-push_red_rest.ensures
