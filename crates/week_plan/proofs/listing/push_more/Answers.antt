use Rattle.week_plan.proofs.Chains.{three}
use Rattle.week_plan.proofs.listing.push_more.Goals as goal

pub returns : goal.returns
returns c = three _ _ _ _ _ _ _ c.in_ok-push_plain.ensures c.in_ok-write_u64.ensures.ok c.in_ok-push_plain-2.ensures
