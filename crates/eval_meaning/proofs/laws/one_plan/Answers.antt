use Rattle.eval_meaning.proofs.UsesScripts.{one_plan, same_sources}
use Rattle.eval_meaning.proofs.laws.one_plan.Goals as goal

pub returns : goal.returns
returns c = record { one = one_plan c.ats_are_within.ensures.within; sources = same_sources c.ats_are_within.ensures.within }
