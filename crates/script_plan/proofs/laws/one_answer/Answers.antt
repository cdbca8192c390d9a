use Rattle.script_plan.proofs.OneAnswer.{fault_one, plan_one, plan_or_fault}
use Rattle.script_plan.proofs.laws.one_answer.Goals as goal

pub returns-clause-plan : goal.returns-clause-plan
returns-clause-plan c = plan_one c.one_plan.ensures.one

pub returns-clause-apart : goal.returns-clause-apart
returns-clause-apart c = plan_or_fault c.one_plan.ensures.one

pub returns-clause-fault : goal.returns-clause-fault
returns-clause-fault c = fault_one c.one_fault.ensures.one c.one_plan.ensures.one
