use Rattle.script_plan.proofs.OneList.{call_each, calls_one, plan_made}
use Rattle.script_plan.proofs.laws.one_list_of_calls.Goals as goal

pub returns-clause-plan : goal.returns-clause-plan
returns-clause-plan c = plan_made

pub returns-clause-one : goal.returns-clause-one
returns-clause-one c = calls_one c.one_plan.ensures.sources

pub returns-clause-each : goal.returns-clause-each
returns-clause-each c = call_each c.plans_are_well_formed.ensures.calls
