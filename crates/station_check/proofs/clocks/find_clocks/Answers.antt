use Rattle.station_check.proofs.Ending.{cause_found, clocks_found}
use Rattle.station_check.proofs.clocks.find_clocks.Goals as goal

pub returns-in-Ok-clause-map : goal.returns-in-Ok-clause-map
returns-in-Ok-clause-map c = clocks_found c.args.plan.now c.assign.result c.in-Ok.clocks c.in-Ok.is c.in-Ok.ensures.map c.assign.ensures.exact c.assign.ensures.only

pub returns-in-Err-clause-fault : goal.returns-in-Err-clause-fault
returns-in-Err-clause-fault c =
    rw c.halt_of.ensures (cause_found c.args.plan.now c.assign.result c.in-Err.fault c.in-Err.is c.in-Err.ensures.cause c.assign.ensures.exact c.assign.ensures.only)
