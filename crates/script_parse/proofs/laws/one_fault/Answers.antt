use Rattle.script_parse.proofs.Only.{fault_unique}
use Rattle.script_parse.proofs.laws.one_fault.Goals as goal

pub returns : goal.returns
returns c = record { one = fault_unique }
