use Rattle.std.proofs.Common.{arith}
use Rattle.script_values.proofs.Steps.{count_done, count_past}
use Rattle.script_values.proofs.machine.count.Goals as goal

pub returns-then-work-from : goal.returns-then-work-from
returns-then-work-from c = count_past c.args.steps c.args.machine.now (omega arith)

pub returns : goal.returns
returns c = count_done c.args.steps c.args.machine.now c.saturating_add-work.result (omega arith) (omega arith)
