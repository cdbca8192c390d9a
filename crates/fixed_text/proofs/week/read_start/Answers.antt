use Rattle.std.proofs.Common.{arith}
use Rattle.fixed_text.proofs.Starts.{start_found}
use Rattle.fixed_text.proofs.week.read_start.Goals as goal

pub returns-in_ok-second-in-58-clause-found : goal.returns-in_ok-second-in-58-clause-found
returns-in_ok-second-in-58-clause-found c =
    let hour = c.in_ok-hour-in-58.ensures.found in
    let minute = c.in_ok-minute-in-58.ensures.found in
    let second = c.in_ok-second-in-58.ensures.found in
    start_found c.args.text.now c.from-day.result c.in_ok-hour-in-58.hour c.in_ok-minute-in-58.minute c.in_ok-second-in-58.second (omega arith) (omega arith) (omega arith) (omega arith) (omega arith) hour.0 hour.1 hour.2 (omega arith) minute.0 minute.1 minute.2 (omega arith) second.0 second.1 second.2
