use Rattle.liq_cli.proofs.Retelling.{left_trace}
use Rattle.liq_cli.proofs.laws.runs_leave_their_trace.Goals as goal

pub returns : goal.returns
returns c = left_trace
