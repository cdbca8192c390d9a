use Rattle.stretch_laws.proofs.Quiet.{no_calls, no_takes}
use Rattle.stretch_laws.proofs.laws.stretches_make_no_calls.Goals as goal

pub returns-clause-takes : goal.returns-clause-takes
returns-clause-takes c = λ setting sub clock past instants i nodes stretch within. no_takes setting sub clock past instants nodes stretch i within

pub returns-clause-calls : goal.returns-clause-calls
returns-clause-calls c = λ setting sub clock past instants i nodes stretch within down quiet. no_calls setting sub clock past instants nodes stretch i within down quiet
