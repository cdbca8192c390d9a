use Rattle.stream_meaning.proofs.Unbuffered.{no_calls, has_none}
use Rattle.stream_meaning.proofs.laws.no_calls_without_buffers.Goals as goal

pub returns-clause-none : goal.returns-clause-none
returns-clause-none c = no_calls

pub returns-clause-plan : goal.returns-clause-plan
returns-clause-plan c = has_none
