use Rattle.stream_meaning.proofs.Calling.{calls_of-is}
use Rattle.stream_meaning.proofs.laws.calls_go_by_sub_clocks.Goals as goal

pub returns : goal.returns
returns c = calls_of-is
