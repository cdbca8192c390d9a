use Rattle.run_records.proofs.Owning.{own_tick}
use Rattle.run_records.proofs.laws.ticks_call_their_own.Goals as goal

pub returns : goal.returns
returns c = own_tick
