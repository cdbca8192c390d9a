use Rattle.run_records.proofs.Fitting as law
use Rattle.run_records.proofs.laws.whole_ticks_have_room.Goals as goal

pub returns : goal.returns
returns c = law.whole_ticks_have_room
