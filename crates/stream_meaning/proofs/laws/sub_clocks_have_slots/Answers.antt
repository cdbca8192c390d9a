use Rattle.stream_meaning.proofs.Existence.{meaning}
use Rattle.stream_meaning.proofs.laws.sub_clocks_have_slots.Goals as goal

pub returns : goal.returns
returns c = meaning
