use Rattle.node_states.proofs.Begun.{as_many}
use Rattle.node_states.proofs.laws.slots_are_as_many.Goals as goal

pub returns : goal.returns
returns c = as_many
