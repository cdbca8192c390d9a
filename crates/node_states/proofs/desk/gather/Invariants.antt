use Rattle.std.proofs.Common.{◌≡◌, take}
use Rattle.stream_meaning.specs.Instants.{slots_at}
use Rattle.node_states.proofs.desk.gather.Given as goal

abbrev pub invariant-loop-at : goal.invariant-loop-at
invariant-loop-at l = take l.at l.slots ≡ slots_at l.parts (take l.at l.children)
