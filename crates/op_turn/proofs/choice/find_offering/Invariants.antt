use Rattle.std.proofs.Common.{◌≡◌, ◌+◌, drop, slice_get}
use Rattle.op_turn.specs.Turns.{offering_from}
use Rattle.op_turn.proofs.choice.find_offering.Given as goal

abbrev pub invariant-loop-at : goal.invariant-loop-at
invariant-loop-at l = slice_get (offering_from (drop l.at l.offers) (l.from + l.at)) l.left ≡ slice_get (offering_from l.offers l.from) l.number
