use Rattle.std.proofs.Common.{◌≡◌, ◌≤◌, ◌+◌, drop, length}
use Rattle.op_turn.specs.Turns.{offering_from}
use Rattle.op_turn.proofs.choice.count_offering.Given as goal

abbrev pub invariant-loop-at : goal.invariant-loop-at
invariant-loop-at l = (l.count + length (offering_from (drop l.at l.offers) l.at) ≡ length (offering_from l.offers 0)) × (l.count ≤ l.at)
