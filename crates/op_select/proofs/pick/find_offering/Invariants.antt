use Rattle.std.proofs.Common.{◌≡◌, drop}
use Rattle.op_select.specs.Selection.{first_offering}
use Rattle.op_select.proofs.pick.find_offering.Given as goal

abbrev pub invariant-loop-child : goal.invariant-loop-child
invariant-loop-child l = first_offering (drop l.child l.offers) l.child ≡ first_offering (drop l.start l.offers) l.start
