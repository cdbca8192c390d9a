use Rattle.std.proofs.Common.{◌≡◌, drop}
use Rattle.op_select.specs.Selection.{first_ready}
use Rattle.op_select.proofs.pick.find_ready.Given as goal

abbrev pub invariant-loop-child : goal.invariant-loop-child
invariant-loop-child l =
    first_ready (drop l.child l.offers) (drop l.child l.eligible) l.child ≡ first_ready l.offers l.eligible 0
