use Rattle.op_cross.specs.States.{left}
use Rattle.engine_tests.proofs.op_cross_tests.check.Given as goal

abbrev pub decreases-loop-at : goal.decreases-loop-at
decreases-loop-at g l = left l.state
