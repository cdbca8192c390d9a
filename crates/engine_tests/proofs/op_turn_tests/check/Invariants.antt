use Rattle.std.proofs.Common.{◌≡◌}
use Rattle.engine_tests.proofs.op_turn_tests.check.Given as goal

abbrev pub invariant-loop-at : goal.invariant-loop-at
invariant-loop-at g l = l.state.children ≡ 2
