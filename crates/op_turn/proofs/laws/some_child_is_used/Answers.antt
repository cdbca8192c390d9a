use Rattle.op_turn.proofs.Standing.{some_offered}
use Rattle.op_turn.proofs.laws.some_child_is_used.Goals as goal

pub returns : goal.returns
returns c = λ turn past slots. some_offered turn past slots
