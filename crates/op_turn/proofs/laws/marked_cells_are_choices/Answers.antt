use Rattle.op_turn.proofs.Standing.{given_is}
use Rattle.op_turn.proofs.laws.marked_cells_are_choices.Goals as goal

pub returns : goal.returns
returns c = λ turn past slots pick is. given_is turn past slots pick is
