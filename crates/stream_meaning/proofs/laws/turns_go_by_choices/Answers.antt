use Rattle.stream_meaning.proofs.Turning.{turned_is}
use Rattle.stream_meaning.proofs.laws.turns_go_by_choices.Goals as goal

pub returns : goal.returns
returns c = λ setting sub i n node turn eligible nodes there work. turned_is setting sub i node turn eligible nodes there work n
