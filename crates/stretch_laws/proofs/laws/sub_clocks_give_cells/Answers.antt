use Rattle.stretch_laws.proofs.Filling.{are_filled}
use Rattle.stretch_laws.proofs.laws.sub_clocks_give_cells.Goals as goal

pub returns : goal.returns
returns c = λ setting sub k first instants n many nodes means stretch gave later within. are_filled setting sub means k first instants nodes stretch gave n many later within
