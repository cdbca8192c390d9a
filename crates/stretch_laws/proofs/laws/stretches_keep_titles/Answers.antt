use Rattle.stretch_laws.proofs.Titling.{keeps_title}
use Rattle.stretch_laws.proofs.laws.stretches_keep_titles.Goals as goal

pub returns : goal.returns
returns c = λ setting sub clock past instants i j nodes stretch within gave. keeps_title setting sub clock past instants i j nodes stretch within gave
