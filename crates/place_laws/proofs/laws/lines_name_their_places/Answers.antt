use Rattle.place_laws.proofs.Lines.{names_its_place}
use Rattle.place_laws.proofs.laws.lines_name_their_places.Goals as goal

pub returns : goal.returns
returns c = names_its_place
