use Rattle.stations.proofs.Making.{files_named}
use Rattle.stations.proofs.laws.files_are_created_by_name.Goals as goal

pub returns : goal.returns
returns c = files_named
