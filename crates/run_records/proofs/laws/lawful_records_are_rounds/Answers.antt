use Rattle.run_records.proofs.Alone.{lawful_is_rounds}
use Rattle.run_records.proofs.laws.lawful_records_are_rounds.Goals as goal

pub returns : goal.returns
returns c = lawful_is_rounds
