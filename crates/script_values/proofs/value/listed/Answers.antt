use Rattle.script_values.proofs.Rows.{listed_seen}
use Rattle.script_values.proofs.value.listed.Goals as goal

pub returns : goal.returns
returns c = listed_seen c.args.parts
