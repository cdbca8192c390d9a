use Rattle.script_values.proofs.Rows.{tuple_seen}
use Rattle.script_values.proofs.value.tuple.Goals as goal

pub returns : goal.returns
returns c = tuple_seen c.args.parts
