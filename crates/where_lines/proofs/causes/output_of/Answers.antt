use Rattle.where_lines.proofs.Causing.{output_there}
use Rattle.where_lines.proofs.causes.output_of.Goals as goal

pub returns : goal.returns
returns c =
    let found = output_there c.args.name.now c.args.plan.now.sinks _ _ c.output_named.result c.as_slice.ensures c.output_named.ensures c.requires.sinks in
    record { named = found.0; there = found.1 }
