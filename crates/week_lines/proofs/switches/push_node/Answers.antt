use Rattle.std.proofs.Common.{◌∙◌, length, ap}
use Rattle.week_lines.proofs.Telling.{switch_size}
use Rattle.week_lines.proofs.switches.push_node.Goals as goal

pub push_looked-requires-clause-size : goal.push_looked-requires-clause-size
push_looked-requires-clause-size c =
    ap length c.as_slice-in-Switch.ensures
    ∙ switch_size c.args.plan.now c.args.number c.args.node.now c.in-Switch.sensitive c.in-Switch.preds c.as_slice.result.now c.requires.plan c.requires.node c.in-Switch.is c.as_slice.ensures
