use Rattle.std.proofs.Common.{◌≤◌, length, arith}
use Rattle.op_cross.specs.Crossfade.{cross}
use Rattle.node_states.proofs.steps.item.Goals as goal

pub returns-then-wants : goal.returns-then-wants
returns-then-wants c = λ slots p stands settled.
    let few : length (cross c.args.state.now.overlap slots) ≤ p = (c.wants.ensures.unsettled slots p stands).0 c.if-wants.true in
    absurd (omega (arith, few, settled))
