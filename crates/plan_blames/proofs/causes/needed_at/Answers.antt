use Rattle.plan_blames.proofs.Needed.{needed_there}
use Rattle.plan_blames.proofs.causes.needed_at.Goals as goal

pub returns : goal.returns
returns c =
    let found = needed_there c.args.nodes.now c.args.n c.index-nodes-n.result _ c.only_needed.result c.requires.nodes c.index-nodes-n.is c.requires.there c.as_slice.ensures c.only_needed.ensures in
    record { needed = found.0; below = found.1 }
