use Rattle.week_lines.proofs.push_lines.Goals as goal

pub below_crossfades-requires : goal.below_crossfades-requires
below_crossfades-requires c = rw c.as_slice.ensures c.requires.plan.nodes
