use Rattle.plan_samples.proofs.Grown.{one_faded}
use Rattle.plan_samples.proofs.nodes.push_crossfade.Goals as goal

pub push_stereo-requires-clause-crossfades : goal.push_stereo-requires-clause-crossfades
push_stereo-requires-clause-crossfades c = one_faded c.crossfades_rest_on_nodes_below.ensures c.args.draft.now c.args.child _ 22 c.in_ok-one.ensures c.requires.child
