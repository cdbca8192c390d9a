use Rattle.plan_samples.specs.Stereos.{stereo_node}
use Rattle.plan_samples.proofs.nodes.push_plain.Goals as goal

pub push_stereo-requires-clause-crossfades : goal.push_stereo-requires-clause-crossfades
push_stereo-requires-clause-crossfades c =
    c.only_crossfades_add_crossfades.ensures c.args.draft.now.nodes (stereo_node c.args.op c.args.children.items) c.requires.stereo.well_formed.nodes c.requires.plain
