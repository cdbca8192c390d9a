use Rattle.plan_core.specs.Plans.{IsNodeOver}
use Rattle.plan_samples.specs.Stereos.{stereo_node}
use Rattle.plan_samples.proofs.Grown.{stereo_over, stereo_more}
use Rattle.plan_samples.proofs.nodes.push_stereo.Goals as goal

pub returns-clause-stereo : goal.returns-clause-stereo
returns-clause-stereo c =
    let over : IsNodeOver c.args.draft.now.nodes (stereo_node c.args.op c.args.children.items) =
    stereo_over c.args.draft.now c.args.op c.args.children.items c.requires.stereo c.requires.below c.requires.few c.requires.count c.requires.kind c.requires.range c.requires.crossfades in
    stereo_more c.args.draft.now c.push_node.new.self c.args.op c.args.children.items _ c.from_vec.ensures c.requires.stereo over c.in_ok-number.ensures.added
    (λ held. c.in_ok-number.ensures.well_formed c.requires.stereo.well_formed held c.requires.reader)
