use Rattle.std.proofs.Common.{◌∙◌, ap, map, take_all}
use Rattle.general_types.specs.Texts.{text_kind as the_text_kind}
use Rattle.general_types.proofs.KindLists.{pushed_next}
use Rattle.general_types.proofs.generalising.push_text.Goals as goal

pub loop-kind-preserved : goal.loop-kind-preserved
loop-kind-preserved c = pushed_next (the_text_kind c.args.parameters.now) c.loop-kind.text.items _ c.args.kinds.now c.loop-kind.kind-index _ _ c.loop-kind-test.true c.text_kind.ensures c.in_ok-push.ensures.items c.loop-kind.invariant

pub returns : goal.returns
returns c = c.loop-kind.invariant ∙ ap (map (the_text_kind c.args.parameters.now)) (take_all _ _ c.loop-kind-test.false)
