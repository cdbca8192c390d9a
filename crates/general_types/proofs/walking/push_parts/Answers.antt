use Rattle.type_terms.proofs.Walks.{pushed_part}
use Rattle.general_types.proofs.walking.push_parts.Goals as goal

pub loop-part-preserved : goal.loop-part-preserved
loop-part-preserved c = pushed_part c.args.work.now.items _ _ _ _ _ c.loop-part-test.true c.part-item.is c.in_ok-push.ensures.items c.loop-part.invariant
