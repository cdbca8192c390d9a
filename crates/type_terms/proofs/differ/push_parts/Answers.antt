use Rattle.type_terms.proofs.Stack.{pushed_next}
use Rattle.type_terms.proofs.differ.push_parts.Goals as goal

pub loop-i-preserved : goal.loop-i-preserved
loop-i-preserved c = pushed_next _ _ _ _ _ _ _ _ c.loop-i-test.true c.requires c.index-ss-i.is c.index-ts-i.is c.in_ok-push.ensures.items c.loop-i.invariant
