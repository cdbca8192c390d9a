use Rattle.std.proofs.Common.{refl}
use Rattle.type_instances.proofs.Openers.{open_next, other_next}
use Rattle.type_instances.proofs.instances.push_opened.Goals as goal

pub loop-i-preserved-in-Unread : goal.loop-i-preserved-in-Unread
loop-i-preserved-in-Unread c = other_next c.args.parameters.now c.args.numbers.now c.loop-i.i _ _ c.loop-i.kinds.items _ (λ ps n ns. refl) c.loop-i-test.true c.requires.many c.in-Unread.is c.loop-i.invariant

pub loop-i-preserved-in-Outer : goal.loop-i-preserved-in-Outer
loop-i-preserved-in-Outer c = other_next c.args.parameters.now c.args.numbers.now c.loop-i.i _ _ c.loop-i.kinds.items _ (λ ps n ns. refl) c.loop-i-test.true c.requires.many c.in-Outer.is c.loop-i.invariant

pub loop-i-preserved : goal.loop-i-preserved
loop-i-preserved c = open_next c.args.parameters.now c.args.numbers.now c.loop-i.i _ _ c.loop-i.kinds.items _ _ c.loop-i-test.true c.requires.many c.in-Open.is c.in_ok-push-in-Open.ensures.items c.loop-i.invariant
