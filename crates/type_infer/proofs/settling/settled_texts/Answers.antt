use Rattle.type_infer.proofs.Settled.{texts_all, texts_more_at}
use Rattle.type_infer.proofs.Overs.{pending_over_at}
use Rattle.type_infer.proofs.settling.settled_texts.Goals as goal

pub settle_text-requires : goal.settle_text-requires
settle_text-requires c = record { over = pending_over_at c.args.subst.now c.args.kinds.now c.loop-kind.kind-index _ c.loop-kind-test.true c.requires.over }

pub loop-kind-preserved : goal.loop-kind-preserved
loop-kind-preserved c = texts_more_at c.args.subst.now c.args.kinds.now c.loop-kind.kind-index _ c.settle_text.result c.loop-kind.settled c.push.new.self c.loop-kind-test.true c.loop-kind.invariant c.settle_text.ensures c.in_ok-push.ensures.added

pub returns : goal.returns
returns c = texts_all c.args.subst.now c.args.kinds.now c.loop-kind.kind-index c.loop-kind.settled c.loop-kind-test.false c.loop-kind.invariant
