use Rattle.type_infer.proofs.Settled.{kinds_all, kinds_more_at}
use Rattle.type_infer.proofs.Overs.{kind_over_at}
use Rattle.type_infer.proofs.settling.settled_kinds.Goals as goal

pub settle_kind-requires : goal.settle_kind-requires
settle_kind-requires c = record { over = kind_over_at c.args.subst.now c.args.kinds.now c.loop-kind.kind-index _ c.loop-kind-test.true c.requires.over }

pub loop-kind-preserved : goal.loop-kind-preserved
loop-kind-preserved c = kinds_more_at c.args.subst.now c.args.kinds.now c.loop-kind.kind-index _ c.settle_kind.result c.loop-kind.settled c.push.new.self c.loop-kind-test.true c.loop-kind.invariant c.settle_kind.ensures c.in_ok-push.ensures.added

pub returns : goal.returns
returns c = kinds_all c.args.subst.now c.args.kinds.now c.loop-kind.kind-index c.loop-kind.settled c.loop-kind-test.false c.loop-kind.invariant
