use Rattle.type_infer.proofs.Settled.{kind_settled}
use Rattle.type_infer.proofs.settling.settle_kind.Goals as goal

pub returns : goal.returns
returns c = kind_settled c.args.subst.now c.args.kind c.resolved_kind.result c.free_kind.result c.resolved_kind.ensures.unbound c.resolved_kind.ensures.same c.free_kind.ensures
