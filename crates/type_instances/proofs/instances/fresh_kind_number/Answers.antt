use Rattle.type_instances.proofs.NewKinds.{grows_kind}
use Rattle.type_instances.proofs.instances.fresh_kind_number.Goals as goal

pub returns-in-Var-clause-grows : goal.returns-in-Var-clause-grows
returns-in-Var-clause-grows c = grows_kind _ _ _ c.in_ok-next.ensures.free
