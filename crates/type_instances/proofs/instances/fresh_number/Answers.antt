use Rattle.type_instances.proofs.NewTypes.{grows_type}
use Rattle.type_instances.proofs.instances.fresh_number.Goals as goal

pub returns-clause-grows : goal.returns-clause-grows
returns-clause-grows c = grows_type _ _ _ _ c.in_ok-next.ensures.free
