use Rattle.std.proofs.Common.{List, subst, ℕ}
use Rattle.general_types.specs.Holding.{IsHeldBy}
use Rattle.type_infer.specs.Later.{terms_since}
use Rattle.type_infer.proofs.statements.catch_up.Goals as goal

pub returns-clause-held : goal.returns-clause-held
returns-clause-held c = λ s types f o.
    subst (λ (ns : List ℕ). IsHeldBy c.args.subst.now (terms_since ns types) c.add_values.new.held) c.deref.ensures.value (c.in_ok-add_values.ensures types (c.in_ok-renew.ensures.held s types f o))
