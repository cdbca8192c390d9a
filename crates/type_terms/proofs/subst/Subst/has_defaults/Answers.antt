use Rattle.std.proofs.Common.{subst}
use Rattle.type_terms.specs.Table.{IsSound}
use Rattle.type_terms.proofs.Defaults.{defaults}
use Rattle.type_terms.proofs.subst.Subst.has_defaults.Goals as goal

pub returns : goal.returns
returns c = defaults c.args.self.now (subst IsSound c.self.view_is c.self.invariant.whole.sound)
