use Rattle.std.proofs.Common.{subst}
use Rattle.type_terms.specs.Table.{IsSound}
use Rattle.type_terms.proofs.subst.Subst.is_sound.Goals as goal

pub returns : goal.returns
returns c = subst IsSound c.self.view_is c.self.invariant.whole.sound
