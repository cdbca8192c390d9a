use Rattle.std.proofs.Common.{refl}
use Rattle.liq_base.proofs.shelf.Shelf.look.Goals as goal

pub returns-in-Found-clause-otherwise : goal.returns-in-Found-clause-otherwise
returns-in-Found-clause-otherwise g c never = absurd (never _ refl)
