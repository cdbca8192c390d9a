use Rattle.std.proofs.Common.{◌∙◌, sym}
use Rattle.time_pred.specs.View.{view_pred}
use Rattle.time_pred.proofs.Forms.{always_holds}
use Rattle.time_pred.proofs.pred.Pred.always.Goals as goal

pub returns-clause-sound : goal.returns-clause-sound
returns-clause-sound c = λ yes at. always_holds (view_pred c.args.self.now) at (sym c.is_always.ensures ∙ yes)
