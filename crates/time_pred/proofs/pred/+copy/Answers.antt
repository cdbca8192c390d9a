use Rattle.std.proofs.Common.{List, ap, ◌∙◌, sym}
use Rattle.std.specs.Prelude.{map}
use Rattle.time_pred.specs.declared.pred.Pred.{Pred}
use Rattle.time_pred.specs.View.{view_pred}
use Rattle.time_pred.proofs.Rows.{same_all, same_any}
use Rattle.time_pred.proofs.pred.+copy.Goals as goal

pub Pred::copy-returns-in_ok-copies-in-All : goal.Pred::copy-returns-in_ok-copies-in-All
Pred::copy-returns-in_ok-copies-in-All t c = same_all c.in_ok-copies-in-All.field-0 c.in-All.parts (c.in_ok-copies-in-All.ensures ∙ ap (λ (l : List Pred). map view_pred l) c.deref-in-All.ensures.value) ∙ ap view_pred (sym c.in-All.is)

pub Pred::copy-returns-in_ok-copies-in-Any : goal.Pred::copy-returns-in_ok-copies-in-Any
Pred::copy-returns-in_ok-copies-in-Any t c = same_any c.in_ok-copies-in-Any.field-0 c.in-Any.parts (c.in_ok-copies-in-Any.ensures ∙ ap (λ (l : List Pred). map view_pred l) c.deref-in-Any.ensures.value) ∙ ap view_pred (sym c.in-Any.is)
