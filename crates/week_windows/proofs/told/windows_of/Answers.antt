use Rattle.std.proofs.Common.{[], List, ◌∙◌, ap}
use Rattle.std.specs.Prelude.{map}
use Rattle.std.specs.Global.{Vec}
use Rattle.time_pred.specs.View.{view_shared}
use Rattle.week_plan.specs.declared.span.Span.{Span}
use Rattle.week_windows.specs.Windows.{in_all, lengths_of, spans_in}
use Rattle.week_windows.proofs.Takings.{windows_are}
use Rattle.week_windows.proofs.told.windows_of.Goals as goal

pub returns : goal.returns
returns c =
    c.in_ok-all.ensures ∙ ap (λ (l : List (Vec Span)). map (λ spans. in_all (lengths_of (spans_in spans))) l) c.deref.ensures.value
    ∙ windows_are [] (map view_shared c.args.preds.now) c.in_ok-hours.hours.cases.items c.in_ok-hours.ensures.cases
