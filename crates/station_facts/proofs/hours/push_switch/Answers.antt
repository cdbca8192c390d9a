use Rattle.std.proofs.Common.{◌∙◌, List, ap}
use Rattle.std.specs.Prelude.{map, []}
use Rattle.std.specs.Global.{Vec}
use Rattle.time_pred.specs.Predicates.{Predicate}
use Rattle.time_pred.specs.View.{view_shared}
use Rattle.week_plan.specs.declared.span.Span.{Span}
use Rattle.week_windows.specs.Windows.{case_spans, hole_spans, spans_in}
use Rattle.station_facts.specs.Hours.{switch_of}
use Rattle.station_facts.proofs.Each.{adds_same}
use Rattle.station_facts.proofs.hours.push_switch.Goals as goal

pub returns-clause-told : goal.returns-clause-told
returns-clause-told c =
    let again = c.in_ok-hours_again.ensures in
    adds_same c.in_ok-push_hours.ensures
    (ap (λ (cases : List (List Span)). switch_of c.args.most c.args.number cases c.deref-2.result.now c.args.at)
    (ap (λ (cases : List (Vec Span)). map spans_in cases) c.deref.ensures.value ∙ again.known.cases ∙ ap (λ (ps : List Predicate). case_spans [] ps) again.preds)
    ∙ ap (λ (none : List Span). switch_of c.args.most c.args.number (case_spans [] (map view_shared c.args.preds.now)) none c.args.at)
    (c.deref-2.ensures.value ∙ c.in_ok-none.ensures ∙ ap hole_spans again.preds))
