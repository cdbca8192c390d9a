-- The hours of switches that are kept.
use Rattle.std.specs.Prelude.{◌≡◌, [], All, map, not}
use Rattle.time_pred.specs.View.{view_shared}
use Rattle.week_plan.specs.Spans.{some_case_holds}
use Rattle.week_plan.specs.Tables.{IsTableOf}
use Rattle.week_windows.specs.Told.{IsTold}
use Rattle.week_windows.specs.Windows.{case_spans, spans_in}
use Rattle.week_windows.specs.declared.known.Known.{Known}

-- What is kept is right. For the cases of the switch looked at last, and of the one before, it has the hours of the
-- week at which each case is the first that holds and those at which none does; and the windows of some lists of
-- cases.
pub record IsKnown (known : Known) : Type 0 where
  pub cases : map spans_in known.hours.cases.items ≡ case_spans [] (map view_shared known.preds.now)
  pub none : IsTableOf (λ at. not (some_case_holds (map view_shared known.preds.now) at)) known.hours.none.items
  pub older_cases : map spans_in known.older.cases.items ≡ case_spans [] (map view_shared known.older_preds.now)
  pub older_none : IsTableOf (λ at. not (some_case_holds (map view_shared known.older_preds.now) at))
      known.older.none.items
  pub told : All IsTold known.told.items
