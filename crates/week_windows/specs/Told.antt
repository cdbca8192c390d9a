-- The windows of cases that are kept.
use Rattle.std.specs.Prelude.{◌≡◌, [], map}
use Rattle.time_pred.specs.View.{view_shared}
use Rattle.week_windows.specs.Windows.{case_windows}
use Rattle.week_windows.specs.declared.told.ToldCases.{ToldCases}

-- The windows that are kept for the cases of a switch are right. A window of a case is a stretch of seconds of the week
-- at which it is the first that holds; kept are their number, the shortest and the longest.
abbrev pub IsTold : ToldCases → Type 0
IsTold told = told.windows.items ≡ case_windows [] (map view_shared told.preds.now)
