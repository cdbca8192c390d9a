use Rattle.std.proofs.Common.{◌∙◌, not}
use Rattle.std.specs.Prelude.{map}
use Rattle.time_pred.specs.View.{view_shared}
use Rattle.week_plan.specs.Spans.{some_case_holds}
use Rattle.week_plan.specs.Tables.{is_told}
use Rattle.week_windows.proofs.Seconds.{same_week}
use Rattle.week_windows.proofs.known.known_holes.Goals as goal

pub holes_of-requires : goal.holes_of-requires
holes_of-requires c = c.requires.none.table

pub returns : goal.returns
returns c =
    c.in_ok-spans.ensures
    ∙ same_week (is_told c.args.known.now.hours.none.items) (λ at. not (some_case_holds (map view_shared c.args.known.now.preds.now) at))
    (λ at low. c.requires.none.same at low)
