-- What is drawn and listed of a plan.
use Rattle.std.proofs.Common.{ℕ}
use Rattle.std.specs.Prelude.{Option, Result, Ok, Err, IfOk, Vec}
use Rattle.std.specs.declared.alloc.Global.{Global}
use Rattle.about_cli.specs.Told.{IsDrawn, IsRefused, IsWeekOf}
use Rattle.fallible_infer.specs.Infallible.{mark_at}
use Rattle.plan_core.specs.declared.plan.Plan.{Plan}
use Rattle.plan_picture.specs.Pictures.{IsPicture}
use Rattle.station_facts.specs.Plans.{IsInferred}
use Rattle.station_facts.specs.declared.inferred.Inferred.{Inferred}
use Rattle.week_lines.specs.Weeks.{IsWeek}

pub draws : {E : Type 0} (plan : Plan) (inferred : Inferred) (refused : Option ℕ) (r : Result (Vec ℕ Global) E) → IsInferred plan inferred
    → IsRefused plan (mark_at inferred.marks.items) refused
    → IfOk r (λ text. IsPicture plan (mark_at inferred.marks.items) refused inferred.clocks text.items)
    → IfOk r (λ told. IsDrawn plan told.items)
draws plan inferred refused (Ok text) is_inferred is_refused picture =
    record { inferred = inferred; is_inferred = is_inferred; refused = refused; is_refused = is_refused; picture = picture }
draws plan inferred refused (Err e) is_inferred is_refused picture = tt

pub lists_week : {E : Type 0} (plan : Plan) (inferred : Inferred) (r : Result (Vec ℕ Global) E) → IsInferred plan inferred
    → IfOk r (λ text. IsWeek plan (mark_at inferred.marks.items) text.items) → IfOk r (λ told. IsWeekOf plan told.items)
lists_week plan inferred (Ok text) is_inferred lines = record { inferred = inferred; is_inferred = is_inferred; lines = lines }
lists_week plan inferred (Err e) is_inferred lines = tt
