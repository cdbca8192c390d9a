use Rattle.std.proofs.Common.{Bool, List, subst}
use Rattle.std.specs.Prelude.{IfOk}
use Rattle.fallible_infer.specs.Infallible.{mark_at}
use Rattle.week_lines.specs.Weeks.{IsWeek}
use Rattle.about_cli.proofs.Drawing.{lists_week}
use Rattle.about_cli.proofs.told.listed.Goals as goal

pub returns : goal.returns
returns c =
    let plan = c.args.plan.now in
    lists_week plan c.in_ok-inferred.inferred c.week.result c.in_ok-inferred.ensures
    (subst (λ (m : List Bool). IfOk c.week.result (λ text. IsWeek plan (mark_at m) text.items)) c.deref.ensures.value c.week.ensures)
