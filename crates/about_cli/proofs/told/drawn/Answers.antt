use Rattle.std.proofs.Common.{Bool, List, subst}
use Rattle.std.specs.Prelude.{IfOk}
use Rattle.about_cli.specs.Told.{IsRefused}
use Rattle.fallible_infer.specs.Infallible.{mark_at}
use Rattle.plan_picture.specs.Pictures.{IsPicture}
use Rattle.about_cli.proofs.Drawing.{draws}
use Rattle.about_cli.proofs.told.drawn.Goals as goal

pub returns : goal.returns
returns c =
    let plan = c.args.plan.now in
    let inferred = c.in_ok-inferred.inferred in
    let refused = c.refused_output-refused.result in
    draws plan inferred refused c.picture.result c.in_ok-inferred.ensures
    (subst (λ (m : List Bool). IsRefused plan (mark_at m) refused) c.deref.ensures.value c.refused_output-refused.ensures)
    (subst (λ (m : List Bool). IfOk c.picture.result (λ text. IsPicture plan (mark_at m) refused inferred.clocks text.items)) c.deref-2.ensures.value c.picture.ensures)
