use Rattle.std.proofs.Common.{◌∙◌, ap, sym}
use Rattle.fixed_text.specs.declared.time_mark.TimeMark.{TimeMark}
use Rattle.time_pred.specs.Predicates.{Between}
use Rattle.time_pred.specs.View.{view_pred}
use Rattle.week_plan.proofs.same.is_interval.Goals as goal

pub returns-in-Between : goal.returns-in-Between
returns-in-Between c = λ yes.
    ap (λ (m : TimeMark). Between m c.args.to) (c.is_both.ensures.from yes) ∙ ap (λ (m : TimeMark). Between c.in-Between.since m) (c.is_both.ensures.to yes)
    ∙ ap view_pred (sym c.in-Between.is)
