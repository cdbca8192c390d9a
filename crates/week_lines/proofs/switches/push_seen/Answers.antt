use Rattle.std.proofs.Common.{◌++◌, ◌∙◌, List, ap}
use Rattle.week_plan.specs.declared.cases.Fate.{Fate}
use Rattle.week_plan.specs.declared.span.Span.{Span}
use Rattle.week_lines.specs.Weeks.{fates_text, holes_text}
use Rattle.week_lines.proofs.Chains.{two}
use Rattle.week_lines.proofs.switches.push_seen.Goals as goal

pub returns-clause-text : goal.returns-clause-text
returns-clause-text c = (
  c.in_ok-spans.spans.items,
  rw c.deref.ensures.value at c.in_ok-spans.ensures,
  c.is_daily.result,
  rw c.deref-3.ensures.value at c.is_daily.ensures,
  two _ _ _ _ _
      (c.in_ok-push_holes.ensures
      ∙ ap (λ (spans : List Span). c.args.into.now.items ++ holes_text c.args.switch.number spans c.is_daily.result c.args.switch.instead c.args.switch.sensitive c.args.switch.below) c.deref-2.ensures.value)
      (c.in_ok-push_cases.ensures ∙ ap (λ (fates : List Fate). c.push_holes.new.into.items ++ fates_text c.args.switch.number 0 fates) c.deref-4.ensures.value),
)
