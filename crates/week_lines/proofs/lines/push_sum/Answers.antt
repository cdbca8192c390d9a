use Rattle.std.proofs.Common.{◌++◌, ◌∙◌, ℕ, List, ap}
use Rattle.week_lines.proofs.Chains.{four}
use Rattle.week_lines.proofs.Counting.{some_sum}
use Rattle.week_lines.proofs.lines.push_sum.Goals as goal

pub returns : goal.returns
returns c =
    four _ _ _ _ _ _ _ _ _ c.in_ok-push_number.ensures c.in_ok-push_part.ensures c.in_ok-push_part-2.ensures c.in_ok-push_plain.ensures
    ∙ ap (λ (t : List ℕ). c.args.into.now.items ++ t) (some_sum c.args.seconds c.if-seconds-eq0.false)
