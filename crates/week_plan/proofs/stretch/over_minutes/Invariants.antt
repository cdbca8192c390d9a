use Rattle.std.proofs.Common.{◌*◌}
use Rattle.week_plan.specs.Spans.{IsFor}
use Rattle.week_plan.specs.Tables.{is_told}
use Rattle.week_plan.proofs.stretch.over_minutes.Given as goal

abbrev pub invariant-loop-k : goal.invariant-loop-k
invariant-loop-k l = IsFor (is_told l.words) l.from (60 * l.k) l.told
