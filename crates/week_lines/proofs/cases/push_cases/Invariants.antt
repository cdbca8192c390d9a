use Rattle.std.proofs.Common.{◌≡◌, ◌++◌, drop}
use Rattle.week_lines.specs.Weeks.{fates_text}
use Rattle.week_lines.proofs.cases.push_cases.Given as goal

abbrev pub invariant-loop-case : goal.invariant-loop-case
invariant-loop-case l = l.fn.into.items ++ fates_text l.number 0 l.fates ≡ l.into.items ++ fates_text l.number l.case (drop l.case l.fates)
