use Rattle.std.proofs.Common.{◌≡◌, ◌≤◌}
use Rattle.week_plan.specs.Tables.{how_many, is_told}
use Rattle.week_plan.proofs.table.seconds_told.Given as goal

abbrev pub invariant-loop-at : goal.invariant-loop-at
invariant-loop-at l = record { within : l.seconds ≤ l.at; is : l.seconds ≡ how_many (is_told l.words) l.at }
