use Rattle.std.proofs.Common.{◌≡◌, ◌<◌, ℕ, get_or}
use Rattle.std.specs.Prelude.{bit_and}
use Rattle.week_plan.proofs.table.meet.Given as goal

abbrev pub invariant-loop-k : goal.invariant-loop-k
invariant-loop-k l = (j : ℕ) → j < l.k → bit_and (get_or l.one j 0) (get_or l.other j 0) ≡ 0
