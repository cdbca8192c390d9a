use Rattle.std.proofs.Common.{◌≡◌, ◌<◌, ◌%◌, ◌^◌, ℕ, length, get_or}
use Rattle.week_plan.proofs.table.repeat.Given as goal

abbrev pub invariant-loop-k : goal.invariant-loop-k
invariant-loop-k l = record {
  size : length l.into ≡ 10080;
  small : (j : ℕ) → get_or l.into j 0 < 2 ^ 60;
  done : (j : ℕ) → j < l.k → get_or l.into j 0 ≡ get_or l.fn.into (j % l.minutes) 0;
}
