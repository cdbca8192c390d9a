use Rattle.std.proofs.Common.{◌≡◌, ◌<◌, ◌≤◌, ◌^◌, ℕ, length, get_or}
use Rattle.week_plan.specs.Tables.{is_set, joined}
use Rattle.week_plan.proofs.table.join.Given as goal

abbrev pub invariant-loop-k : goal.invariant-loop-k
invariant-loop-k l = record {
  size : length l.into ≡ 10080;
  small : (j : ℕ) → get_or l.into j 0 < 2 ^ 60;
  done : (j : ℕ) → j < l.k → (second : ℕ) → second < 60
      → is_set (get_or l.into j 0) second ≡ joined l.way (is_set (get_or l.fn.into j 0) second) (is_set (get_or l.other j 0) second);
  rest : (j : ℕ) → l.k ≤ j → get_or l.into j 0 ≡ get_or l.fn.into j 0;
}
