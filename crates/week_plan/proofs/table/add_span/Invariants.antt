use Rattle.std.proofs.Common.{◌≡◌, ◌<◌, ◌≤◌, ◌*◌, ◌^◌, ◌||◌, ◌&&◌, ℕ, length, get_or}
use Rattle.std.specs.Prelude.{nat_le, nat_lt}
use Rattle.week_plan.specs.Tables.{is_told}
use Rattle.week_plan.proofs.table.add_span.Given as goal

abbrev pub invariant-loop-k : goal.invariant-loop-k
invariant-loop-k l = record {
  size : length l.into ≡ 10080;
  small : (j : ℕ) → get_or l.into j 0 < 2 ^ 60;
  done : (at : ℕ) → at < 60 * l.k → is_told l.into at ≡ (is_told l.fn.into at || (nat_le l.from at && nat_lt at l.to));
  rest : (j : ℕ) → l.k ≤ j → get_or l.into j 0 ≡ get_or l.fn.into j 0;
}
