use Rattle.std.proofs.Common.{◌≡◌, [], All, length}
use Rattle.clock_ticks.proofs.cues.cues_of.Given as goal

abbrev pub invariant-loop : goal.invariant-loop
invariant-loop l = record {
  size : length l.lists.items ≡ l.counter;
  none : All (λ list. list.marks.items ≡ []) l.lists.items;
}
