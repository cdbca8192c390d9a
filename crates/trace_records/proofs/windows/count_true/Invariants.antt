use Rattle.std.proofs.Common.{◌≡◌, ◌≤◌, ◌+◌, drop}
use Rattle.trace_records.specs.Told.{yes}
use Rattle.trace_records.proofs.windows.count_true.Given as goal

abbrev pub invariant-loop-answer : goal.invariant-loop-answer
invariant-loop-answer l = record {
  so_far : yes l.answers ≡ l.count + yes (drop l.answer-index l.answers);
  most : l.count ≤ l.answer-index;
}
