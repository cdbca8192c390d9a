use Rattle.std.proofs.Common.{◌≡◌, ◌+◌, take, count_by, not}
use Rattle.buffer_ends.specs.Local.{yes}
use Rattle.trace_replay.proofs.logs.count_answers.Given as goal

abbrev pub invariant-loop-answer : goal.invariant-loop-answer
invariant-loop-answer l = record {
  yes : l.true_ones ≡ count_by yes (take l.answer-index l.answers);
  no : l.others ≡ count_by not (take l.answer-index l.answers);
  both : l.true_ones + l.others ≡ l.answer-index;
}
