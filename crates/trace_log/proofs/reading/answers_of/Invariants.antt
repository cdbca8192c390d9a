use Rattle.std.proofs.Common.{◌≡◌, map, take, eqb}
use Rattle.trace_log.proofs.reading.answers_of.Given as goal

abbrev pub invariant-loop-letter : goal.invariant-loop-letter
invariant-loop-letter l = l.answers.items ≡ map (λ x. eqb x l.one) (take l.letter-index l.letters)
