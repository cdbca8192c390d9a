use Rattle.std.proofs.Common.{◌≡◌, ◌≤◌, length}
use Rattle.script_lex.specs.Reading.{after_digits}
use Rattle.script_lex.proofs.spans.after_digits.Given as goal

abbrev pub invariant-loop-rest : goal.invariant-loop-rest
invariant-loop-rest l = record { rest : after_digits l.rest ≡ after_digits l.bytes; shorter : length l.rest ≤ length l.bytes }

abbrev pub decreases-loop-rest : goal.decreases-loop-rest
decreases-loop-rest l = length l.rest
