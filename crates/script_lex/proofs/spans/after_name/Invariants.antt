use Rattle.std.proofs.Common.{◌≡◌, ◌≤◌, length}
use Rattle.script_lex.specs.Reading.{after_name}
use Rattle.script_lex.proofs.spans.after_name.Given as goal

abbrev pub invariant-loop-rest : goal.invariant-loop-rest
invariant-loop-rest l = record { rest : after_name l.rest ≡ after_name l.bytes; shorter : length l.rest ≤ length l.bytes }

abbrev pub decreases-loop-rest : goal.decreases-loop-rest
decreases-loop-rest l = length l.rest
