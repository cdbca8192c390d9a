use Rattle.std.proofs.Common.{◌≡◌, ◌≤◌, length}
use Rattle.script_lex.specs.Reading.{body_end}
use Rattle.script_lex.proofs.body.body_end.Given as goal

abbrev pub invariant-loop-rest : goal.invariant-loop-rest
invariant-loop-rest l = record { stop : body_end l.quote l.rest ≡ body_end l.quote l.bytes; shorter : length l.rest ≤ length l.bytes }

abbrev pub decreases-loop-rest : goal.decreases-loop-rest
decreases-loop-rest l = length l.rest
