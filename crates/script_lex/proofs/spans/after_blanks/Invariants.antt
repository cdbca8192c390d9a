use Rattle.std.proofs.Common.{◌≡◌, ◌≤◌, length, false}
use Rattle.script_lex.specs.Tokens.{between}
use Rattle.script_lex.proofs.spans.after_blanks.Given as goal

abbrev pub invariant-loop-rest : goal.invariant-loop-rest
invariant-loop-rest l = record { rest : between l.inside l.rest ≡ between false l.bytes; shorter : length l.rest ≤ length l.bytes }

abbrev pub decreases-loop-rest : goal.decreases-loop-rest
decreases-loop-rest l = length l.rest
