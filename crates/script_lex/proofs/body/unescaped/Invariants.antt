use Rattle.std.proofs.Common.{◌≡◌, ◌++◌, length}
use Rattle.script_lex.specs.Reading.{unescaped}
use Rattle.script_lex.proofs.body.unescaped.Given as goal

abbrev pub invariant-loop-rest : goal.invariant-loop-rest
invariant-loop-rest l = l.made.items ++ unescaped l.rest ≡ unescaped l.body

abbrev pub decreases-loop-rest : goal.decreases-loop-rest
decreases-loop-rest l = length l.rest
