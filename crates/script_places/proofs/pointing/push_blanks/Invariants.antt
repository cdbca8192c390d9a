use Rattle.std.proofs.Common.{◌≡◌, ◌++◌, length}
use Rattle.script_places.specs.Pointing.{blanks_for}
use Rattle.script_places.proofs.pointing.push_blanks.Given as goal

abbrev pub invariant-loop-rest : goal.invariant-loop-rest
invariant-loop-rest l = l.out.items ++ blanks_for l.rest ≡ l.fn.out.items ++ blanks_for l.bytes

abbrev pub decreases-loop-rest : goal.decreases-loop-rest
decreases-loop-rest l = length l.rest
