use Rattle.std.proofs.Common.{◌≡◌, ◌++◌, length}
use Rattle.script_places.specs.Showing.{shown}
use Rattle.script_places.proofs.showing.push_shown.Given as goal

abbrev pub invariant-loop-rest : goal.invariant-loop-rest
invariant-loop-rest l = l.out.items ++ shown l.rest ≡ l.fn.out.items ++ shown l.bytes

abbrev pub decreases-loop-rest : goal.decreases-loop-rest
decreases-loop-rest l = length l.rest
