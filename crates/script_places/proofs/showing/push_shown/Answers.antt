use Rattle.std.proofs.Common.{arith}
use Rattle.script_places.proofs.Shows.{all_shown}
use Rattle.script_places.proofs.showing.push_shown.Goals as goal

pub returns : goal.returns
returns c = all_shown c.loop-rest.out.items c.loop-rest.rest.now _ (grind (arith, c.is_empty.ensures, c.loop-rest-test.false)) c.loop-rest.invariant
