use Rattle.std.proofs.Common.{arith}
use Rattle.script_places.proofs.Counts.{all_blank}
use Rattle.script_places.proofs.pointing.push_blanks.Goals as goal

pub returns : goal.returns
returns c = all_blank c.loop-rest.out.items c.loop-rest.rest.now _ (grind (arith, c.is_empty.ensures, c.loop-rest-test.false)) c.loop-rest.invariant
