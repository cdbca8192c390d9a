use Rattle.std.proofs.Common.{arith}
use Rattle.script_places.proofs.Counts.{all_counted}
use Rattle.script_places.proofs.counting.count.Goals as goal

pub returns-clause-count : goal.returns-clause-count
returns-clause-count c = all_counted c.args.bytes.now c.loop-rest.rest.now c.loop-rest.count c.loop-rest.invariant.0 (grind (arith, c.is_empty.ensures, c.loop-rest-test.false))
