use Rattle.std.proofs.lemmas.Option.{slice_get_past}
use Rattle.station_facts.proofs.Each.{nothing}
use Rattle.station_facts.proofs.plans.push_clock_of.Goals as goal

pub returns-in-None : goal.returns-in-None
returns-in-None c = rw (slice_get_past c.args.clocks.now.of c.args.node (rw c.as_slice.ensures at c.in-None.ensures.lookup.3)) (nothing c.args.out.now)
