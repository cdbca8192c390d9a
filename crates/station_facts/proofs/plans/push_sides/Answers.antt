use Rattle.std.proofs.lemmas.Option.{slice_get_past}
use Rattle.station_facts.proofs.Each.{nothing}
use Rattle.station_facts.proofs.plans.push_sides.Goals as goal

pub returns-in-None : goal.returns-in-None
returns-in-None c = rw (slice_get_past c.args.nodes.now c.args.node c.in-None.ensures.lookup.3) (nothing c.args.out.now)
