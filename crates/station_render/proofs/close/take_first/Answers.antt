use Rattle.station_render.proofs.Lists.{was_taken}
use Rattle.station_render.proofs.close.take_first.Goals as goal

pub returns : goal.returns
returns g c = was_taken c.args.groups.now.items c.args.clock c.index_mut.result.now c.remove.new.self c.remove.result c.requires.0 c.requires.1 c.index_mut.ensures.value c.requires.2 c.remove.ensures.value c.remove.ensures.items
