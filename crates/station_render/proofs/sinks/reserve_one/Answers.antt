use Rattle.station_render.proofs.Lists.{kept, has_place, on_ok}
use Rattle.station_render.proofs.sinks.reserve_one.Goals as goal

pub returns-clause-same : goal.returns-clause-same
returns-clause-same g c = kept c.args.groups.now.items c.args.clock c.index_mut.result.now c.reserve.new.self c.index_mut.ensures.value c.requires c.reserve.ensures.items

pub returns-clause-place : goal.returns-clause-place
returns-clause-place g c = on_ok c.reserve.result _ _ (has_place c.args.groups.now.items c.args.clock c.reserve.new.self c.requires) c.reserve.ensures.ok
