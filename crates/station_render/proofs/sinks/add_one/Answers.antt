use Rattle.std.proofs.Common.{rules, ◌≡◌, ◌∷◌, ◌++◌, []}
use Rattle.station_render.proofs.Lists.{was_added}
use Rattle.station_render.proofs.sinks.add_one.Goals as goal

pub returns : goal.returns
returns g c =
    let items : c.push.new.self.items ≡ c.index_mut.result.now.items ++ c.args.sink ∷ [] = search rules in
    was_added c.args.groups.now.items c.args.clock c.index_mut.result.now c.push.new.self c.args.sink c.index_mut.ensures.value c.requires.below items
