use Rattle.std.proofs.Common.{◌∙◌, length, ap, subst}
use Rattle.station_render.specs.Sinks.{AreAllEmpty, lists_of}
use Rattle.station_render.proofs.Lists.{last_empty, front_empty, popped}
use Rattle.station_render.proofs.close.end_all.Goals as goal

pub destroy_empty-requires : goal.destroy_empty-requires
destroy_empty-requires g c =
    let parts = popped c.loop-group.groups.items c.pop.new.self.items c.in-Some.group c.in-Some.ensures.items in
    c.in-Some.group.ok.0 ∙ ap length (last_empty (lists_of c.pop.new.self.items) c.in-Some.group.items (subst (λ gs. AreAllEmpty gs) parts c.loop-group.invariant))

pub loop-group-preserved : goal.loop-group-preserved
loop-group-preserved g c =
    let parts = popped c.loop-group.groups.items c.pop.new.self.items c.in-Some.group c.in-Some.ensures.items in
    front_empty (lists_of c.pop.new.self.items) c.in-Some.group.items (subst (λ gs. AreAllEmpty gs) parts c.loop-group.invariant)
