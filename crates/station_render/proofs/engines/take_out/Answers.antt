use Rattle.std.proofs.Common.{◌∙◌, ap, set}
use Rattle.std.specs.Prelude.{Vec}
use Rattle.std.specs.declared.alloc.Global.{Global}
use Rattle.station_render.specs.Sinks.{lists_of}
use Rattle.station_render.proofs.Lists.{list_set}
use Rattle.station_render.proofs.engines.take_out.Goals as goal

pub returns-clause-left : goal.returns-clause-left
returns-clause-left g c =
    list_set c.args.groups.now.items c.args.clock c.replace.new.dest
    ∙ ap (λ (group : Vec g.row.O.Denot Global). set (lists_of c.args.groups.now.items) c.args.clock group.items) c.replace.ensures.after
    ∙ ap (set (lists_of c.args.groups.now.items) c.args.clock) c.new.ensures.items
