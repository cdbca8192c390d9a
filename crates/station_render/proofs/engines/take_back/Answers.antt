use Rattle.std.proofs.Common.{◌≡◌, ◌∙◌, sym, subst}
use Rattle.std.specs.Prelude.{IfOk}
use Rattle.stations.specs.Streams.{counts_in}
use Rattle.station_render.specs.Sinks.{lists_of}
use Rattle.station_render.specs.Engines.{ArePast, outs_of}
use Rattle.station_render.proofs.Pools.{pool_all}
use Rattle.station_render.proofs.Pooling.{outs_many}
use Rattle.station_render.proofs.engines.take_back.Goals as goal

pub tell-told-requires-clause-stand : goal.tell-told-requires-clause-stand
tell-told-requires-clause-stand g c = λ done.
    let stand = c.requires.stand done in
    (stand.0, stand.1, stand.2, stand.3, stand.4, subst (λ es. ArePast stand.0 stand.1 stand.2 es) (sym c.deref.ensures.value) stand.5)

pub returns-clause-back : goal.returns-clause-back
returns-clause-back g c =
    c.give_back.ensures ∙ pool_all (outs_of c.args.engines.items) (lists_of c.args.groups.now.items) (outs_many c.args.engines.items ∙ sym c.requires.many)

pub returns-clause-gaps : goal.returns-clause-gaps
returns-clause-gaps g c =
    subst (λ es. IfOk c.tell-told.result (λ rendered. (setting world : _) (ticks : _) → setting.plan ≡ c.args.job.now.plan → setting.clocks ≡ c.args.job.now.ready.clocks.of → ArePast setting world ticks es
    → rendered.gaps.items ≡ counts_in world ticks c.args.job.now.plan.sinks)) c.deref.ensures.value c.tell-told.ensures.gaps
