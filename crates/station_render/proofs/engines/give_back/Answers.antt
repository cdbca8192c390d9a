use Rattle.std.proofs.Common.{◌≡◌, ◌∙◌, length}
use Rattle.station_render.specs.Sinks.{lists_of}
use Rattle.station_render.proofs.Pooling.{giving_empty, giving_few, giving_here, giving_pool}
use Rattle.station_render.proofs.engines.give_back.Goals as goal

pub loop-engine-preserved : goal.loop-engine-preserved
loop-engine-preserved g c =
    let place : c.len.result ≡ length c.pop.new.self.items = c.len.ensures ∙ c.pop.new.self.ok.0 in
    record {
      few = giving_few c.loop-engine.engines.items c.pop.new.self.items c.in-Some.engine (lists_of c.loop-engine.groups.items) (lists_of c.put_back.new.groups.items) c.into_outs.result.items c.len.result
          c.in-Some.ensures.items c.into_outs.ensures place c.put_back.ensures c.loop-engine.invariant.few;
      empty = giving_empty c.loop-engine.engines.items c.pop.new.self.items c.in-Some.engine (lists_of c.loop-engine.groups.items) (lists_of c.put_back.new.groups.items) c.into_outs.result.items c.len.result
          c.in-Some.ensures.items c.into_outs.ensures place c.put_back.ensures c.loop-engine.invariant.few c.loop-engine.invariant.empty;
      pool = giving_pool c.loop-engine.engines.items c.pop.new.self.items c.in-Some.engine (lists_of c.loop-engine.groups.items) (lists_of c.put_back.new.groups.items) c.into_outs.result.items c.len.result
          c.in-Some.ensures.items c.into_outs.ensures place c.put_back.ensures c.loop-engine.invariant.few _ c.loop-engine.invariant.pool;
    }

pub put_back-requires : goal.put_back-requires
put_back-requires g c =
    giving_here c.loop-engine.engines.items c.pop.new.self.items c.in-Some.engine (lists_of c.loop-engine.groups.items) c.len.result c.in-Some.ensures.items
    (c.len.ensures ∙ c.pop.new.self.ok.0) c.loop-engine.invariant.few c.loop-engine.invariant.empty
