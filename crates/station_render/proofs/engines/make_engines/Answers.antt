use Rattle.std.proofs.Common.{rules, arith, ◌≡◌, ◌+◌, ◌∙◌, ◌++◌, ◌∷◌, [], length, sym, vec_len}
use Rattle.station_render.specs.Sinks.{lists_of}
use Rattle.station_render.specs.Engines.{outs_of}
use Rattle.station_render.specs.Runs.{setting_by}
use Rattle.station_render.proofs.Lists.{lists_many}
use Rattle.station_render.proofs.Pools.{pool_all}
use Rattle.station_render.proofs.Pooling.{outs_many, taking_at, taking_count, taking_empty, taking_keeping, taking_left, taking_many, taking_pool}
use Rattle.station_render.proofs.engines.make_engines.Goals as goal

pub loop-clock-preserved : goal.loop-clock-preserved
loop-clock-preserved g c =
    let items : c.push_reserved.new.self.items ≡ c.loop-clock.engines.items ++ c.in-Ok.engine ∷ [] = c.push_reserved.ensures.items in
    let len : vec_len c.push_reserved.new.self ≡ vec_len c.loop-clock.engines + 1 = search rules in
    let size = taking_many c.loop-clock.engines.items c.push_reserved.new.self.items c.in-Ok.engine (lists_of c.loop-clock.groups.items) (lists_of c.make_engine.new.groups.items) c.loop-clock.clock
    items c.loop-clock.invariant.count c.in-Ok.ensures.outs c.in-Ok.ensures.taken in
    record {
      made = taking_at c.loop-clock.engines.items c.push_reserved.new.self.items c.in-Ok.engine (lists_of c.loop-clock.groups.items) (lists_of c.make_engine.new.groups.items) c.loop-clock.clock
          items c.loop-clock.invariant.count c.in-Ok.ensures.outs c.in-Ok.ensures.taken (setting_by c.args.job.now)
          c.loop-clock.invariant.made c.in-Ok.ensures.made;
      keeping = taking_keeping c.args.job.now.cues c.loop-clock.engines.items c.push_reserved.new.self.items c.in-Ok.engine items c.loop-clock.invariant.keeping c.in-Ok.ensures.keeping;
      count = taking_count c.loop-clock.engines.items c.push_reserved.new.self.items c.in-Ok.engine (lists_of c.loop-clock.groups.items) (lists_of c.make_engine.new.groups.items) c.loop-clock.clock
          items c.loop-clock.invariant.count c.in-Ok.ensures.outs c.in-Ok.ensures.taken;
      len = omega (arith, len, c.loop-clock.invariant.len);
      room = omega (arith, c.push_reserved.ensures.capacity, c.loop-clock.invariant.room);
      size = size ∙ c.loop-clock.invariant.size;
      empty = taking_empty c.loop-clock.engines.items c.push_reserved.new.self.items c.in-Ok.engine (lists_of c.loop-clock.groups.items) (lists_of c.make_engine.new.groups.items) c.loop-clock.clock
          items c.loop-clock.invariant.count c.in-Ok.ensures.outs c.in-Ok.ensures.taken c.loop-clock.invariant.empty;
      pool = taking_pool c.loop-clock.engines.items c.push_reserved.new.self.items c.in-Ok.engine (lists_of c.loop-clock.groups.items) (lists_of c.make_engine.new.groups.items) c.loop-clock.clock
          items c.loop-clock.invariant.count c.in-Ok.ensures.outs c.in-Ok.ensures.taken ∙ c.loop-clock.invariant.pool;
      left = λ m group above at. c.loop-clock.invariant.left m group (omega (arith, above))
          (taking_left c.loop-clock.engines.items c.push_reserved.new.self.items c.in-Ok.engine (lists_of c.loop-clock.groups.items) (lists_of c.make_engine.new.groups.items) c.loop-clock.clock
          items c.loop-clock.invariant.count c.in-Ok.ensures.outs c.in-Ok.ensures.taken m group above at);
    }

pub returns-clause-outs : goal.returns-clause-outs
returns-clause-outs g c =
    let end : c.loop-clock.clock ≡ c.len-clock-end.result = search (rules, arith) in
    let all : c.len-clock-end.result ≡ length (lists_of c.args.groups.now.items) = c.len-clock-end.ensures ∙ c.args.groups.now.ok.0 ∙ sym (lists_many c.args.groups.now.items) in
    let many : length (outs_of c.loop-clock.engines.items) ≡ length (lists_of c.loop-clock.groups.items) =
    outs_many c.loop-clock.engines.items ∙ c.loop-clock.invariant.count ∙ end ∙ all ∙ sym c.loop-clock.invariant.size in
    sym (pool_all (outs_of c.loop-clock.engines.items) (lists_of c.loop-clock.groups.items) many) ∙ c.loop-clock.invariant.pool
