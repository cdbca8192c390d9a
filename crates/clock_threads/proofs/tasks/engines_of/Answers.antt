use Rattle.std.proofs.Common.{◌<◌, ◌∙◌, ap, arith, length, map, refl, vec_capacity}
use Rattle.buffer_ends.specs.Local.{closed_windows}
use Rattle.clock_threads.proofs.Making.{unmaking_more}
use Rattle.clock_threads.proofs.Collecting.{collecting_more}
use Rattle.clock_threads.proofs.tasks.engines_of.Goals as goal

pub loop-k-preserved : goal.loop-k-preserved
loop-k-preserved g c =
    let inv = c.loop-k.invariant in
    let less : c.loop-k.k < length c.args.tasks.items = (let all = inv.engines.all in let low = c.loop-k-test.true in omega (arith, all, low)) in
    record {
      engines = unmaking_more c.len-count.result c.loop-k.k c.args.tasks.items c.loop-k.engines.items c.push_reserved.new.self.items (vec_capacity c.loop-k.engines) (vec_capacity c.push_reserved.new.self)
          c.loop-k.tasks.items c.remove-engine.new.self.items c.remove-engine.result c.remove-engine.result.engine inv.engines c.loop-k-test.true
          c.remove-engine.ensures.value c.remove-engine.ensures.by_index.2 c.push_reserved.ensures.items c.push_reserved.ensures.capacity refl;
      logs = collecting_more c.args.wires.now c.loop-k.k c.args.tasks.items c.loop-k.tasks.items c.remove-engine.new.self.items c.args.logs.now c.loop-k.logs c.take_logs.new.logs
          c.remove-engine.result c.into_logs.result.items inv.logs less c.remove-engine.ensures.value c.remove-engine.ensures.by_index.2
          (c.into_logs.ensures ∙ ap (map closed_windows) c.into_parts-local.ensures.0) c.take_logs.ensures;
    }
