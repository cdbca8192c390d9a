use Rattle.std.proofs.Common.{rules, ◌≡◌, ◌∷◌, ◌++◌, [], ◌+◌, vec_len, arith}
use Rattle.station_render.proofs.Lists.{one_more}
use Rattle.station_render.proofs.sinks.no_sinks.Goals as goal

pub loop-clock-preserved : goal.loop-clock-preserved
loop-clock-preserved g c =
    let items : c.push.new.self.items ≡ c.loop-clock.groups.items ++ c.new.result ∷ [] = search rules in
    let len : vec_len c.push.new.self ≡ vec_len c.loop-clock.groups + 1 = search rules in
    record {
      empty = one_more c.loop-clock.groups.items c.loop-clock._clock c.push.new.self.items c.new.result c.loop-clock.invariant.empty c.new.ensures.items items;
      len = omega (arith, len, c.loop-clock.invariant.len);
      room = omega (arith, c.push.ensures.capacity, c.loop-clock.invariant.room);
    }
