use Rattle.std.proofs.Common.{rules, ◌≡◌, ◌++◌, ◌∷◌, [], ap, arith, length, length-append}
use Rattle.trace_turns.specs.Turns.{base_at}
use Rattle.trace_turns.proofs.Living.{new_more}
use Rattle.trace_turns.proofs.live.make_clocks.Goals as goal

pub loop-clock-preserved : goal.loop-clock-preserved
loop-clock-preserved c =
    let items : c.push_reserved.new.self.items ≡ c.loop-clock.lives.items ++ c.in_ok-live.live ∷ [] = search rules in
    let long = ap (λ l. length l) items in
    let one = length-append c.loop-clock.lives.items (c.in_ok-live.live ∷ []) in
    let size = c.loop-clock.invariant.size in
    record {
      size = omega (arith, long, one, size);
      each = new_more (base_at c.args.station.now) c.loop-clock.lives.items c.push_reserved.new.self.items c.in_ok-live.live c.loop-clock.clock items size c.loop-clock.invariant.each c.in_ok-live.ensures.new;
    }
