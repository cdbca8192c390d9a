use Rattle.std.proofs.Common.{◌<◌, length, arith, refl}
use Rattle.trace_turns.specs.contracts.told.ToldBuffer.{the_view}
use Rattle.trace_turns.proofs.Letting.{count_next, go_more}
use Rattle.trace_turns.proofs.told.ToldBuffer.let_go.Goals as goal

pub loop-self-preserved : goal.loop-self-preserved
loop-self-preserved c =
    let i = c.loop-self.invariant in
    let less = c.loop-self-test.true in
    let some : 0 < length c.loop-self.self-inside.held.items = (let got = i.got_low in let count = i.count in omega (arith, less, got, count)) in
    let counts = count_next c.loop-self.self-inside.gone c.loop-self.self-inside.put c.loop-self.self-inside.held.items c.pop_front.new.self.items i.count c.pop_front.ensures.rest some in
    record {
      go = go_more _ (the_view c.loop-self.self-inside) c.loop-self.self-inside.held.items c.pop_front.new.self.items refl c.pop_front.ensures.rest some less i.read i.go;
      read = i.read;
      put_low = i.put_low;
      take_low = i.take_low;
      got_low = i.got_low;
      opened_low = i.opened_low;
      count = counts.0;
      size = counts.1;
    }
