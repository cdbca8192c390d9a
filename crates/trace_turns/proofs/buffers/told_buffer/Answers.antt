use Rattle.std.proofs.Common.{◌≡◌, ◌∙◌, false, List, map, ap}
use Rattle.buffer_ends.specs.Local.{Answers}
use Rattle.trace_records.specs.Clocks.{puts_in, takes_in}
use Rattle.trace_records.specs.Traces.{pair_of}
use Rattle.trace_turns.proofs.Joining.{ends_puts, ends_takes, flat_puts, flat_takes}
use Rattle.trace_turns.proofs.buffers.told_buffer.Goals as goal

pub returns-clause-buffer : goal.returns-clause-buffer
returns-clause-buffer c =
    let w : c.deref.result.now ≡ c.args.log.now = c.deref.ensures.value ∙ c.log.view_is in
    let v : c.deref-2.result.now ≡ c.args.log.now = c.deref-2.ensures.value ∙ c.log.view_is in
    let puts : c.in_ok-puts.puts.items ≡ puts_in (map pair_of c.args.log.now) = c.in_ok-puts.ensures.flat ∙ flat_puts c.deref.result.now ∙ ap (λ (l : List Answers). puts_in (map pair_of l)) w in
    let takes : c.in_ok-takes.takes.items ≡ takes_in (map pair_of c.args.log.now) = c.in_ok-takes.ensures.flat ∙ flat_takes c.deref-2.result.now ∙ ap (λ (l : List Answers). takes_in (map pair_of l)) v in
    let chunks = c.new.ensures.items in
    λ i. record { capacity = c.args.capacity; puts = puts i; takes = takes i; fed = false; read = false; put_at = 0; take_at = 0; got = 0; opened = 0; chunks = chunks i; gone = 0 }

pub returns-clause-ends : goal.returns-clause-ends
returns-clause-ends c =
    let w : c.deref.result.now ≡ c.args.log.now = c.deref.ensures.value ∙ c.log.view_is in
    let v : c.deref-2.result.now ≡ c.args.log.now = c.deref-2.ensures.value ∙ c.log.view_is in
    record {
      puts = ends_puts c.deref.result.now c.args.log.now w c.in_ok-puts.put_ends.items c.in_ok-puts.ensures.ends;
      takes = ends_takes c.deref-2.result.now c.args.log.now v c.in_ok-takes.take_ends.items c.in_ok-takes.ensures.ends;
    }
