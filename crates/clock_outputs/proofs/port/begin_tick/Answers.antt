use Rattle.std.proofs.Common.{◌∙◌, arith, ap}
use Rattle.clock_outputs.specs.Ports.{emptied}
use Rattle.clock_outputs.proofs.Mapped.{mapped_more}
use Rattle.clock_outputs.proofs.port.begin_tick.Goals as goal

pub loop-k-preserved : goal.loop-k-preserved
loop-k-preserved c =
    mapped_more emptied c.args.ports.now.items c.loop-k.ports.items c.loop-k.k c.index_mut.result.now _ (omega arith) c.loop-k.invariant
    (c.begin.ensures ∙ ap emptied c.index_mut.ensures.value)
