use Rattle.std.proofs.Common.{◌∙◌, arith, ap}
use Rattle.clock_outputs.specs.Feeds.{unfed}
use Rattle.clock_outputs.proofs.Mapped.{mapped_more}
use Rattle.clock_outputs.proofs.feed.begin_feeds.Goals as goal

pub loop-k-preserved : goal.loop-k-preserved
loop-k-preserved c =
    mapped_more unfed c.args.feeds.now.items c.loop-k.feeds.items c.loop-k.k c.index_mut.result.now _ (omega arith) c.loop-k.invariant
    (c.begin.ensures ∙ ap unfed c.index_mut.ensures.value)
