use Rattle.std.proofs.Common.{◌<◌, ◌∙◌, suc, length, arith, ap, subst, sym}
use Rattle.std.proofs.Math.ListN.{length-set}
use Rattle.clock_outputs.specs.declared.feed.FeedPort.{FeedPort}
use Rattle.clock_outputs.specs.Feeds.{HasFeedRoom, fed}
use Rattle.clock_outputs.proofs.Mapped.{mapped_more}
use Rattle.clock_ticks.specs.Hearings.{segment_of}
use Rattle.clock_ticks.proofs.Hearing.{still_there}
use Rattle.clock_ticks.proofs.heard.feed_all.Goals as goal

pub feed_one-requires-clause-within : goal.feed_one-requires-clause-within
feed_one-requires-clause-within c =
    let k = c.loop-k.k in
    let before : k < length c.args.feeds.now.items = (let sizes = c.loop-k.invariant.sizes in omega (arith, sizes, c.loop-k-test.true)) in
    let is = still_there (λ (feed : FeedPort). fed feed (segment_of c.args.clocks.now c.args.many feed.node)) c.args.feeds.now.items c.loop-k.feeds.items k c.index_mut.result.now c.loop-k.invariant.are c.index_mut.ensures.value before in
    subst (λ (feed : FeedPort). feed.node < c.args.nodes) (sym is) (c.requires.within k c.index_mut.result.now before)

pub feed_one-requires-clause-room : goal.feed_one-requires-clause-room
feed_one-requires-clause-room c =
    let k = c.loop-k.k in
    let before : k < length c.args.feeds.now.items = (let sizes = c.loop-k.invariant.sizes in omega (arith, sizes, c.loop-k-test.true)) in
    let is = still_there (λ (feed : FeedPort). fed feed (segment_of c.args.clocks.now c.args.many feed.node)) c.args.feeds.now.items c.loop-k.feeds.items k c.index_mut.result.now c.loop-k.invariant.are c.index_mut.ensures.value before in
    subst (λ (feed : FeedPort). HasFeedRoom (suc c.args.many) feed) (sym is) (c.requires.room k c.index_mut.result.now before)

pub loop-k-preserved : goal.loop-k-preserved
loop-k-preserved c =
    let k = c.loop-k.k in
    let before : k < length c.args.feeds.now.items = (let sizes = c.loop-k.invariant.sizes in omega (arith, sizes, c.loop-k-test.true)) in
    let heard : FeedPort → FeedPort = λ feed. fed feed (segment_of c.args.clocks.now c.args.many feed.node) in
    record {
      sizes = length-set _ _ _ ∙ c.loop-k.invariant.sizes;
      are = mapped_more heard c.args.feeds.now.items c.loop-k.feeds.items k c.index_mut.result.now _ before c.loop-k.invariant.are (c.feed_one.ensures ∙ ap heard c.index_mut.ensures.value);
    }
