use Rattle.std.proofs.Common.{◌≡◌, ◌++◌, length, map, take, drop}
use Rattle.clock_outputs.specs.Feeds.{fed}
use Rattle.clock_ticks.specs.Hearings.{segment_of}
use Rattle.clock_ticks.proofs.heard.feed_all.Given as goal

abbrev pub invariant-loop-k : goal.invariant-loop-k
invariant-loop-k l = record {
  sizes : length l.feeds.items ≡ length l.initial.feeds.items;
  are : l.feeds.items ≡ map (λ feed. fed feed (segment_of l.clocks l.many feed.node)) (take l.k l.initial.feeds.items) ++ drop l.k l.initial.feeds.items;
}
