use Rattle.std.proofs.Common.{◌≡◌, ◌++◌, map, take, drop}
use Rattle.clock_outputs.specs.Feeds.{unfed}
use Rattle.clock_outputs.proofs.feed.begin_feeds.Given as goal

abbrev pub invariant-loop-k : goal.invariant-loop-k
invariant-loop-k l = l.feeds.items ≡ map unfed (take l.k l.initial.feeds.items) ++ drop l.k l.initial.feeds.items
