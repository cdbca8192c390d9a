use Rattle.std.proofs.Common.{◌≡◌}
use Rattle.clock_outputs.specs.Feeds.{HaveGiven}
use Rattle.clock_outputs.proofs.feed.give_each.Given as goal

abbrev pub invariant-loop-k : goal.invariant-loop-k
invariant-loop-k g l = record {
  buffers : g.T.Taps.buffers l.taps ≡ g.T.Taps.buffers l.initial.taps;
  same : g.T.Taps.same l.initial.taps l.taps;
  given : HaveGiven g.T.Taps.stands l.feeds l.k l.initial.taps l.taps;
}
