use Rattle.std.proofs.Common.{◌≡◌, ◌≤◌, ◌-◌, All, map}
use Rattle.clock_outputs.specs.Feeds.{AllHaveFeedRoom}
use Rattle.clock_outputs.specs.Ports.{AllHaveRoomLeft}
use Rattle.clock_ticks.specs.Standing.{IsClockState}
use Rattle.clock_ticks.specs.Hearings.{Heard, feed_key}
use Rattle.clock_ticks.proofs.run.run_tick.Given as goal

abbrev pub invariant-loop-instant : goal.invariant-loop-instant
invariant-loop-instant g l = record {
  low : l.instant ≤ l.frame;
  state : IsClockState l.scene l.state;
  room : AllHaveRoomLeft (l.frame - l.instant) l.ports.items;
  feed_room : AllHaveFeedRoom (l.frame - l.instant) l.feeds.items;
  frames : All (λ feed. l.frame ≤ feed.frame.room) l.feeds.items;
  keys : map feed_key l.feeds.items ≡ map feed_key l.fn.feeds.items;
  buffers : g.T.Taps.buffers l.taps ≡ g.T.Taps.buffers l.initial.taps;
  same : g.T.Taps.same l.initial.taps l.taps;
  heard : Heard g.T.Taps.stands l.scene l.clock l.own l.instant
      (record { state = l.initial.state; ports = l.fn.ports.items; feeds = l.fn.feeds.items; cues = l.fn.cues; start = l.start; taps = l.initial.taps })
      (record { state = l.state; ports = l.ports.items; feeds = l.feeds.items; cues = l.cues; start = l.start; taps = l.taps });
}

abbrev pub decreases-loop-instant : goal.decreases-loop-instant
decreases-loop-instant g l = l.frame - l.instant
