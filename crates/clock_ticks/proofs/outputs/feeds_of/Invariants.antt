use Rattle.std.proofs.Common.{◌≡◌, ◌++◌, All, map, drop}
use Rattle.stream_meaning.specs.Instants.{Setting}
use Rattle.clock_nodes.specs.Scenes.{setting_over}
use Rattle.clock_ticks.specs.Beginnings.{IsNewFeed}
use Rattle.clock_ticks.specs.Engines.{feed_of, feeds_from, feeds_of}
use Rattle.clock_ticks.proofs.outputs.feeds_of.Given as goal

abbrev pub invariant-loop-i : goal.invariant-loop-i
invariant-loop-i l = record {
  feeds : (other : Setting) → map feed_of l.feeds.items ++ feeds_from (setting_over l.scene other) l.clock (drop l.i l.sinks)
      ≡ feeds_of (setting_over l.scene other) l.clock;
  new : All (IsNewFeed l.scene.plan.now.frame) l.feeds.items;
}
