use Rattle.std.proofs.Common.{◌≡◌, ℕ, take}
use Rattle.stream_meaning.specs.Instants.{Setting}
use Rattle.stations.specs.Cues.{marks_in}
use Rattle.station_render.specs.Engines.{ArePast}
use Rattle.station_render.specs.Marks.{cues_of}
use Rattle.station_render.proofs.engines.marks_of.Given as goal

abbrev pub invariant-loop-k : goal.invariant-loop-k
invariant-loop-k g l = (setting world : Setting) (ticks : ℕ) → setting.plan ≡ l.plan → setting.clocks ≡ l.clocks.of → ArePast setting world ticks l.engines
    → cues_of l.all.items ≡ marks_in world ticks (take l.k l.plan.sinks)
