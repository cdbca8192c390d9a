use Rattle.std.proofs.Common.{◌≡◌, ◌++◌, All, map, drop}
use Rattle.stream_meaning.specs.Instants.{Setting}
use Rattle.clock_nodes.specs.Scenes.{setting_over}
use Rattle.clock_ticks.specs.Beginnings.{IsNewPort}
use Rattle.clock_ticks.specs.Engines.{output_of, outputs_from, outputs_of}
use Rattle.clock_ticks.proofs.outputs.ports_of.Given as goal

abbrev pub invariant-loop-i : goal.invariant-loop-i
invariant-loop-i l = record {
  outputs : (other : Setting) → map output_of l.ports.items ++ outputs_from (setting_over l.scene other) l.clock l.i (drop l.i l.sinks)
      ≡ outputs_of (setting_over l.scene other) l.clock;
  new : (other : Setting) → All (IsNewPort (setting_over l.scene other)) l.ports.items;
}
