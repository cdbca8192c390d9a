use Rattle.std.proofs.Common.{◌≡◌, ◌<◌, ℕ, Some, slice_get}
use Rattle.clock_outputs.specs.declared.port.Port.{Port}
use Rattle.clock_ticks.proofs.engine.ClockEngine.cues.Given as goal

abbrev pub invariant-loop-k : goal.invariant-loop-k
invariant-loop-k g l = (k : ℕ) (port : Port) → k < l.k → slice_get l.self-inside.parts.ports.items k ≡ Some port → port.sink ≡ l.sink → ⊥
