use Rattle.std.proofs.Common.{◌≡◌, ◌<◌, ℕ, Some, slice_get}
use Rattle.clock_outputs.specs.declared.port.Port.{Port}
use Rattle.clock_ticks.proofs.engine.ClockEngine.gaps.Given as goal

abbrev pub invariant-loop-port : goal.invariant-loop-port
invariant-loop-port g l = (k : ℕ) (port : Port) → k < l.port-index → slice_get l.self-inside.parts.ports.items k ≡ Some port → port.sink ≡ l.sink → ⊥
