use Rattle.std.proofs.Common.{◌≡◌, length}
use Rattle.clock_ticks.specs.Engines.{setting_of}
use Rattle.engine_tests.proofs.small_engines.check_ticks.Given as goal

abbrev pub invariant-loop : goal.invariant-loop
invariant-loop g l = length l.taps ≡ length (setting_of l.engine.parts).plan.buffers
