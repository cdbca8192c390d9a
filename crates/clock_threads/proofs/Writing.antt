-- A write that failed, seen from before.
use Rattle.std.proofs.Common.{◌≡◌, ℕ, Option, Some, List, slice_get, ap, ◌∙◌, sym}
use Rattle.liq_base.specs.Pieces.{SinkTold}
use Rattle.clock_ticks.proofs.Pieces.{rose_since}
use Rattle.clock_ticks.specs.declared.engine.ClockEngine.{ClockEngine}
use Rattle.clock_ticks.specs.declared.fault.TickFault.{TickFault}
use Rattle.clock_ticks.specs.declared.fault.TickFault.TheVariants.{Write}
use Rattle.clock_ticks.specs.Engines.{outputs_of}
use Rattle.clock_ticks.specs.Ticks.{IsWriteFault}
use Rattle.clock_threads.specs.TaskRuns.{IsSameClock, IsWriteOf}

sink_is : (sink other : ℕ) → ◌≡◌ {A = TickFault} (Write sink) (Write other) → other ≡ sink
sink_is sink other e = cc

module _ {S : Type 0} (told : S → SinkTold) where
  -- the fault of a tick is that of an output
  pub write_of : (old new : ClockEngine S) (sink : ℕ) → IsWriteFault told old.parts old.outs new.outs (Write sink) → IsWriteOf told sink old new
  write_of old new sink cause = record {
    place = cause.place;
    node = cause.node;
    there = cause.there ∙ ap (λ n. Some (n, cause.node)) (sink_is sink cause.sink cause.fault_is);
    rose = cause.rose;
  }

  -- it is one since more ticks
  pub write_since : (first old new : ClockEngine S) (sink : ℕ) → IsSameClock told first old → IsWriteOf told sink old new → IsWriteOf told sink first new
  write_since first old new sink same write = record {
    place = write.place;
    node = write.node;
    there = (λ i. slice_get (outputs_of (sym same.setting i) (sym same.clock i)) write.place) ∙ write.there;
    rose = rose_since told write.place first.outs old.outs new.outs same.outs same.kept write.rose;
  }
