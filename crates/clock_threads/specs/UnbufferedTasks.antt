-- Engines over a plan without buffers, as tasks whose taps have no ends and no lists.
use Rattle.std.specs.Prelude.{List, [], map, refl, ⊤}
use Rattle.std.proofs.Common.{arith}
use denote.RawPtr.{block_ptr}
use Rattle.buffer_ends.specs.declared.thread_taps.ThreadTaps.{ThreadTaps}
use Rattle.clock_ticks.specs.declared.engine.ClockEngine.{ClockEngine}
use Rattle.clock_threads.specs.declared.task.Task.{Task}
use Rattle.clock_threads.specs.UnbufferedTicks.{with_taps}

-- the taps of a task on a plan without buffers: no end of a buffer and no list
abbrev pub no_taps : ThreadTaps ⊤
no_taps = record {
  rt = record { ref_ptr = (0, 0); now = tt };
  local = [];
  puts = record {
    ptr = block_ptr 0 0;
    len = 0;
    cap = 0;
    alloc = record { memory = record { seal = tt } };
    items = [];
    ok = (refl, omega arith);
    small = omega arith;
  };
  takes = record {
    ptr = block_ptr 0 0;
    len = 0;
    cap = 0;
    alloc = record { memory = record { seal = tt } };
    items = [];
    ok = (refl, omega arith);
    small = omega arith;
  };
  falling = (
    (λ i j d low within. absurd (omega (arith, within))),
    (λ i j d low within. absurd (omega (arith, within))),
  );
}

-- an engine over a plan without buffers, as a task whose taps reach no buffer
abbrev pub unbuffered_task : {S : Type 0} → ClockEngine S → Task S (ThreadTaps ⊤)
unbuffered_task engine = with_taps no_taps engine

-- engines over a plan without buffers, as tasks whose taps reach no buffer
abbrev pub unbuffered_tasks : {S : Type 0} → List (ClockEngine S) → List (Task S (ThreadTaps ⊤))
unbuffered_tasks engines = map unbuffered_task engines
