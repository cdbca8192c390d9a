-- Engines over a plan without buffers: each stands for a task with taps of no buffer.
use Rattle.std.specs.Prelude.{ℕ, Option, List, ⊤}
use Rattle.liq_base.specs.Pieces.{SinkTold}
use Rattle.frame_core.specs.Calls.{Call}
use Rattle.clock_ticks.specs.declared.engine.ClockEngine.{ClockEngine}
use Rattle.clock_threads.specs.declared.task.Task.{Task}
use Rattle.clock_threads.specs.TaskRuns.{CanRun, WasRun}

-- the task of an engine, with these taps as its way to the buffers
abbrev pub with_taps : {S T : Type 0} → T → ClockEngine S → Task S T
with_taps taps engine = record { engine = engine; taps = taps }

-- how many buffers taps reach on a plan without buffers: 0
abbrev pub no_buffers : ⊤ → ℕ
no_buffers taps = 0

-- for which calls taps stand on a plan without buffers: for any, as none is ever made
abbrev pub any_calls : ⊤ → List Call → Type 0
any_calls taps calls = ⊤

-- which taps are the same on a plan without buffers: any two
abbrev pub any_taps : ⊤ → ⊤ → Type 0
any_taps old new = ⊤

-- an engine of a plan without buffers may make `count` ticks more: it has no fault, and its sinks have room; `told` is
-- what a sink tells of its bytes
abbrev pub CanRunUnbuffered : {S : Type 0} → (told : S → SinkTold) → (count : ℕ) → ClockEngine S → Type 0
CanRunUnbuffered told count engine = CanRun told no_buffers count (with_taps tt engine)

-- what is known of an engine of a plan without buffers, `old`, that was run for `count` ticks and came to `new`: it
-- made them all or stopped in one; `told` is what a sink tells of its bytes
abbrev pub WasRunUnbuffered : {S : Type 0} → (told : S → SinkTold) → (count : ℕ) → (old new : ClockEngine S) → Type 0
WasRunUnbuffered told count old new = WasRun told any_calls no_buffers any_taps count (with_taps tt old)
    (with_taps tt new)
