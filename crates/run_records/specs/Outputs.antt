-- What a main clock does in its first ticks.
use Rattle.std.specs.Prelude.{◌≡◌, ℕ, Bool, List}
use Rattle.clock_infer.specs.declared.clock_map.NodeClock.TheVariants.{Main}
use Rattle.frame_core.specs.Calls.{Call}
use Rattle.stream_meaning.specs.Instants.{Setting, clock_of}
use Rattle.stream_meaning.specs.Sinks.{ticks_bytes, gaps}
use Rattle.stream_meaning.specs.Calls.{joined_upto, calls_of_tick}

-- the calls of the first ticks of clock m; `accepted t` are the answers of the puts of tick t
abbrev pub first_calls : Setting → (accepted : ℕ → ℕ → Bool) → (m ticks : ℕ) → List Call
first_calls setting accepted m ticks = joined_upto (λ t. calls_of_tick setting (accepted t) m t) ticks

-- Two settings of one plan lead to the same bytes and the same gaps in the first ticks of each node of main clock m.
pub record HasSameOutputs (one other : Setting) (m ticks : ℕ) : Type 0 where
  pub same_bytes : (wide : Bool) (i : ℕ) → clock_of one i ≡ Main m
      → ticks_bytes one wide i ticks ≡ ticks_bytes other wide i ticks
  pub same_gaps : (i : ℕ) → clock_of one i ≡ Main m → gaps one i ticks ≡ gaps other i ticks
