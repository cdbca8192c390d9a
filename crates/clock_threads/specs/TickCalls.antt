-- What a clock has done in its ticks so far.
use Rattle.std.specs.Prelude.{◌≡◌, ◌<◌, ◌+◌, Bool, Option, List, ℕ, suc}
use Rattle.liq_base.specs.Pieces.{IsPrefix, grown}
use Rattle.frame_core.specs.Calls.{Call, Answer}
use Rattle.stream_meaning.specs.Instants.{Setting, with_rest}
use Rattle.stream_meaning.specs.Sinks.{ticks_bytes, IsOutput}
use Rattle.stream_meaning.specs.Calls.{joined_upto, calls_of_tick, answers_in, after_calls, IsBegin}

-- what a clock did, by tick: the calls on buffers that it made in each, and which of the buffers that it feeds
-- accepted its chunk in each
pub record TickCalls : Type 0 where
  pub calls : ℕ → List Call
  pub accepted : ℕ → ℕ → Bool

-- the calls on buffers of `count` ticks, one after the other, from tick `from` on
abbrev pub joined_from : (ℕ → List Call) → (from count : ℕ) → List Call
joined_from calls from count = joined_upto (λ j. calls (from + j)) count

-- what the takes of a buffer got in a clock's first t ticks
abbrev pub answers_by : TickCalls → ℕ → ℕ → List Answer
answers_by tick_calls t buffer = answers_in buffer (joined_upto tick_calls.calls t)

-- two records of what a clock did, by tick, agree in the first t ticks: on its calls and on which buffers accepted its
-- chunks
pub record Agree (t : ℕ) (old new : TickCalls) : Type 0 where
  pub calls : (i : ℕ) → i < t → new.calls i ≡ old.calls i
  pub accepted : (i : ℕ) → i < t → new.accepted i ≡ old.accepted i

-- In each of its first t ticks, main clock m made the calls that the meaning gives that tick. The meaning goes by the
-- answers that its takes got up to the tick's end, whatever answers follow.
abbrev pub AreTicks : Setting → (m t : ℕ) → TickCalls → Type 0
AreTicks setting m t tick_calls =
    (i : ℕ) → i < t → (rest : ℕ → List Answer) → tick_calls.calls i
    ≡ calls_of_tick (with_rest setting (answers_by tick_calls (suc i)) rest) (tick_calls.accepted i) m i

-- The engine `e` of main clock m has made t ticks, with the calls of `tick_calls`, and its outputs have grown by their
-- bytes. `stands e t answers` says that it is as after t ticks in which its takes got these answers. `held e sink` are
-- the bytes of an output, by its number, and `first sink` those that it had before tick 0.
pub record HasGone {E : Type 0} (setting : Setting) (stands : E → ℕ → (ℕ → List Answer) → Type 0) (held : E → ℕ
    → Option (List ℕ))
    (m t : ℕ) (tick_calls : TickCalls) (first : ℕ → Option (List ℕ)) (e : E) : Type 0 where
  pub stand : stands e t (answers_by tick_calls t)
  pub ticks : AreTicks setting m t tick_calls
  pub holds : (rest : ℕ → List Answer) (sink node : ℕ) (output : IsOutput setting m sink node)
      → held e sink ≡ grown (ticks_bytes (with_rest setting (answers_by tick_calls t) rest) output.wide node t)
      (first sink)

-- The engine `e` of main clock m has made t ticks, with the calls of `tick_calls`, and stopped in the next one after
-- the calls `made`. `halts e t answers made` says so of its state. `held e sink` are the bytes of an output, by its
-- number, and `first sink` those before tick 0. The output grew by all its bytes of the t ticks and by a prefix of
-- those of the next one.
pub record HasGonePart {E : Type 0} (setting : Setting) (halts : E → ℕ → (ℕ → List Answer) → List Call
    → Type 0) (held : E → ℕ → Option (List ℕ))
    (m t : ℕ) (tick_calls : TickCalls) (first : ℕ → Option (List ℕ)) (e : E) : Type 0 where
  pub ticks : AreTicks setting m t tick_calls
  pub made : List Call
  pub halted : halts e t (answers_by tick_calls t) made
  pub accepted : ℕ → Bool
  pub begun : (rest : ℕ → List Answer)
      → IsBegin made (calls_of_tick (with_rest setting (after_calls (answers_by tick_calls t) made) rest) accepted m t)
  pub part : (rest : ℕ → List Answer) (sink node : ℕ) (output : IsOutput setting m sink node) → (front : List ℕ)
      × IsPrefix (ticks_bytes (with_rest setting (after_calls (answers_by tick_calls t) made) rest) output.wide node t)
      front
      × IsPrefix front (ticks_bytes (with_rest setting (after_calls (answers_by tick_calls t) made) rest) output.wide
      node (suc t)) × (held e sink ≡ grown front (first sink))
