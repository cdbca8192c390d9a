-- What a tick of an engine of one main clock owes.
use Rattle.std.specs.Prelude.{◌≡◌, Bool, Option, List, ℕ, suc}
use Rattle.liq_base.specs.Pieces.{IsPrefix, grown}
use Rattle.clock_infer.specs.declared.clock_map.NodeClock.{NodeClock}
use Rattle.frame_core.specs.Slots.{Slot}
use Rattle.frame_core.specs.Calls.{Call, Answer}
use Rattle.stream_meaning.specs.Instants.{Setting, Moment, clock_of, first_instants, with_rest}
use Rattle.stream_meaning.specs.Sinks.{tick_bytes, ticks_bytes, IsOutput}
use Rattle.stream_meaning.specs.Calls.{IsBegin, calls_of_tick, after_calls}

-- the instants that the clock of node i has made, where `ran` says how many each clock made
abbrev pub past_of : Setting → (sub : ℕ → ℕ → List Slot) → (ran : NodeClock → ℕ) → ℕ → List Moment
past_of setting sub ran i = first_instants setting sub (clock_of setting i) (ran (clock_of setting i))

-- An engine has made tick t of main clock m, with the calls `more`, after the answers `answers`: it stands for one tick
-- more and for the answers of these calls, whatever answers follow. `stands n answers` states that it is as after n
-- ticks with these answers; `held` and `now` are what each sink held before and holds now, where it tells it.
pub record HasTicked (stands : ℕ → (ℕ → List Answer) → Type 0) (setting : Setting) (m t : ℕ) (answers : ℕ → List Answer)
    (more : List Call) (held now : ℕ → Option (List ℕ)) : Type 0 where
  pub accepted : ℕ → Bool
  pub are : (rest : ℕ → List Answer) → more
      ≡ calls_of_tick (with_rest setting (after_calls answers more) rest) accepted m t
  pub stand : stands (suc t) (after_calls answers more)
  -- each output has grown by its bytes of the tick
  pub grew : (rest : ℕ → List Answer) (sink node : ℕ) (output : IsOutput setting m sink node)
      → now sink ≡ grown (tick_bytes (with_rest setting (after_calls answers more) rest) output.wide node t) (held sink)

-- A fault stopped main clock m in tick t, after the answers `answers`: the calls `made` are a prefix of those of the
-- tick, whatever answers follow. `held` and `now` are what each sink held before and holds now, where it tells it.
pub record HasStopped (setting : Setting) (m t : ℕ) (answers : ℕ → List Answer) (made : List Call) (held now : ℕ
    → Option (List ℕ)) : Type 0 where
  pub accepted : ℕ → Bool
  pub begun : (rest : ℕ → List Answer)
      → IsBegin made (calls_of_tick (with_rest setting (after_calls answers made) rest) accepted m t)
  -- each output has grown by a part of its bytes, from the first on
  pub part : (rest : ℕ → List Answer) (sink node : ℕ) (output : IsOutput setting m sink node)
      → (bytes : List ℕ) × IsPrefix bytes
      (tick_bytes (with_rest setting (after_calls answers made) rest) output.wide node t)
      × (now sink ≡ grown bytes (held sink))

-- each output of main clock m has grown by the bytes of so many ticks, from what it held at `first` to what it holds
-- `now`, whatever answers follow these
pub record HoldTicks (setting : Setting) (m ticks : ℕ) (answers : ℕ → List Answer) (first now : ℕ
    → Option (List ℕ)) : Type 0 where
  pub each : (rest : ℕ → List Answer) (sink node : ℕ) (output : IsOutput setting m sink node)
      → now sink ≡ grown (ticks_bytes (with_rest setting answers rest) output.wide node ticks) (first sink)
