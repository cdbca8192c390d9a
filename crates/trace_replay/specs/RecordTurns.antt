-- All turns in which clocks make the record that a trace tells.
use Rattle.std.specs.Prelude.{◌≡◌, ℕ, List, [], refl}
use Rattle.std.specs.Coded.{Coded, code_by, coded×, coded_ℕ, coded_list}
use Rattle.clock_infer.specs.declared.clock_map.ClockMap.{ClockMap}
use Rattle.stream_meaning.specs.Instants.{Setting}
use Rattle.trace_log.specs.Values.{TraceValue}
use Rattle.trace_turns.specs.declared.course.TurnMade.{TurnMade}
use Rattle.trace_turns.specs.Answering.{BufferState, state_coded}
use Rattle.trace_turns.specs.Orders.{AreTurns, no_chunks, no_ticks}
use Rattle.trace_turns.specs.Thin.{AreKept}
use Rattle.trace_records.specs.Traces.{text_of}
use Rattle.trace_turns.specs.Turns.{AreSides, AreTold, chunks_of}

-- What a replay keeps of an accepted trace: the buffers with their answers, for each buffer the main clock that feeds
-- it and the one that reads it, and the turns. In each turn one clock makes some ticks alone.
pub record HeldTurns : Type 0 where
  pub buffers : List BufferState
  pub feeders : List ℕ
  pub readers : List ℕ
  pub turns : List TurnMade

-- How a turn (a clock, and the tick to which it comes) is told as a pair of numbers and back. A type with such a code
-- can be what contracts see.
abbrev pub turn_coded : Coded TurnMade
turn_coded = code_by (ℕ × ℕ) (coded× coded_ℕ coded_ℕ) (λ turn. (turn.clock, turn.ticks)) (λ p. record {
  clock = p.0;
  ticks = p.1;
}) (λ _. refl)

-- How all that a replay keeps of a trace is told as nested pairs and back. A type with such a code can be what
-- contracts see.
abbrev pub held_coded : Coded HeldTurns
held_coded = code_by (List BufferState
    × (List ℕ × (List ℕ × List TurnMade)))
    (coded× (coded_list state_coded)
    (coded× (coded_list coded_ℕ) (coded× (coded_list coded_ℕ) (coded_list turn_coded))))
    (λ held. (held.buffers, (held.feeders, (held.readers, held.turns)))) (λ p. record {
      buffers = p.0;
      feeders = p.1.0;
      readers = p.1.1.0;
      turns = p.1.1.1;
    }) (λ _. refl)

-- A replay of this trace may begin with what is `held`: the buffers have the answers of the trace and no chunk yet. In
-- the turns, one after another, the clocks make all their ticks as the answers say, each with chunks that earlier turns
-- put. `base` is the plan with its audio files and start.
pub record AreAllTurns (base : Setting) (clocks : ClockMap) (trace : TraceValue) (held : HeldTurns) : Type 0 where
  pub told : AreTold base (text_of trace.buffers) held.buffers
  pub sides : AreSides base held.feeders held.readers
  pub empty : (b : ℕ) → chunks_of held.buffers b ≡ []
  pub kept : AreKept held.buffers
  pub turns : AreTurns base clocks.running trace.window trace.ticks (text_of trace.buffers) held.turns no_ticks
      no_chunks
