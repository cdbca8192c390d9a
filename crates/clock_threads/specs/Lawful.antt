-- The record of a run over wires.
use Rattle.std.specs.Prelude.{◌≡◌, ◌≢◌, ◌<◌, ◌≤◌, ℕ, Bool, Option, List, [], ◌++◌, length, nat_lt, if◌then◌else◌}
use Rattle.std.specs.List.{flat_map}
use Rattle.frame_core.specs.declared.cell.Cell.{Cell}
use Rattle.frame_core.specs.Legal.{IsHistory}
use Rattle.frame_core.specs.Calls.{Call, takes_of}
use Rattle.buffer_ends.specs.Local.{on}
use Rattle.stream_meaning.specs.Instants.{Setting, answered}
use Rattle.stream_meaning.specs.Calls.{joined_upto, calls_of_tick}
use Rattle.run_records.specs.Buffers.{feeder, reader}
use Rattle.run_records.specs.Records.{Follows, Window, capacity_of, start}
use Rattle.clock_threads.specs.TickCalls.{TickCalls}
use Rattle.clock_threads.specs.declared.wires.Wire.{Wire}
use Rattle.clock_threads.specs.Wires.{wire_at}
use Rattle.clock_threads.specs.Records.{windows_upto}

-- what the takes of each buffer got, in order, by its number: each a chunk, or nothing where it was empty
abbrev pub Answers : Type 0
Answers = ℕ → List (Option (List Cell))

-- A meaning gives the calls on buffers that a clock makes in a tick: by what the takes got, by which buffers accept a
-- put in that tick, and by the numbers of the clock and of the tick.
abbrev pub Meaning : Type 0
Meaning = Answers → (ℕ → Bool) → ℕ → ℕ → List Call

-- the meaning of a setting: which calls tick t of clock m makes, if the takes of all buffers get these answers
abbrev pub meant : Setting → Meaning
meant setting answers accepted m t = calls_of_tick (answered setting answers) accepted m t

-- for each buffer, what its takes got in the list `answers` and then in the list `rest`
abbrev pub and_rest : Answers → Answers → Answers
and_rest answers rest b = answers b ++ rest b

-- what the takes of each buffer got in the first t ticks of a clock that made these calls
abbrev pub got_by : TickCalls → ℕ → Answers
got_by tick_calls t b = takes_of b (joined_upto tick_calls.calls t)

-- what the takes of each buffer got, by its windows, which have the puts and the takes of some ticks each
abbrev pub answers_of : (ℕ → List Window) → Answers
answers_of windows b = flat_map (λ (w : Window). w.1) (windows b)

-- The calls of each clock, tick by tick, as the meaning `meant` gives them. The takes get what these windows of each
-- buffer got, and `accepted m t b` says whether buffer b accepts the put of clock m in its tick t.
abbrev pub clock_calls_of : Meaning → (ℕ → List Window) → (accepted : ℕ → ℕ → ℕ → Bool) → ℕ → TickCalls
clock_calls_of meant windows accepted m = record {
  calls = λ t. meant (answers_of windows) (accepted m t) m t;
  accepted = accepted m;
}

-- A lawful record of N ticks of each clock, in `count` windows of W ticks, by the wires, each of which names the two
-- clocks of a buffer. `windows b` has what the puts and takes of buffer b met, by window, as `meant` gives the calls.
-- Each buffer's windows are one history, and those of a buffer with both ends in one clock are in the order in which it
-- makes its calls.
pub record IsWiredHistory (meant : Meaning) (wires : List Wire) (W N count : ℕ) (windows : ℕ
    → List Window) : Type 0 where
  pub accepted : (m t b : ℕ) → Bool
  pub whole : start W N count ≡ N
  pub tight : (i : ℕ) → i < count → start W N i < N
  pub are : (b : ℕ) → b < length wires → windows b
      ≡ windows_upto (wire_at wires b) (clock_calls_of meant windows accepted) b W N count
  pub legal : (b : ℕ) → b < length wires → (rest : List (List Cell))
      × IsHistory (wire_at wires b).capacity [] (windows b) rest
  pub in_order : (b : ℕ) → b < length wires → (wire_at wires b).from ≡ (wire_at wires b).to
      → (rest : List (List Cell))
      × Follows (wire_at wires b).capacity []
      (on b (joined_upto (clock_calls_of meant windows accepted (wire_at wires b).from).calls N)) rest
  pub others : (b : ℕ) → length wires ≤ b → answers_of windows b ≡ []

-- Each clock, of `clocks` running ones, takes only from buffers whose taking end it has by the wires. `meant` gives the
-- calls that a clock makes in a tick.
pub record TakeOwn (meant : Meaning) (wires : List Wire) (clocks : ℕ) : Type 0 where
  pub takes : (answers : Answers) (accepted : ℕ → Bool) (m t b : ℕ) → m < clocks → (wire_at wires b).to ≢ m
      → takes_of b (meant answers accepted m t) ≡ []
  pub none : (answers : Answers) (accepted : ℕ → Bool) (m t b : ℕ) → length wires ≤ b
      → takes_of b (meant answers accepted m t) ≡ []

-- the clock that has the taking end of a buffer, if `clocks` clocks run: that of its reader, and if that does not run,
-- that of its feed, which then never takes
abbrev pub taker : Setting → (clocks b : ℕ) → ℕ
taker setting clocks b = if nat_lt (reader setting b) clocks then reader setting b else feeder setting b

-- This is the wire of buffer b in a setting, if `clocks` clocks run. It leads from the clock of the buffer's feed to
-- the clock that takes from it, and has the buffer's capacity.
pub record IsWireOf (setting : Setting) (clocks b : ℕ) (wire : Wire) : Type 0 where
  pub from_is : wire.from ≡ feeder setting b
  pub to_is : wire.to ≡ taker setting clocks b
  pub capacity_is : wire.capacity ≡ capacity_of setting b

-- These are the wires of all buffers of a setting, by the buffers' numbers, if `clocks` clocks run. Each says from
-- which clock to which a buffer leads, and its capacity.
pub record AreWires (setting : Setting) (clocks : ℕ) (wires : List Wire) : Type 0 where
  pub many : length wires ≡ length setting.plan.buffers
  pub each : (b : ℕ) → b < length wires → IsWireOf setting clocks b (wire_at wires b)
