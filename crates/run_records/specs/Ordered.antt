-- Records whose ticks can be put in one order.
use Rattle.std.specs.Prelude.{◌≡◌, ◌<◌, ◌≤◌, Bool, ℕ, suc, List, [], ◌∷◌, ◌++◌, length, map, is_some, nat_eq, if◌then◌else◌}
use Rattle.frame_core.specs.Frames.{somes}
use Rattle.frame_core.specs.Calls.{takes_of, puts_to}
use Rattle.stream_meaning.specs.Instants.{Setting}
use Rattle.stream_meaning.specs.Calls.{joined_upto}
use Rattle.run_records.specs.Buffers.{feeder, reader}
use Rattle.run_records.specs.Records.{Window, Run, windows_of, calls_in}

-- what a trace tells of a window: which puts were accepted, and which takes got a chunk
abbrev pub text_of_window : Window → List Bool × List Bool
text_of_window window = (map is_some window.0, map is_some window.1)

-- two runs have the same text: in each window of each buffer as many puts and takes, with the same answers but for what
-- the chunks hold
abbrev pub HasSameText : Setting → Run → Run → Type 0
HasSameText setting run other = (b : ℕ) → b < length setting.plan.buffers
    → map text_of_window (windows_of run b) ≡ map text_of_window (windows_of other b)

-- how many of these ticks are of clock m; each is a clock and its tick's number
abbrev pub made : (m : ℕ) → List (ℕ × ℕ) → ℕ
made m [] = 0
made m (tick ∷ ticks) = if nat_eq tick.0 m then suc (made m ticks) else made m ticks

-- how many chunks of buffer b the first n ticks of its reader's clock got, where clocks 0 to `clocks - 1` run;
-- `accepted m t b` says whether the put of clock m to buffer b in tick t is accepted
abbrev pub got_by : Setting → (clocks : ℕ) → (accepted : ℕ → ℕ → ℕ → Bool) → (b n : ℕ) → ℕ
got_by setting clocks accepted b n = length
    (somes (takes_of b (joined_upto (calls_in setting clocks accepted (reader setting b)) n)))

-- how many chunks the first n ticks of its feeder's clock put to buffer b, where clocks 0 to `clocks - 1` run; a put
-- counts if it is accepted, as `accepted m t b` says of that of clock m in tick t
abbrev pub kept_by : Setting → (clocks : ℕ) → (accepted : ℕ → ℕ → ℕ → Bool) → (b n : ℕ) → ℕ
kept_by setting clocks accepted b n = length
    (somes (puts_to b (joined_upto (calls_in setting clocks accepted (feeder setting b)) n)))

-- The N ticks of each of clocks 0 to `clocks - 1` can be ordered: a list of all of them keeps each clock's order, and
-- each chunk that a tick got was put in an earlier one. A buffer's chunks are got in the order in which they were put.
-- `accepted m t b` says whether the put of clock m to buffer b in tick t is accepted.
pub record IsOrdered (setting : Setting) (clocks : ℕ) (accepted : ℕ → ℕ → ℕ → Bool) (N : ℕ) : Type 0 where
  pub order : List (ℕ × ℕ)
  pub all : (m : ℕ) → m < clocks → made m order ≡ N
  pub each : (before behind : List (ℕ × ℕ)) (m t : ℕ) → order ≡ before ++ (m, t) ∷ behind
      → (m < clocks) × (t ≡ made m before)
  pub earlier : (before behind : List (ℕ × ℕ)) (m t b : ℕ) → order ≡ before ++ (m, t) ∷ behind
      → b < length setting.plan.buffers → reader setting b ≡ m
      → got_by setting clocks accepted b (suc t) ≤ kept_by setting clocks accepted b (made (feeder setting b) before)
