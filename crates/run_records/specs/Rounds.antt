-- Records of a plan in which no buffer joins two clocks, beside that of rounds on one thread.
use Rattle.std.specs.Prelude.{◌≡◌, ◌⊎◌, ◌<◌, ◌≤◌, ℕ, Bool, List, [], ◌∷◌, length, map}
use Rattle.std.specs.List.{flat_map}
use Rattle.stream_meaning.specs.Instants.{Setting}
use Rattle.stream_meaning.specs.Sinks.{cues, gaps, ticks_bytes}
use Rattle.run_records.specs.Buffers.{feeder, reader}
use Rattle.frame_core.specs.Calls.{Answer}
use Rattle.run_records.specs.Records.{Window, Run, setting_in, setting_then}

-- the windows of a buffer joined to one window, with all their puts and all their takes, in their order
abbrev pub as_one : List Window → List Window
as_one windows = (flat_map (λ (window : Window). window.0) windows, flat_map (λ (window : Window). window.1) windows)
    ∷ []

-- a run's record with the windows of each buffer joined to one, as rounds on one thread leave it
abbrev pub merged : Run → Run
merged run = record { buffers = map as_one run.buffers }

-- no buffer joins two of the clocks that run, 0 to `clocks - 1`: both its ends lie in one clock, or its reader in one
-- that does not run
abbrev pub HasNoJoin : Setting → (clocks : ℕ) → Type 0
HasNoJoin setting clocks = (buffer : ℕ) → buffer < length setting.plan.buffers
    → (feeder setting buffer ≡ reader setting buffer) ⊎ (clocks ≤ reader setting buffer)

-- A run is that of one thread: its answers, in one window a buffer, are those of `one_thread`, and the bytes, the gaps
-- and the cues of each node are the same.
pub record IsAsOnOneThread (setting : Setting) (run one_thread : Run) : Type 0 where
  pub same_record : merged run ≡ one_thread
  pub same_bytes : (wide : Bool) (i t : ℕ) → ticks_bytes (setting_in setting run) wide i t
      ≡ ticks_bytes (setting_in setting one_thread) wide i t
  pub same_gaps : (i t : ℕ) → gaps (setting_in setting run) i t ≡ gaps (setting_in setting one_thread) i t
  pub same_cues : (i t : ℕ) → cues (setting_in setting run) i t ≡ cues (setting_in setting one_thread) i t

-- A run that was broken off begins these rounds: with some answers after those that it got, its takes get what theirs
-- do. So what is said of it whatever answers follow is said of the rounds.
pub record BeginsRounds (setting : Setting) (run rounds : Run) : Type 0 where
  pub rest : ℕ → List Answer
  pub same : setting_then setting run rest ≡ setting_in setting rounds
