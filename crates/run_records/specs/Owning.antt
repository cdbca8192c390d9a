-- The calls that a main clock makes on its own buffers.
use Rattle.std.specs.Prelude.{◌≡◌, ℕ}
use Rattle.frame_core.specs.Calls.{Call, Took, Given}
use Rattle.stream_meaning.specs.Instants.{Setting}
use Rattle.run_records.specs.Buffers.{feeder, reader}

-- a call takes from a buffer that clock m reads, or puts to one that clock m feeds
abbrev pub IsOwn : Setting → (m : ℕ) → Call → Type 0
IsOwn setting m (Took buffer answer) = reader setting buffer ≡ m
IsOwn setting m (Given buffer cells accepted) = feeder setting buffer ≡ m
