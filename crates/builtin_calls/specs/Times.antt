-- Times of a script in samples, and the bad values among them.
use Rattle.std.specs.Prelude.{ℕ, ◌/◌, max, pos, int_le, int_lt, nat_eq, true, false, Result, Ok, Err}
use Rattle.fixed_text.specs.declared.decimal.Decimal.{Decimal}
use Rattle.fixed_text.specs.Texts.{samples_in}
use Rattle.script_values.specs.declared.fault.Stop.{Stop}
use Rattle.script_values.specs.declared.fault.Stop.TheVariants.{BadValue}

-- Checks that a time of a script, n samples, is not empty: gives n, or where it is 0 the fault of a bad value at token
-- `at`, the name of the call.
abbrev pub some_samples : ℕ → ℕ → Result ℕ Stop
some_samples at n =
    elim (nat_eq n 0) [
      | true ↦ Err (BadValue at)
      | false ↦ Ok n
    ]

-- The overlap d of a crossfade in samples, at `rate` samples a second. Less than one sample is a bad value at token
-- `at`.
unfoldable pub overlap_samples : ℕ → ℕ → Decimal → Result ℕ Stop
overlap_samples at rate d =
    elim (int_le d.millionths (pos 0)) [
      | true ↦ Err (BadValue at)
      | false ↦ some_samples at (samples_in d.millionths rate)
    ]

-- The duration d of a track of silence in samples, at `rate` samples a second. A time that is not above zero gives 0,
-- which stands for one endless track; less than one sample is a bad value at token `at`.
unfoldable pub track_of : ℕ → ℕ → Decimal → Result ℕ Stop
track_of at rate d =
    elim (int_le d.millionths (pos 0)) [
      | true ↦ Ok 0
      | false ↦ some_samples at (samples_in d.millionths rate)
    ]

-- The time d in samples, at `rate` samples a second. A time below zero is a bad value at token `at`.
unfoldable pub samples_of : ℕ → ℕ → Decimal → Result ℕ Stop
samples_of at rate d =
    elim (int_lt d.millionths (pos 0)) [
      | true ↦ Err (BadValue at)
      | false ↦ Ok (samples_in d.millionths rate)
    ]

-- Checks the pitch d of a wave, in hertz: gives it, or a bad value at token `at` where it is not above zero.
unfoldable pub pitch_of : ℕ → Decimal → Result Decimal Stop
pitch_of at d =
    elim (int_le d.millionths (pos 0)) [
      | true ↦ Err (BadValue at)
      | false ↦ Ok d
    ]

-- How many chunks a buffer holds that has room for so many samples: a chunk has `frame` samples, those of one tick.
-- Only whole chunks count, and at least one.
abbrev pub chunks : ℕ → ℕ → ℕ
chunks samples frame = max 1 (samples / frame)
