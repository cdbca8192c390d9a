-- Samples as bytes: signed, of 16 bits, the lower byte first.
use Rattle.std.specs.Prelude.{ℕ, ℤ, List}
use Rattle.std.specs.Int.{w16, cast_unsigned, to_le_bytes}
-- the sample that two bytes hold, and the samples that bytes hold, two by two
pub use Rattle.resample.specs.Bytes.{sample_in, samples_from}

-- the two bytes of a sample, the lower first
abbrev pub sample_bytes : ℤ → List ℕ
sample_bytes sample = to_le_bytes w16 (cast_unsigned w16 sample)
