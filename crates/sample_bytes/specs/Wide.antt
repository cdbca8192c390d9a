-- Samples of three bytes: the lowest byte, and behind it the two of a sample.
use Rattle.std.specs.Prelude.{ℕ, ℤ, List, [], ◌∷◌, ◌++◌}
use Rattle.std.specs.List.{concat}
use Rattle.std.specs.Simd.Lanes.{zip2}
use Rattle.liq_base.specs.declared.memory.Kind.{Kind}
use Rattle.liq_base.specs.declared.memory.Kind.TheVariants.{Mono, Stereo}
use Rattle.frame_core.specs.Bytes.{sample_bytes}
-- the samples that bytes hold, three by three: the lowest byte of each is dropped
pub use Rattle.resample.specs.Bytes.{wide_samples_in}

-- a 16-bit sample as three bytes of a file: a lowest byte of 0, and the two of the sample behind it
abbrev pub wide_bytes : ℤ → List ℕ
wide_bytes sample = 0 ∷ sample_bytes sample

-- the bytes of an instant in samples of three bytes: of its left sample, and behind it of the right one in stereo
abbrev pub wide_block_of : Kind → ℤ → ℤ → List ℕ
wide_block_of Mono left right = wide_bytes left
wide_block_of Stereo left right = wide_bytes left ++ wide_bytes right

-- the bytes of all instants in samples of three bytes, one behind another
abbrev pub encoded_wide : Kind → List ℤ → List ℤ → List ℕ
encoded_wide kind left right = concat (zip2 (wide_block_of kind) left right)
