-- Samples as the bytes of a file.
use Rattle.std.specs.Prelude.{ℕ, ℤ, List, ◌++◌}
use Rattle.std.specs.List.{concat}
use Rattle.std.specs.Simd.Lanes.{zip2}
use Rattle.liq_base.specs.declared.memory.Kind.{Kind}
use Rattle.liq_base.specs.declared.memory.Kind.TheVariants.{Mono, Stereo}
use Rattle.frame_core.specs.Bytes.{sample_bytes}

-- the bytes of one instant of a sound in a file, two for a sample: those of its left sample, and in stereo those of
-- the right one behind them
abbrev pub block_of : Kind → ℤ → ℤ → List ℕ
block_of Mono left right = sample_bytes left
block_of Stereo left right = sample_bytes left ++ sample_bytes right

-- the bytes of a sound in a file, two for a sample: those of all instants, one behind another
abbrev pub encoded : Kind → List ℤ → List ℤ → List ℕ
encoded kind left right = concat (zip2 (block_of kind) left right)
