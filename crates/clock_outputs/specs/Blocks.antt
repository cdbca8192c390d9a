-- The bytes of cells in an output.
use Rattle.std.specs.Prelude.{ℕ, ℤ, Bool, List}
use Rattle.std.specs.List.{concat}
use Rattle.std.specs.Simd.Lanes.{zip2}
use Rattle.liq_base.specs.declared.memory.Kind.{Kind}
use Rattle.stream_meaning.specs.Sinks.{sample_block}

-- The bytes in an output of this kind of cells with these left and right samples. A block is one cell: a sample for
-- each channel, of three bytes if `wide`, else of two.
abbrev pub sample_blocks : (wide : Bool) → Kind → (left right : List ℤ) → List ℕ
sample_blocks wide kind left right = concat (zip2 (sample_block wide kind) left right)
