-- The sound of an audio file, and its cells in a source of either kind.
use Rattle.std.specs.Prelude.{◌≡◌, ◌<◌, ℕ, ℤ, pos, ◌+◌, ◌+ℤ◌, ◌*◌, ◌/◌, ◌%◌, List, length, map, slice_index_or, nat_eq, int_div}
use Rattle.std.specs.List.{range_with_len}
use Rattle.liq_base.specs.Kinds.{channels_of}
use Rattle.liq_base.specs.declared.memory.Kind.{Kind}
use Rattle.liq_base.specs.declared.memory.Kind.TheVariants.{Mono, Stereo}
use Rattle.frame_core.specs.declared.cell.Cell.{Cell}

-- the sound of an audio file: mono or stereo, and its samples, left before right where it is stereo
pub record Sound : Type 0 where
  pub kind : Kind
  pub samples : List ℤ

-- how many samples each channel of a file has
abbrev pub length_of : Sound → ℕ
length_of sound = length sound.samples / channels_of sound.kind

-- the samples of a file are whole blocks (one sample, or a left and a right one), and at least one block
pub record IsSound (sound : Sound) : Type 0 where
  pub whole_blocks : length sound.samples % channels_of sound.kind ≡ 0
  pub some : 0 < length_of sound

-- the sample at place `at` of a list, counted from 0; 0 past its end
abbrev pub sample_at : List ℤ → ℕ → ℤ
sample_at samples at = slice_index_or samples at (pos 0)

-- The left sample that block `at` of a file gives. The first kind is the file's, the last that of the source that plays
-- it. A stereo file in a mono source gives half the sum of the block, rounded toward zero.
abbrev pub left_at : Kind → List ℤ → Kind → ℕ → ℤ
left_at Mono samples kind at = sample_at samples at
left_at Stereo samples Stereo at = sample_at samples (2 * at)
left_at Stereo samples Mono at = int_div (sample_at samples (2 * at) +ℤ sample_at samples (2 * at + 1)) (pos 2)

-- The right sample that block `at` of a file gives. The first kind is the file's, the last that of the source that
-- plays it. A mono file gives its only sample, and in a mono source it is always 0.
abbrev pub right_at : Kind → List ℤ → Kind → ℕ → ℤ
right_at source samples Mono at = pos 0
right_at Mono samples Stereo at = sample_at samples at
right_at Stereo samples Stereo at = sample_at samples (2 * at + 1)

-- the cell of a file's block `at` in a source of this kind, with this title: a file begins its track at block 0
abbrev pub cell_of : Sound → (title : ℕ) → Kind → ℕ → Cell
cell_of sound title kind at = record {
  left = left_at sound.kind sound.samples kind at;
  right = right_at sound.kind sound.samples kind at;
  first = nat_eq at 0;
  title = title;
}

-- the left samples of `count` cells of a file from block `at` on, in a source of this kind
abbrev pub lefts_from : Sound → Kind → (at count : ℕ) → List ℤ
lefts_from sound kind at count = map (left_at sound.kind sound.samples kind) (range_with_len at count)

-- the right samples of `count` cells of a file from block `at` on, in a source of this kind
abbrev pub rights_from : Sound → Kind → (at count : ℕ) → List ℤ
rights_from sound kind at count = map (right_at sound.kind sound.samples kind) (range_with_len at count)
