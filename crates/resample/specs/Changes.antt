-- A file at another rate that holds the bytes of its own, and makes each sample where it is read.
use Rattle.std.specs.Prelude.{◌≡◌, ◌<◌, ◌≤◌, ℕ, ℤ, ◌+◌, ◌^◌, List, length, take, drop}
use Rattle.liq_base.specs.Kinds.{channels_of}
use Rattle.liq_base.specs.declared.memory.Kind.{Kind}
use Rattle.resample.specs.Bytes.{samples_at}
use Rattle.resample.specs.Places.{reached}
use Rattle.resample.specs.Reciprocals.{inverse_of}
use Rattle.sample_kernels.specs.Reciprocals as by_lanes
use Rattle.resample.specs.Resampled.{AreRates, IsFile, blocks_of, output_length, resampled}
use Rattle.resample.specs.declared.changed.Blocks.{Blocks}
use Rattle.resample.specs.declared.changed.Source.{Source}
use Rattle.resample.specs.declared.place.Way.{Way}

-- a file once it is read at another rate: its channels, and its samples, left before right where there are two
-- channels
pub record Samples : Type 0 where
  pub kind : Kind
  pub samples : List ℤ

-- the samples that stand in the blocks of a file, at its own rate
abbrev pub samples_of : Blocks → List ℤ
samples_of blocks = samples_at blocks.wide (take blocks.size (drop blocks.at blocks.bytes.items))

-- the sound of a file with these blocks (samples of each channel), whose own rate is `from`, as it is read when it is
-- played at rate `to`
abbrev pub changed_from : (from to : ℕ) → Blocks → Samples
changed_from from to blocks = record {
  kind = blocks.kind;
  samples = resampled from to blocks.kind (samples_of blocks);
}

-- the blocks of a file (samples of each channel) lie within its bytes and are whole, at least one and at most 134217728
pub record AreThere (blocks : Blocks) : Type 0 where
  pub inside : blocks.at + blocks.size ≤ length blocks.bytes.items
  pub file : IsFile blocks.kind (samples_of blocks)

-- the samples of a file whose blocks fill these bytes, at the file's own rate
abbrev pub samples_in : Source → List ℤ
samples_in source = samples_at source.wide source.bytes.now

-- what a change of rate reads from is sound: its bytes are whole blocks (samples of each channel), and `last` is the
-- number of the last one
pub record IsSource (source : Source) : Type 0 where
  pub file : IsFile source.kind (samples_in source)
  pub last : source.last + 1 ≡ blocks_of source.kind (samples_in source)

-- The numbers that go with a change of rate are right. Both rates are allowed. The step is how far in the file one
-- sample of the new rate lies behind the one before. The two inverses take the place of divisions by the new rate.
pub record IsWay (way : Way) : Type 0 where
  pub rates : AreRates way.from way.to
  pub few : way.from < 2 ^ 32
  pub whole : reached way.to way.step ≡ way.from
  pub part : way.step.part < way.to
  pub block : way.step.block ≤ way.from
  pub inverse : way.inverse ≡ inverse_of way.to
  pub by_lanes : way.by_lanes ≡ by_lanes.inverse_of way.to

-- how many blocks (samples of each channel) the file has at the new rate; `way` has its own rate and the new one
abbrev pub blocks_at : Source → Way → ℕ
blocks_at source way = output_length (blocks_of source.kind (samples_in source)) way.from way.to
