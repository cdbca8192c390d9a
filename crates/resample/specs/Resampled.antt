-- A file of one rate at another, by linear interpolation in whole numbers. `docs/formats.md` has the rule.
use Rattle.std.specs.Prelude.{◌≡◌, ◌<◌, ◌≤◌, ◌≤ℤ◌, ℕ, ℤ, pos, ◌+◌, ◌-◌, ◌*◌, ◌/◌, ◌%◌, ◌+ℤ◌, ◌*ℤ◌, int_div, max, min, List, length, map, slice_index_or}
use Rattle.std.specs.Int.{int_max, int_min}
use Rattle.std.specs.List.{range_with_len}
use Rattle.liq_base.specs.declared.limits.TheConstants.{MAX_RATE, MIN_RATE}
use Rattle.liq_base.specs.Kinds.{channels_of}
use Rattle.liq_base.specs.declared.memory.Kind.{Kind}

-- these rates are allowed, in samples a second: that of a file (`from`) is above 0, and that of a script (`to`) lies
-- within its bounds
pub record AreRates (from to : ℕ) : Type 0 where
  pub some : 0 < from
  pub least : MIN_RATE ≤ to
  pub most : to ≤ MAX_RATE

-- how many blocks a file has, which is how many samples each of its channels has
abbrev pub blocks_of : Kind → List ℤ → ℕ
blocks_of kind samples = length samples / channels_of kind

-- the samples of a file: whole blocks, from 1 to 134217728
pub record IsFile (kind : Kind) (samples : List ℤ) : Type 0 where
  pub whole_blocks : length samples % channels_of kind ≡ 0
  pub some : 1 ≤ blocks_of kind samples
  pub most : blocks_of kind samples ≤ 134217728

-- how many samples each channel has once its rate was changed from `from` to `to`, where it had `count` before: in
-- proportion, rounded down, and at least one
abbrev pub output_length : (count from to : ℕ) → ℕ
output_length count from to = max 1 (count * to / from)

-- the sample of a block on a `side` (0 left, 1 right); a block has one sample for each channel of the file, and past
-- the end of the file the sample is 0
abbrev pub side_at : Kind → List ℤ → (block side : ℕ) → ℤ
side_at kind samples block side = slice_index_or samples (block * channels_of kind + side) (pos 0)

-- the number that lies `part` of `whole` equal steps from the sample `before` on the way to the sample `behind`,
-- rounded toward zero
abbrev pub interpolated : (before behind : ℤ) (part whole : ℕ) → ℤ
interpolated before behind part whole = int_div ((before *ℤ pos (whole - part)) +ℤ (behind *ℤ pos part)) (pos whole)

-- The number of the block of a file (a sample of each channel) at or before sample j of the new rate, which stands at
-- place j * from / to of the file; `from` is the file's rate and `to` the new one.
abbrev pub block_before : (from to j : ℕ) → ℕ
block_before from to j = j * from / to

-- how far sample j of the new rate lies behind the block of the file before it (a sample of each channel), in parts of
-- which a block has `to`; `from` is the file's rate and `to` the new one
abbrev pub parts_behind : (from to j : ℕ) → ℕ
parts_behind from to j = (j * from) % to

-- the sample of the file at or before the place at which sample j of the new rate stands, on a side (0 left, 1 right)
abbrev pub sample_before : (from to : ℕ) → Kind → List ℤ → (j side : ℕ) → ℤ
sample_before from to kind samples j side = side_at kind samples (block_before from to j) side

-- the sample of the file behind the place at which sample j of the new rate stands, on a side (0 left, 1 right); at
-- the end of the file the last one
abbrev pub sample_behind : (from to : ℕ) → Kind → List ℤ → (j side : ℕ) → ℤ
sample_behind from to kind samples j side = side_at kind samples
    (min (block_before from to j + 1) (blocks_of kind samples - 1)) side

-- sample j of a `side` (0 left, 1 right) at the new rate `to` of a file of rate `from`: it lies between the two samples
-- of the file around its place, in proportion
abbrev pub resampled_sample : (from to : ℕ) → Kind → List ℤ → (j side : ℕ) → ℤ
resampled_sample from to kind samples j side =
    interpolated (sample_before from to kind samples j side) (sample_behind from to kind samples j side)
    (parts_behind from to j) to

-- the samples of a file of rate `from` changed to rate `to` by linear interpolation, left before right where there are
-- two channels
abbrev pub resampled : (from to : ℕ) → Kind → List ℤ → List ℤ
resampled from to kind samples =
    map (λ k. resampled_sample from to kind samples (k / channels_of kind) (k % channels_of kind))
    (range_with_len 0 (output_length (blocks_of kind samples) from to * channels_of kind))

-- a number lies between a and b, whichever of them is less, both included
pub record LiesBetween (a b number : ℤ) : Type 0 where
  pub low : int_min a b ≤ℤ number
  pub high : number ≤ℤ int_max a b
