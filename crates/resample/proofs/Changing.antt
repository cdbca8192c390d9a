-- What is known of the blocks that are changed, and of the places in them.
use Rattle.std.proofs.Common.{◌≡◌, ◌<◌, ◌≤◌, ◌+◌, ◌-◌, ◌*◌, ◌/◌, ◌%◌, ◌∙◌, ℕ, ℤ, pos, List, length, map, get_or, arith, ap, sym}
use Rattle.std.specs.Prelude.{min}
use Rattle.std.specs.List.{range_with_len}
use Rattle.std.proofs.lemmas.List.{ext_get_or}
use Rattle.std.proofs.lemmas.List.FromFn.{length-map-range_with_len, get_or-map-range_with_len}
use Rattle.std.proofs.lemmas.Nat.{div_below, mul-le}
use Rattle.std.proofs.Math.Nat.{div-mul-le_self, mul-le-mul_right}
use Rattle.liq_base.specs.Kinds.{channels_of}
use Rattle.liq_base.specs.declared.memory.Kind.{Kind}
use Rattle.resample.specs.Changes.{blocks_at, samples_in, samples_of, IsSource, IsWay}
use Rattle.resample.specs.Places.{reached}
use Rattle.resample.specs.Resampled.{AreRates, IsFile, block_before, blocks_of, interpolated, output_length, parts_behind, resampled, resampled_sample, side_at}
use Rattle.resample.specs.declared.changed.Blocks.{Blocks}
use Rattle.resample.specs.declared.changed.Source.{Source}
use Rattle.resample.specs.declared.place.Place.{Place}
use Rattle.resample.specs.declared.place.Way.{Way}
use Rattle.resample.proofs.Formulas.{numbered, resampled_at, resampled_blocks, resampled_length, some_channels}
use Rattle.resample.proofs.Moves.{at_block, at_part, within}

pub source_blocks : (source : Source) (kind : Kind) (samples : List ℤ) → IsSource source → source.kind ≡ kind → samples_in source ≡ samples
    → source.last + 1 ≡ blocks_of kind samples
source_blocks source kind samples is same here = is.last ∙ ap (λ k. blocks_of k (samples_in source)) same ∙ ap (blocks_of kind) here

-- the parts before a sample are no large number
far_enough : (count from to at n : ℕ) → 1 ≤ count → count ≤ 134217728 → from < 4294967296 → to ≤ 192000
    → at + n ≤ output_length count from to → at * from < 18446744073709551616
far_enough count from to at n some most few small inside =
    let all = mul-le count to 134217728 192000 most small in
    let whole = div-mul-le_self (count * to) from in
    let near : at ≤ count * to / from + 1 = omega (arith, inside) in
    let product = mul-le-mul_right from near in
    omega (arith, all, whole, product, few)

pub room_there : (source : Source) (way : Way) (at n : ℕ) → IsSource source → IsWay way → at + n ≤ blocks_at source way → at * way.from < 18446744073709551616
room_there source way at n is goes inside =
    let most = goes.rates.most in
    far_enough (blocks_of source.kind (samples_in source)) way.from way.to at n is.file.some is.file.most goes.few (omega (arith, most)) inside

-- the place of a sample that there is
pub place_there : (source : Source) (way : Way) (j : ℕ) (place : Place) → IsSource source → IsWay way → j < blocks_at source way
    → reached way.to place ≡ j * way.from → place.block < blocks_of source.kind (samples_in source)
place_there source way j place is goes less whole =
    let least = goes.rates.least in
    within (blocks_of source.kind (samples_in source)) way.from way.to j place.block place.part is.file.some goes.rates.some (omega (arith, least)) less whole

-- what lies between two samples there
pub between_is : (source : Source) (way : Way) (j side : ℕ) (place : Place) → place.part < way.to → reached way.to place ≡ j * way.from
    → interpolated (side_at source.kind (samples_in source) place.block side)
    (side_at source.kind (samples_in source) (min (place.block + 1) (blocks_of source.kind (samples_in source) - 1)) side) place.part way.to
    ≡ resampled_sample way.from way.to source.kind (samples_in source) j side
between_is source way j side place less whole =
    let block = at_block way.from way.to j place.block place.part less whole in
    let part = at_part way.from way.to j place.block place.part less whole in
    let kind = source.kind in
    let samples = samples_in source in
    λ i. interpolated (side_at kind samples (block i) side) (side_at kind samples (min (block i + 1) (blocks_of kind samples - 1)) side) (part i) way.to

-- the same as the file's
module _ (source : Source) (way : Way) (blocks : Blocks) (from to : ℕ) (is_from : way.from ≡ from) (is_to : way.to ≡ to)
    (is_kind : source.kind ≡ blocks.kind) (are : samples_in source ≡ samples_of blocks) where
  blocks_same : blocks_at source way ≡ output_length (blocks_of blocks.kind (samples_of blocks)) from to
  blocks_same = λ i. output_length (blocks_of (is_kind i) (are i)) (is_from i) (is_to i)

  pub blocks_there : (n : ℕ) → n ≤ blocks_of blocks.kind (resampled from to blocks.kind (samples_of blocks)) → n ≤ blocks_at source way
  blocks_there n there = rw (blocks_same, sym (resampled_blocks from to blocks.kind (samples_of blocks))) there

  pub read_same : (at n side : ℕ) → at + n ≤ blocks_of blocks.kind (resampled from to blocks.kind (samples_of blocks)) → side < channels_of blocks.kind
      → map (λ j. resampled_sample way.from way.to source.kind (samples_in source) j side) (range_with_len at n)
      ≡ map (λ j. side_at blocks.kind (resampled from to blocks.kind (samples_of blocks)) j side) (range_with_len at n)
  read_same at n side there less =
      let all = resampled_blocks from to blocks.kind (samples_of blocks) in
      let f = λ (j : ℕ). resampled_sample from to blocks.kind (samples_of blocks) j side in
      let g = λ (j : ℕ). side_at blocks.kind (resampled from to blocks.kind (samples_of blocks)) j side in
      let first : map (λ j. resampled_sample way.from way.to source.kind (samples_in source) j side) (range_with_len at n) ≡ map f (range_with_len at n) =
      λ i. map (λ j. resampled_sample (is_from i) (is_to i) (is_kind i) (are i) j side) (range_with_len at n) in
      let long : length (map f (range_with_len at n)) ≡ n = length-map-range_with_len f at n in
      first
      ∙ ext_get_or (pos 0) (map f (range_with_len at n)) (map g (range_with_len at n)) (long ∙ sym (length-map-range_with_len g at n)) (λ k below.
      let inside : k < n = omega (arith, below, long) in
      get_or-map-range_with_len f at n k (at + k) (pos 0) inside (omega arith)
      ∙ sym (resampled_at from to blocks.kind (samples_of blocks) (at + k) side (omega (arith, there, inside, all)) less)
      ∙ sym (get_or-map-range_with_len g at n k (at + k) (pos 0) inside (omega arith)))

  -- a sample by its place in the order
  pub block_there : (at channels : ℕ) → channels ≡ channels_of source.kind → at < length (resampled from to blocks.kind (samples_of blocks)) → at / channels < blocks_at source way
  block_there at channels is less =
      let all = resampled_length from to blocks.kind (samples_of blocks) in
      let count = is ∙ ap channels_of is_kind in
      let some = some_channels blocks.kind in
      let below = div_below at (channels_of blocks.kind) (output_length (blocks_of blocks.kind (samples_of blocks)) from to) some (omega (arith, less, all)) in
      rw (blocks_same, count) below

  pub order_is : (at channels : ℕ) → channels ≡ channels_of source.kind → at < length (resampled from to blocks.kind (samples_of blocks))
      → resampled_sample way.from way.to source.kind (samples_in source) (at / channels) (at % channels) ≡ get_or (resampled from to blocks.kind (samples_of blocks)) at (pos 0)
  order_is at channels is less =
      let all = resampled_length from to blocks.kind (samples_of blocks) in
      let count = is ∙ ap channels_of is_kind in
      let first : resampled_sample way.from way.to source.kind (samples_in source) (at / channels) (at % channels) ≡ numbered from to blocks.kind (samples_of blocks) at =
      λ i. resampled_sample (is_from i) (is_to i) (is_kind i) (are i) (at / count i) (at % count i) in
      first
      ∙ sym (get_or-map-range_with_len (numbered from to blocks.kind (samples_of blocks)) 0 (output_length (blocks_of blocks.kind (samples_of blocks)) from to * channels_of blocks.kind)
      at at (pos 0) (omega (arith, less, all)) (omega arith))
