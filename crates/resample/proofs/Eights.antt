-- Eight samples at another rate, made of samples that lie before the last one.
use Rattle.std.proofs.Common.{◌≡◌, ◌<◌, ◌≤◌, ◌+◌, ◌-◌, ◌*◌, ◌∙◌, ℕ, zero, suc, ℤ, List, ◌∷◌, ◌++◌, length, map, take, arith, ap, sym, refl}
use Rattle.std.specs.List.{range_with_len}
use Rattle.std.specs.Simd.Lanes.{put_chunk}
use Rattle.std.proofs.lemmas.List.FromFn.{length-map-range_with_len}
use Rattle.std.proofs.lemmas.Simd.{take_more_put_chunk}
use Rattle.std.proofs.Math.Nat.{mul-lt-mul_of_pos_right, lt_of_mul-lt-mul_right}
use Rattle.sample_kernels.specs.Mixing.{faded_each}
use Rattle.resample.specs.Changes.{samples_in, IsSource, IsWay}
use Rattle.resample.specs.Places.{reached}
use Rattle.resample.specs.Resampled.{interpolated, parts_behind, resampled_sample, sample_before, sample_behind, side_at}
use Rattle.resample.specs.declared.changed.Source.{Source}
use Rattle.resample.specs.declared.place.Place.{Place}
use Rattle.resample.specs.declared.place.Way.{Way}
use Rattle.resample.proofs.Moves.{at_block, at_part}

-- a place before the last block
pub block_inside : (source : Source) (way : Way) (j m : ℕ) (place : Place) → IsWay way → reached way.to place ≡ j * way.from → j < m
    → m * way.from ≤ source.last * way.to → place.block < source.last
block_inside source way j m place goes is less inside =
    let strict = mul-lt-mul_of_pos_right less goes.rates.some in
    lt_of_mul-lt-mul_right way.to (omega (arith, is, strict, inside))

module _ (source : Source) (way : Way) (j side : ℕ) (place : Place) (less : place.part < way.to) (is : reached way.to place ≡ j * way.from) where
  pub before_is : side_at source.kind (samples_in source) place.block side ≡ sample_before way.from way.to source.kind (samples_in source) j side
  before_is = ap (λ n. side_at source.kind (samples_in source) n side) (at_block way.from way.to j place.block place.part less is)

  pub behind_is : IsSource source → place.block < source.last
      → side_at source.kind (samples_in source) (place.block + 1) side ≡ sample_behind way.from way.to source.kind (samples_in source) j side
  behind_is whole inside =
      let last = whole.last in
      ap (λ n. side_at source.kind (samples_in source) n side) (omega (arith, at_block way.from way.to j place.block place.part less is, last, inside))

  pub part_is : place.part ≡ parts_behind way.from way.to j
  part_is = at_part way.from way.to j place.block place.part less is

faded_all : (f g : ℕ → ℤ) (h : ℕ → ℕ) (to at n : ℕ) → faded_each (map f (range_with_len at n)) (map g (range_with_len at n)) (map h (range_with_len at n)) to
    ≡ map (λ j. interpolated (f j) (g j) (h j) to) (range_with_len at n)
faded_all f g h to at zero = refl
faded_all f g h to at (suc n) = ap (λ l. interpolated (f at) (g at) (h at) to ∷ l) (faded_all f g h to (at + 1) n)

-- what eight of each make
pub eight_made : (source : Source) (way : Way) (side first : ℕ) (before behind : List ℤ) (parts : List ℕ)
    → before ≡ map (λ j. sample_before way.from way.to source.kind (samples_in source) j side) (range_with_len first 8)
    → behind ≡ map (λ j. sample_behind way.from way.to source.kind (samples_in source) j side) (range_with_len first 8)
    → parts ≡ map (parts_behind way.from way.to) (range_with_len first 8)
    → faded_each before behind parts way.to ≡ map (λ j. resampled_sample way.from way.to source.kind (samples_in source) j side) (range_with_len first 8)
eight_made source way side first before behind parts is_before is_behind is_parts =
    (λ i. faded_each (is_before i) (is_behind i) (is_parts i) way.to)
    ∙ faded_all (λ j. sample_before way.from way.to source.kind (samples_in source) j side) (λ j. sample_behind way.from way.to source.kind (samples_in source) j side)
    (parts_behind way.from way.to) way.to first 8

-- eight places more
more_places : (f : ℕ → ℤ) (at n m : ℕ) → map f (range_with_len at (n + m)) ≡ map f (range_with_len at n) ++ map f (range_with_len (at + n) m)
more_places f at zero m =
    let none : 0 + m ≡ m = omega arith in
    let same : at ≡ at + 0 = omega arith in
    ap (λ k. map f (range_with_len at k)) none ∙ ap (λ k. map f (range_with_len k m)) same
more_places f at (suc n) m =
    let next : suc n + m ≡ suc (n + m) = omega arith in
    let place : (at + 1) + n ≡ at + suc n = omega arith in
    ap (λ k. map f (range_with_len at k)) next
    ∙ ap (λ l. f at ∷ l) (more_places f (at + 1) n m ∙ ap (λ k. map f (range_with_len (at + 1) n) ++ map f (range_with_len k m)) place)

pub eight_more : (f : ℕ → ℤ) (into new : List ℤ) (at done : ℕ) → done + 8 ≤ length into → take done into ≡ map f (range_with_len at done)
    → new ≡ put_chunk done into (map f (range_with_len (at + done) 8)) → take (done + 8) new ≡ map f (range_with_len at (done + 8))
eight_more f into new at done room before is =
    let ys = map f (range_with_len (at + done) 8) in
    let long : length ys ≡ 8 = length-map-range_with_len f (at + done) 8 in
    ap (take (done + 8)) is
    ∙ take_more_put_chunk done into ys (done + 8) (omega (arith, long)) (omega (arith, room))
    ∙ ap (λ l. l ++ ys) before
    ∙ sym (more_places f at done 8)
