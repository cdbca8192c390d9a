-- What holds of a file at another rate.
use Rattle.std.proofs.Common.{◌≡◌, ◌<◌, ◌+◌, ◌*◌, ◌/◌, ◌%◌, ◌∙◌, ℕ, ℤ, pos, List, length, get_or, arith, ap, sym}
use Rattle.std.proofs.lemmas.List.{ext_get_or}
use Rattle.std.proofs.lemmas.List.FromFn.{length-map-range_with_len, get_or-map-range_with_len}
use Rattle.std.proofs.lemmas.Nat.{div-add-mod', div-mul-add, mod-mul-add, mod_below, mul-add-lt}
use Rattle.std.proofs.Math.Nat.{mul-div_left, mul-mod_left, mul_comm}
use Rattle.liq_base.specs.Kinds.{channels_of}
use Rattle.liq_base.specs.declared.memory.Kind.{Kind}
use Rattle.liq_base.specs.declared.memory.Kind.TheVariants.{Mono, Stereo}
use Rattle.resample.specs.Resampled.{AreRates, IsFile, LiesBetween, interpolated, blocks_of, output_length, parts_behind, resampled, sample_before, sample_behind, resampled_sample, side_at}
use Rattle.resample.proofs.Quotients.{at_first, lies_between}
use Rattle.resample.proofs.Moves.{same_block, same_length, same_part}

pub some_channels : (kind : Kind) → 0 < channels_of kind
some_channels Mono = omega arith
some_channels Stereo = omega arith

-- sample number k, in the order in which they stand
abbrev pub numbered : (from to : ℕ) → Kind → List ℤ → ℕ → ℤ
numbered from to kind samples k = resampled_sample from to kind samples (k / channels_of kind) (k % channels_of kind)

-- a place in the order, by block and side
pub number_at : (from to : ℕ) (kind : Kind) (samples : List ℤ) (j side : ℕ) → side < channels_of kind →
    numbered from to kind samples (j * channels_of kind + side) ≡ resampled_sample from to kind samples j side
number_at from to kind samples j side less =
    ap (λ n. resampled_sample from to kind samples n ((j * channels_of kind + side) % channels_of kind)) (div-mul-add j (channels_of kind) side less)
    ∙ ap (λ n. resampled_sample from to kind samples j n) (mod-mul-add j (channels_of kind) side less)

-- whole blocks: as many as the length says
pub resampled_length : (from to : ℕ) (kind : Kind) (samples : List ℤ) → length (resampled from to kind samples) ≡ output_length (blocks_of kind samples) from to * channels_of kind
resampled_length from to kind samples = length-map-range_with_len (numbered from to kind samples) 0 (output_length (blocks_of kind samples) from to * channels_of kind)

pub resampled_whole : (from to : ℕ) (kind : Kind) (samples : List ℤ) → length (resampled from to kind samples) % channels_of kind ≡ 0
resampled_whole from to kind samples =
    ap (λ n. n % channels_of kind) (resampled_length from to kind samples) ∙ mul-mod_left (output_length (blocks_of kind samples) from to) (channels_of kind)

pub resampled_blocks : (from to : ℕ) (kind : Kind) (samples : List ℤ) → blocks_of kind (resampled from to kind samples) ≡ output_length (blocks_of kind samples) from to
resampled_blocks from to kind samples =
    ap (λ n. n / channels_of kind) (resampled_length from to kind samples) ∙ mul-div_left (output_length (blocks_of kind samples) from to) (some_channels kind)

pub resampled_some : (from to : ℕ) (kind : Kind) (samples : List ℤ) → 0 < blocks_of kind (resampled from to kind samples)
resampled_some from to kind samples = let is = resampled_blocks from to kind samples in omega (arith, is)

-- sample j of a side is the formula
pub resampled_at : (from to : ℕ) (kind : Kind) (samples : List ℤ) (j side : ℕ) → j < output_length (blocks_of kind samples) from to → side < channels_of kind →
    side_at kind (resampled from to kind samples) j side ≡ resampled_sample from to kind samples j side
resampled_at from to kind samples j side below less =
    let inside = mul-add-lt j (channels_of kind) side (output_length (blocks_of kind samples) from to) below less in
    let turned = mul_comm (channels_of kind) (output_length (blocks_of kind samples) from to) in
    get_or-map-range_with_len (numbered from to kind samples) 0 (output_length (blocks_of kind samples) from to * channels_of kind)
    (j * channels_of kind + side) (j * channels_of kind + side) (pos 0) (omega (arith, inside, turned)) (omega arith)
    ∙ number_at from to kind samples j side less

-- each sample lies between the two that it is made from
pub sample_lies : (from to : ℕ) (kind : Kind) (samples : List ℤ) (j side : ℕ) → AreRates from to →
    LiesBetween (sample_before from to kind samples j side) (sample_behind from to kind samples j side) (resampled_sample from to kind samples j side)
sample_lies from to kind samples j side rates =
    let least = rates.least in
    lies_between (sample_before from to kind samples j side) (sample_behind from to kind samples j side) (parts_behind from to j) to
    (mod_below (j * from) to (omega (arith, least)))

-- equal rates change nothing
same_sample : (rate : ℕ) (kind : Kind) (samples : List ℤ) (j side : ℕ) → 0 < rate → resampled_sample rate rate kind samples j side ≡ side_at kind samples j side
same_sample rate kind samples j side some =
    ap (λ n. interpolated (sample_before rate rate kind samples j side) (sample_behind rate rate kind samples j side) n rate) (same_part rate j)
    ∙ at_first (sample_before rate rate kind samples j side) (sample_behind rate rate kind samples j side) rate some
    ∙ ap (λ n. side_at kind samples n side) (same_block rate j some)

pub same_rate : (rate : ℕ) (kind : Kind) (samples : List ℤ) → 0 < rate → IsFile kind samples → resampled rate rate kind samples ≡ samples
same_rate rate kind samples some file =
    let whole = file.whole_blocks in
    let blocks = blocks_of kind samples in
    let all : output_length blocks rate rate * channels_of kind ≡ length samples =
    ap (λ n. n * channels_of kind) (same_length blocks rate file.some some) ∙ omega (arith, div-add-mod' (length samples) (channels_of kind), whole) in
    ext_get_or (pos 0) (resampled rate rate kind samples) samples (resampled_length rate rate kind samples ∙ all) (λ k less.
    get_or-map-range_with_len (numbered rate rate kind samples) 0 (output_length blocks rate rate * channels_of kind) k k (pos 0)
    (rw (sym (resampled_length rate rate kind samples)) less) (omega arith)
    ∙ same_sample rate kind samples (k / channels_of kind) (k % channels_of kind) some
    ∙ ap (λ n. get_or samples n (pos 0)) (div-add-mod' k (channels_of kind)))
