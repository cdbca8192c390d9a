-- The rounds of the loop: one for each block that is written.
use Rattle.std.proofs.Common.{◌≡◌, ◌<◌, ◌≤◌, ◌+◌, ◌*◌, ◌/◌, ◌-◌, ◌∙◌, ℕ, ℤ, pos, List, length, get_or, set, arith, ap}
use Rattle.std.proofs.lemmas.List.Edits.{fill_by_more}
use Rattle.std.proofs.lemmas.List.FromFn.{fill_by_all}
use Rattle.std.proofs.lemmas.Nat.{div-add-mod', mul-add-lt, mul-le}
use Rattle.std.proofs.Math.Nat.{mul-div_left, mul-le-mul_right, mul_comm}
use Rattle.liq_base.specs.Kinds.{channels_of}
use Rattle.liq_base.specs.declared.memory.Kind.{Kind}
use Rattle.liq_base.specs.declared.memory.Kind.TheVariants.{Mono, Stereo}
use Rattle.resample.specs.Resampled.{IsFile, blocks_of, output_length, resampled}
use Rattle.resample.proofs.Formulas.{numbered, some_channels}

few_channels : (kind : Kind) → channels_of kind ≤ 2
few_channels Mono = omega arith
few_channels Stereo = omega arith

-- as many rounds as the length says
pub rounds : (from to : ℕ) (kind : Kind) (samples start : List ℤ) (channels : ℕ) → channels ≡ channels_of kind →
    length start ≡ output_length (blocks_of kind samples) from to * channels_of kind → length start / channels ≡ output_length (blocks_of kind samples) from to
rounds from to kind samples start channels is room =
    ap (λ n. length start / n) is
    ∙ ap (λ n. n / channels_of kind) room
    ∙ mul-div_left (output_length (blocks_of kind samples) from to) (some_channels kind)

-- a sample of a block of the file is there, and no number on the way to it is large
pub sample_there : (kind : Kind) (samples : List ℤ) (channels block side : ℕ) → channels ≡ channels_of kind → IsFile kind samples → block < blocks_of kind samples → side < channels →
    (block * channels + side < length samples) × (block * channels + side < 268435456)
sample_there kind samples channels block side is file below less =
    let same : block * channels + side ≡ block * channels_of kind + side = ap (λ n. block * n + side) is in
    let inside = mul-add-lt block (channels_of kind) side (blocks_of kind samples) below (omega (arith, is, less)) in
    let turned = mul_comm (channels_of kind) (blocks_of kind samples) in
    let all = div-add-mod' (length samples) (channels_of kind) in
    let rest = file.whole_blocks in
    let most = mul-le (blocks_of kind samples) (channels_of kind) 134217728 2 file.most (few_channels kind) in
    (omega (arith, same, inside, turned, all, rest), omega (arith, same, inside, turned, most))

-- one sample more is written
pub one_more : (f : ℕ → ℤ) (into : List ℤ) (i j : ℕ) (z : ℤ) → i ≡ j → j < length into → z ≡ f j → ((k : ℕ) → k < j → get_or into k (pos 0) ≡ f k) →
    (k : ℕ) → k < j + 1 → get_or (set into i z) k (pos 0) ≡ f k
one_more f into i j z same less is before k below =
    ap (λ n. get_or (set into n z) k (pos 0)) same
    ∙ ap (λ x. get_or (set into j x) k (pos 0)) is
    ∙ fill_by_more f into j (pos 0) less before k below

-- the end
pub all_written : (from to : ℕ) (kind : Kind) (samples start into : List ℤ) (channels block : ℕ) → channels ≡ channels_of kind →
    length start ≡ output_length (blocks_of kind samples) from to * channels_of kind → length into ≡ length start → length start / channels ≤ block →
    ((k : ℕ) → k < block * channels_of kind → get_or into k (pos 0) ≡ numbered from to kind samples k) → into ≡ resampled from to kind samples
all_written from to kind samples start into channels block is room long end done =
    let all = rounds from to kind samples start channels is room in
    let count : output_length (blocks_of kind samples) from to ≤ block = omega (arith, all, end) in
    let whole = mul-le-mul_right (channels_of kind) count in
    fill_by_all (numbered from to kind samples) into (output_length (blocks_of kind samples) from to * channels_of kind) (pos 0) (long ∙ room)
    (λ k below. done k (omega (arith, below, whole)))
