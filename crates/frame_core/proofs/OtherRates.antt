-- Half the sum of the two sides of a file that is read at another rate.
use Rattle.std.proofs.Common.{◌≡◌, ◌∙◌, ◌+◌, ◌*◌, ℕ, zero, suc, ℤ, pos, List, ◌∷◌, length, map, get_or, arith, ap, refl, sym}
use Rattle.std.specs.List.{range_with_len}
use Rattle.std.specs.Simd.Lanes.{zip2}
use Rattle.std.proofs.lemmas.List.FromFn.{length-map-range_with_len}
use Rattle.liq_base.specs.declared.memory.Kind.{Kind}
use Rattle.liq_base.specs.declared.memory.Kind.TheVariants.{Mono, Stereo}
use Rattle.resample.specs.Resampled.{side_at}
use Rattle.frame_core.specs.Sounds.{left_at, lefts_from, sample_at}
use Rattle.frame_core.proofs.Halves.{half, zipped}

mapped : (f g : ℕ → ℤ) (at n : ℕ) → ((j : ℕ) → f j ≡ g j) → map f (range_with_len at n) ≡ map g (range_with_len at n)
mapped f g at zero same = refl
mapped f g at (suc n) same = ap (λ x. x ∷ map f (range_with_len (at + 1) n)) (same at) ∙ ap (λ l. g at ∷ l) (mapped f g (at + 1) n same)

-- a side of a file of this kind
abbrev pub side_of : Kind → List ℤ → (side at n : ℕ) → List ℤ
side_of kind samples side at n = map (λ j. side_at kind samples j side) (range_with_len at n)

pub length_side : (kind : Kind) (samples : List ℤ) (side at n : ℕ) → length (side_of kind samples side at n) ≡ n
length_side kind samples side at n = length-map-range_with_len (λ j. side_at kind samples j side) at n

first : (samples : List ℤ) (j : ℕ) → side_at Stereo samples j 0 ≡ sample_at samples (2 * j)
first samples j = ap (λ m. get_or samples m (pos 0)) (omega arith)

second : (samples : List ℤ) (j : ℕ) → side_at Stereo samples j 1 ≡ sample_at samples (2 * j + 1)
second samples j = ap (λ m. get_or samples m (pos 0)) (omega arith)

pub half_left : (kind own asked : Kind) (samples : List ℤ) (at n m : ℕ) → kind ≡ own → m ≡ n → own ≡ Stereo → asked ≡ Mono
    → zip2 half (side_of kind samples 0 at n) (side_of kind samples 1 at m) ≡ lefts_from (record { kind = own; samples = samples }) asked at n
half_left kind own asked samples at n m same many is mono =
    (λ i. zip2 half (side_of ((same ∙ is) i) samples 0 at n) (side_of ((same ∙ is) i) samples 1 at (many i)))
    ∙ zipped (λ j. side_at Stereo samples j 0) (λ j. side_at Stereo samples j 1) at n
    ∙ mapped (λ j. half (side_at Stereo samples j 0) (side_at Stereo samples j 1)) (left_at Stereo samples Mono) at n
    (λ j. ap (λ x. half x (side_at Stereo samples j 1)) (first samples j) ∙ ap (half (sample_at samples (2 * j))) (second samples j))
    ∙ (λ i. lefts_from (record { kind = sym is i; samples = samples }) (sym mono i) at n)
