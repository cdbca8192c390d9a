-- The samples of a file from a place on, side by side.
use Rattle.std.specs.Prelude.{◌≡◌, ℕ, zero, suc, ◌+◌, ◌/◌, ◌≤◌, ℤ, pos, List, ◌∷◌, length, map, replicate, take, drop, refl}
use Rattle.std.specs.List.{range_with_len}
use Rattle.std.proofs.Common.{ap, sym, subst, ◌∙◌, arith}
use Rattle.std.proofs.lemmas.List.{drop_more}
use Rattle.liq_base.specs.Kinds.{channels_of}
use Rattle.liq_base.specs.declared.memory.Kind.{Kind}
use Rattle.liq_base.specs.declared.memory.Kind.TheVariants.{Mono, Stereo}
use Rattle.frame_core.specs.Sounds.{Sound, length_of, lefts_from, rights_from, sample_at}

lefts_of : (samples : List ℤ) (kind : Kind) (at n : ℕ) → at + n ≤ length samples
    → take n (drop at samples) ≡ lefts_from (record { kind = Mono; samples = samples }) kind at n
lefts_of samples kind at zero fits = refl
lefts_of samples kind at (suc n) fits =
    ap (take (suc n)) (drop_more samples at (pos 0) (omega (arith, fits)))
    ∙ ap (λ l. sample_at samples at ∷ l) (lefts_of samples kind (at + 1) n (omega (arith, fits)))

rights_of : (samples : List ℤ) (at n : ℕ) → at + n ≤ length samples
    → take n (drop at samples) ≡ rights_from (record { kind = Mono; samples = samples }) Stereo at n
rights_of samples at zero fits = refl
rights_of samples at (suc n) fits =
    ap (take (suc n)) (drop_more samples at (pos 0) (omega (arith, fits)))
    ∙ ap (λ l. sample_at samples at ∷ l) (rights_of samples (at + 1) n (omega (arith, fits)))

silent : (source : Kind) (samples : List ℤ) (at n : ℕ) → replicate n (pos 0) ≡ rights_from (record { kind = source; samples = samples }) Mono at n
silent Mono samples at zero = refl
silent Mono samples at (suc n) = ap (λ l. pos 0 ∷ l) (silent Mono samples (at + 1) n)
silent Stereo samples at zero = refl
silent Stereo samples at (suc n) = ap (λ l. pos 0 ∷ l) (silent Stereo samples (at + 1) n)

within_mono : (sound : Sound) (end : ℕ) → sound.kind ≡ Mono → end ≤ length_of sound → end ≤ length sound.samples
within_mono sound end is within =
    let there : end ≤ length sound.samples / channels_of Mono = subst (λ k. end ≤ length sound.samples / channels_of k) is within in
    omega (arith, there)

-- the left side of a mono file is its samples
pub mono_lefts : (sound : Sound) (kind : Kind) (at n m : ℕ) (held : List ℤ) → m ≡ n → held ≡ sound.samples → sound.kind ≡ Mono → at + n ≤ length_of sound
    → take m (drop at held) ≡ lefts_from sound kind at n
mono_lefts sound kind at n m held many is mono within =
    ap (λ k. take k (drop at held)) many ∙ ap (λ l. take n (drop at l)) is
    ∙ lefts_of sound.samples kind at n (within_mono sound (at + n) mono within)
    ∙ ap (λ k. lefts_from (record { kind = k; samples = sound.samples }) kind at n) (sym mono)

-- and so is the right one, in a stereo source
pub mono_rights : (sound : Sound) (kind : Kind) (at n m : ℕ) (held : List ℤ) → m ≡ n → held ≡ sound.samples → sound.kind ≡ Mono → kind ≡ Stereo → at + n ≤ length_of sound
    → take m (drop at held) ≡ rights_from sound kind at n
mono_rights sound kind at n m held many is mono stereo within =
    ap (λ k. take k (drop at held)) many ∙ ap (λ l. take n (drop at l)) is
    ∙ rights_of sound.samples at n (within_mono sound (at + n) mono within)
    ∙ ap (λ k. rights_from (record { kind = k; samples = sound.samples }) Stereo at n) (sym mono)
    ∙ ap (λ k. rights_from sound k at n) (sym stereo)

-- in a mono source the right side is silent
pub silent_rights : (sound : Sound) (kind : Kind) (at n : ℕ) → kind ≡ Mono → replicate n (pos 0) ≡ rights_from sound kind at n
silent_rights sound kind at n mono = silent sound.kind sound.samples at n ∙ ap (λ k. rights_from sound k at n) (sym mono)

-- the samples one by one
pub singles_left : (samples : List ℤ) (kind : Kind) (at n : ℕ) → map (sample_at samples) (range_with_len at n) ≡ lefts_from (record { kind = Mono; samples = samples }) kind at n
singles_left samples kind at zero = refl
singles_left samples kind at (suc n) = ap (λ l. sample_at samples at ∷ l) (singles_left samples kind (at + 1) n)

pub singles_right : (samples : List ℤ) (at n : ℕ) → map (sample_at samples) (range_with_len at n) ≡ rights_from (record { kind = Mono; samples = samples }) Stereo at n
singles_right samples at zero = refl
singles_right samples at (suc n) = ap (λ l. sample_at samples at ∷ l) (singles_right samples (at + 1) n)

-- a place is below the number of samples
pub below_all : (sound : Sound) (at : ℕ) → suc at ≤ length_of sound → suc at ≤ length sound.samples
below_all sound at lt = by sound.kind lt
  where
    by : (kind : Kind) → suc at ≤ length sound.samples / channels_of kind → suc at ≤ length sound.samples
    by Mono le = let it : suc at ≤ length sound.samples / 1 = le in omega (arith, it)
    by Stereo le = let it : suc at ≤ length sound.samples / 2 = le in omega (arith, it)
