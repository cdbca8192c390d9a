-- The definition computes: rows by hand.
use Rattle.std.proofs.Common.{◌≡◌, [], ◌∷◌, refl}
use Rattle.std.specs.Prelude.{pos, negsuc}
use Rattle.liq_base.specs.declared.memory.Kind.TheVariants.{Mono, Stereo}
use Rattle.resample.specs.Resampled.{output_length, resampled}

-- from 4000 to 8000 samples a second: behind the last sample there is the last one
doubled : resampled 4000 8000 Mono (pos 0 ∷ pos 100 ∷ []) ≡ pos 0 ∷ pos 50 ∷ pos 100 ∷ pos 100 ∷ []
doubled = refl

-- numbers below 0 are rounded toward zero
below_zero : resampled 4000 8000 Mono (negsuc 2 ∷ pos 0 ∷ []) ≡ negsuc 2 ∷ negsuc 0 ∷ pos 0 ∷ pos 0 ∷ []
below_zero = refl

-- of three samples at twice the rate the second is left out, and the third has no room
halved : resampled 16000 8000 Mono (pos 1 ∷ pos 2 ∷ pos 3 ∷ []) ≡ pos 1 ∷ []
halved = refl

-- one sample stays, however short it is
shortest : resampled 44100 8000 Mono (pos 7 ∷ []) ≡ pos 7 ∷ []
shortest = refl

-- each side by itself
both_sides : resampled 4000 8000 Stereo (pos 0 ∷ pos 10 ∷ pos 100 ∷ negsuc 9 ∷ [])
    ≡ pos 0 ∷ pos 10 ∷ pos 50 ∷ pos 0 ∷ pos 100 ∷ negsuc 9 ∷ pos 100 ∷ negsuc 9 ∷ []
both_sides = refl

-- a second
second : output_length 44100 44100 48000 ≡ 48000
second = refl
