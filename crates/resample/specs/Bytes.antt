-- Samples that stand in bytes: signed, of 16 bits or of 24, the lowest byte first.
use Rattle.std.specs.Prelude.{ℕ, ℤ, ◌+◌, ◌*◌, Bool, List, [], ◌∷◌, if◌then◌else◌}
use Rattle.std.specs.Int.{w16, cast_signed}

-- the sample that two bytes hold, the lower one first
abbrev pub sample_in : ℕ → ℕ → ℤ
sample_in low high = cast_signed w16 (low + 256 * high)

-- the samples of 16 bits that these bytes hold, two bytes each, the lower one first; an odd byte at the end is left
-- out
abbrev pub samples_from : List ℕ → List ℤ
samples_from (low ∷ high ∷ bytes) = sample_in low high ∷ samples_from bytes
samples_from (low ∷ []) = []
samples_from [] = []

-- the samples of 24 bits that these bytes hold, cut to 16: of each three bytes the first, the lowest one, is dropped
abbrev pub wide_samples_in : List ℕ → List ℤ
wide_samples_in (lowest ∷ low ∷ high ∷ bytes) = sample_in low high ∷ wide_samples_in bytes
wide_samples_in (lowest ∷ low ∷ []) = []
wide_samples_in (lowest ∷ []) = []
wide_samples_in [] = []

-- the samples that bytes of audio data hold: where they are wide (24 bits), of each three bytes the upper two, else of
-- two bytes
abbrev pub samples_at : Bool → List ℕ → List ℤ
samples_at wide bytes = if wide then wide_samples_in bytes else samples_from bytes
