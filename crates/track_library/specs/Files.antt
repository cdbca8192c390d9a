-- Audio files that are used, as they were read.
use Rattle.std.specs.Prelude.{◌≤◌, ⊤, ℕ, List, length, Result, Ok, Err}
use Rattle.frame_core.specs.Library.{no_sound}
use Rattle.frame_core.specs.Sounds.{Sound}
use Rattle.wav_io.specs.Reading.{Wav, read_of}
use Rattle.wav_io.specs.declared.fault.WavFault.{WavFault}
use Rattle.track_library.specs.Walk.{sound_of}

-- the bytes of a file were read as a WAV file, without a fault
abbrev pub IsReadable : Result Wav WavFault → Type 0
IsReadable (Err fault) = ⊥
IsReadable (Ok wav) = ⊤

-- the sound that was read of a WAV file, at `rate` samples a second; no sound where the bytes are no WAV file
abbrev pub sound_in : (rate : ℕ) → Result Wav WavFault → Sound
sound_in rate (Err fault) = no_sound
sound_in rate (Ok wav) = sound_of rate wav

-- These are the bytes of an audio file that is used: a WAV file without a fault, of at most 256 MiB. It is to be played
-- at `rate` samples a second, from 8000 to 192000.
pub record IsUsed (rate : ℕ) (bytes : List ℕ) : Type 0 where
  pub least : 8000 ≤ rate
  pub most : rate ≤ 192000
  pub few : length bytes ≤ 268435456
  pub readable : IsReadable (read_of bytes)
