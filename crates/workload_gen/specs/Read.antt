-- What the audio files of a workload are read as.
use Rattle.std.specs.Prelude.{◌≡◌, ℕ, ℤ, false, List, Ok}
use Rattle.liq_base.specs.declared.memory.Kind.TheVariants.{Mono}
use Rattle.frame_core.specs.Bytes.{samples_from}
use Rattle.wav_io.specs.Reading.{read_of}
use Rattle.workload_gen.specs.Files.{File, samples_of, track_name}

-- these bytes are read as a file of one channel, 8000 samples a second and 16 bits, which holds these samples
pub record IsReadAs (samples : List ℤ) (bytes : List ℕ) : Type 0 where
  pub body : List ℕ
  pub read : read_of bytes ≡ Ok (record { kind = Mono; rate = 8000; wide = false; body = body })
  pub holds : samples_from body ≡ samples

-- the file is audio file i: it has its name, and its bytes are read as its samples
pub record IsTrack (seed i : ℕ) (file : File) : Type 0 where
  pub name : file.0 ≡ track_name i
  pub bytes : IsReadAs (samples_of seed i) file.1
