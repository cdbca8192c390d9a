-- Audio files at the rate of the script, and what they count for.
use Rattle.std.proofs.Common.{Bool, true, false, ◌≡◌, ◌≤◌, ◌<◌, ℕ, ℤ, ◌+◌, ◌*◌, List, length, sym, ap, ◌∙◌, arith}
use Rattle.std.specs.Prelude.{Result, Ok, Err}
use Rattle.liq_base.specs.Kinds.{channels_of}
use Rattle.liq_base.specs.declared.memory.Kind.{Kind}
use Rattle.liq_base.specs.declared.memory.Kind.TheVariants.{Mono, Stereo}
use Rattle.frame_core.specs.Sounds.{IsSound, Sound}
use Rattle.wav_io.specs.Reading.{AreBlocks, Wav, read_of}
use Rattle.wav_io.specs.Fronts.{IsHeadOf, wav_at}
use Rattle.wav_io.specs.declared.head.Head.{Head}
use Rattle.wav_io.proofs.Heads.{is_file}
use Rattle.resample.specs.Resampled.{IsFile, blocks_of, output_length, resampled}
use Rattle.resample.proofs.Formulas.{resampled_length, resampled_some, resampled_whole, same_rate}
use Rattle.wav_io.specs.declared.fault.WavFault.{WavFault}
use Rattle.track_library.specs.Files.{IsReadable, sound_in}
use Rattle.track_library.specs.Walk.{counted_bytes, samples_at, sound_of}
use Rattle.track_library.proofs.Sound.{blocks_sound, samples_long, two_each, wide_long}

-- a file that may be changed to another rate
pub file_of : (wide : Bool) (kind : Kind) (bytes : List ℕ) → AreBlocks wide kind bytes → length bytes ≤ 268435456 → IsFile kind (samples_at wide bytes)
file_of false Mono bytes blocks few =
    let long = samples_long bytes in
    let sound = blocks_sound false Mono bytes blocks in
    record { whole_blocks = sound.whole_blocks; some = omega (arith, sound.some); most = omega arith }
file_of false Stereo bytes blocks few =
    let long = samples_long bytes in
    let sound = blocks_sound false Stereo bytes blocks in
    record { whole_blocks = sound.whole_blocks; some = omega (arith, sound.some); most = omega arith }
file_of true Mono bytes blocks few =
    let long = wide_long bytes in
    let sound = blocks_sound true Mono bytes blocks in
    record { whole_blocks = sound.whole_blocks; some = omega (arith, sound.some); most = omega arith }
file_of true Stereo bytes blocks few =
    let long = wide_long bytes in
    let sound = blocks_sound true Stereo bytes blocks in
    record { whole_blocks = sound.whole_blocks; some = omega (arith, sound.some); most = omega arith }

-- a changed file is a sound
pub changed_sound : (from to : ℕ) (kind : Kind) (samples : List ℤ) → IsSound (record { kind = kind; samples = resampled from to kind samples })
changed_sound from to kind samples = record { whole_blocks = resampled_whole from to kind samples; some = resampled_some from to kind samples }

-- so is a WAV file
pub readable_sound : (rate : ℕ) (wav : Result Wav WavFault) → IsReadable wav → IsSound (sound_in rate wav)
readable_sound rate (Err fault) h = absurd h
readable_sound rate (Ok wav) h = changed_sound wav.rate rate wav.kind (samples_at wav.wide wav.body)

twice : (kind : Kind) (n : ℕ) → 2 * channels_of kind * n ≡ 2 * (n * channels_of kind)
twice Mono n = omega arith
twice Stereo n = omega arith

-- how many bytes a changed file has
pub written_is : (kind : Kind) (samples : List ℤ) (from to block count : ℕ) → block ≡ 2 * channels_of kind → count ≡ blocks_of kind samples
    → 44 + block * output_length count from to ≡ 44 + 2 * length (resampled from to kind samples)
written_is kind samples from to block count is_block is_count =
    ap (λ n. 44 + n * output_length count from to) is_block
    ∙ ap (λ n. 44 + 2 * channels_of kind * output_length n from to) is_count
    ∙ ap (λ n. 44 + n) (twice kind (output_length (blocks_of kind samples) from to))
    ∙ ap (λ n. 44 + 2 * n) (sym (resampled_length from to kind samples))

-- a file at the rate of the script
abbrev pub sound_with : Kind → List ℤ → Sound
sound_with kind samples = record { kind = kind; samples = samples }

own_samples : (rate : ℕ) (kind : Kind) (samples : List ℤ) → 0 < rate → IsFile kind samples → resampled rate rate kind samples ≡ samples
own_samples rate kind samples some file = same_rate rate kind samples some file

pub own_sound : (bytes : List ℕ) (wav : Wav) → length bytes ≤ 268435456 → read_of bytes ≡ Ok wav → sound_of wav.rate wav ≡ sound_with wav.kind (samples_at wav.wide wav.body)
own_sound bytes wav few read =
    let file = is_file bytes wav read in
    let within : length wav.body ≤ 268435456 = omega (arith, file.heads) in
    ap (λ (s : List ℤ). sound_with wav.kind s) (own_samples wav.rate wav.kind (samples_at wav.wide wav.body) file.rate (file_of wav.wide wav.kind wav.body file.blocks within))

pub own_bytes : (bytes : List ℕ) (wav : Wav) → length bytes ≤ 268435456 → read_of bytes ≡ Ok wav → counted_bytes (length bytes) (sound_of wav.rate wav) ≡ length bytes
own_bytes bytes wav few read =
    let file = is_file bytes wav read in
    let is = ap (λ (s : Sound). length s.samples) (own_sound bytes wav few read) in
    let twice_is = two_each wav.wide wav.body in
    omega (arith, file.heads, is, twice_is)

-- a file of a known head
pub head_file : (bytes : List ℕ) (head : Head) → IsHeadOf bytes head → length bytes ≤ 268435456 → IsFile head.kind (samples_at head.wide (wav_at bytes head).body)
head_file bytes head told few =
    let file = is_file bytes (wav_at bytes head) told.read in
    file_of head.wide head.kind (wav_at bytes head).body file.blocks (omega (arith, file.heads, few))

pub head_blocks : (bytes : List ℕ) (head : Head) → IsHeadOf bytes head → IsSound (sound_with head.kind (samples_at head.wide (wav_at bytes head).body))
head_blocks bytes head told = blocks_sound head.wide head.kind (wav_at bytes head).body (is_file bytes (wav_at bytes head) told.read).blocks

-- at its own rate it is what its bytes hold
pub head_sound : (bytes : List ℕ) (head : Head) → IsHeadOf bytes head → length bytes ≤ 268435456
    → sound_with head.kind (samples_at head.wide (wav_at bytes head).body) ≡ sound_in head.rate (read_of bytes)
head_sound bytes head told few = sym (own_sound bytes (wav_at bytes head) few told.read) ∙ sym (ap (sound_in head.rate) told.read)
