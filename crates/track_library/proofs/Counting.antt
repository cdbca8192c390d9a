-- The head of an audio file tells what it counts for.
use Rattle.std.proofs.Common.{◌≡◌, ◌≤◌, ◌∙◌, ℕ, ◌+◌, ◌*◌, ◌/◌, Bool, true, false, cond, List, [], ◌++◌, length, refl, sym, ap, subst, arith}
use Rattle.std.specs.Prelude.{Option, Some, None, Result, Ok, Err, MatchResult, max, nat_le}
use Rattle.std.specs.Option.{ForSome}
use Rattle.std.proofs.lemmas.Bool.{le-leb}
use Rattle.liq_base.specs.Files.{Files, FrontFound, file_at}
use Rattle.liq_base.specs.Pieces.{IsPrefix}
use Rattle.liq_base.specs.Kinds.{channels_of}
use Rattle.liq_base.specs.declared.memory.Kind.{Kind}
use Rattle.liq_base.specs.declared.memory.Kind.TheVariants.{Mono, Stereo}
use Rattle.wav_io.specs.Fronts.{AreWhole, IsHeadOf, wav_at}
use Rattle.wav_io.specs.Reading.{Wav, read_of}
use Rattle.wav_io.specs.declared.head.Head.{Head}
use Rattle.wav_io.specs.declared.fault.WavFault.{WavFault}
use Rattle.resample.specs.Resampled.{blocks_of, resampled}
use Rattle.frame_core.specs.Sounds.{IsSound}
use Rattle.track_library.specs.Files.{sound_in}
use Rattle.track_library.specs.Heads.{blocks_in, head_count, samples_in, written_size, FrontOf, HeadFound, IsFoundHead, IsHeadIn}
use Rattle.track_library.specs.Walk.{Audio, audio_at, audio_in, audio_opened, bytes_in, count_of, counted_bytes, of_at_most, samples_at, sound_from, sound_of, wav_opened, wav_or_fault}
use Rattle.track_library.specs.declared.rules.Rules.{Rules}
use Rattle.track_library.specs.declared.fault.Unusable.{Unusable}
use Rattle.track_library.specs.declared.fault.Unusable.TheVariants.{NotWav, TooLong}
use Rattle.track_library.proofs.Changed.{changed_sound, written_is}
use Rattle.track_library.proofs.Sound.{samples_long, wide_long}

samples_are : (wide : Bool) (blocks : List ℕ) → length (samples_at wide blocks) ≡ samples_in wide (length blocks)
samples_are false blocks = samples_long blocks
samples_are true blocks = wide_long blocks

pub blocks_are : (head : Head) (blocks : List ℕ) → length blocks ≡ head.size → blocks_of head.kind (samples_at head.wide blocks) ≡ blocks_in head
blocks_are head blocks sized = ap (λ n. n / channels_of head.kind) (samples_are head.wide blocks ∙ ap (samples_in head.wide) sized)

-- so many bytes hold a block, and no more than may be changed to another rate
pub some_blocks : (wide : Bool) (kind : Kind) (size : ℕ) → AreWhole wide kind size → 1 ≤ samples_in wide size / channels_of kind
some_blocks false Mono size blocks = omega (arith, blocks.some, blocks.whole)
some_blocks false Stereo size blocks = omega (arith, blocks.some, blocks.whole)
some_blocks true Mono size blocks = omega (arith, blocks.some, blocks.whole)
some_blocks true Stereo size blocks = omega (arith, blocks.some, blocks.whole)

pub few_blocks : (wide : Bool) (kind : Kind) (size : ℕ) → size ≤ 268435456 → samples_in wide size / channels_of kind ≤ 134217728
few_blocks false Mono size few = omega (arith, few)
few_blocks false Stereo size few = omega (arith, few)
few_blocks true Mono size few = omega (arith, few)
few_blocks true Stereo size few = omega (arith, few)

written_at : (head : Head) (rate : ℕ) (blocks : List ℕ) → length blocks ≡ head.size
    → written_size head rate ≡ 44 + 2 * length (resampled head.rate rate head.kind (samples_at head.wide blocks))
written_at head rate blocks sized = written_is head.kind (samples_at head.wide blocks) head.rate rate (2 * channels_of head.kind) (blocks_in head) refl (sym (blocks_are head blocks sized))

-- what a file of this head counts for
pub counted_is : (rules : Rules) (bytes : List ℕ) (head : Head) → IsHeadOf bytes head
    → counted_bytes (length bytes) (sound_of rules.rate (wav_at bytes head)) ≡ max (length bytes) (written_size head rules.rate)
counted_is rules bytes head told = ap (max (length bytes)) (sym (written_at head rules.rate (wav_at bytes head).body told.sized))

pub audio_is : (rules : Rules) (bytes : List ℕ) (head : Head) → IsHeadOf bytes head
    → audio_in rules bytes (read_of bytes) ≡ of_at_most rules.file (sound_in rules.rate (read_of bytes), max (length bytes) (written_size head rules.rate))
audio_is rules bytes head told =
    ap (audio_in rules bytes) told.read
    ∙ ap (λ n. of_at_most rules.file (sound_of rules.rate (wav_at bytes head), n)) (counted_is rules bytes head told)
    ∙ ap (λ r. of_at_most rules.file (sound_in rules.rate r, max (length bytes) (written_size head rules.rate))) (sym told.read)

fits : (b : Bool) (audio : Audio) → count_of (cond b (Ok audio) (Err TooLong)) ≡ cond b (Ok audio.1) (Err TooLong)
fits true audio = refl
fits false audio = refl

pub head_counts : (rules : Rules) (bytes : List ℕ) (head : Head) → IsHeadOf bytes head → count_of (audio_in rules bytes (read_of bytes)) ≡ head_count rules head (length bytes)
head_counts rules bytes head told =
    ap count_of (audio_is rules bytes head told) ∙ fits (nat_le (max (length bytes) (written_size head rules.rate)) rules.file) (sound_in rules.rate (read_of bytes), max (length bytes) (written_size head rules.rate))

matches : (b : Bool) (found : Result Audio Unusable) (audio : Audio) → found ≡ cond b (Ok audio) (Err TooLong)
    → MatchResult (cond b (Ok audio.1) (Err TooLong)) (λ count. found ≡ Ok (audio.0, count)) (λ fault. found ≡ Err fault)
matches true found audio is = is
matches false found audio is = is

pub audio_matches : (rules : Rules) (bytes : List ℕ) (head : Head) → IsHeadOf bytes head
    → MatchResult (head_count rules head (length bytes)) (λ count. audio_in rules bytes (read_of bytes) ≡ Ok (sound_in rules.rate (read_of bytes), count))
    (λ fault. audio_in rules bytes (read_of bytes) ≡ Err fault)
audio_matches rules bytes head told =
    matches (nat_le (max (length bytes) (written_size head rules.rate)) rules.file) (audio_in rules bytes (read_of bytes))
    (sound_in rules.rate (read_of bytes), max (length bytes) (written_size head rules.rate)) (audio_is rules bytes head told)

-- what counts is a sound
sound_at_most : (b : Bool) (audio : Audio) (count : ℕ) → IsSound audio.0 → count_of (cond b (Ok audio) (Err TooLong)) ≡ Ok count → IsSound (sound_from (cond b (Ok audio) (Err TooLong)))
sound_at_most true audio count sound is = sound
sound_at_most false audio count sound is = absurd (cc)

sound_read : (rules : Rules) (bytes : List ℕ) (read : Result Wav WavFault) (count : ℕ) → count_of (audio_in rules bytes read) ≡ Ok count → IsSound (sound_from (audio_in rules bytes read))
sound_read rules bytes (Err fault) count is = absurd (cc)
sound_read rules bytes (Ok wav) count is =
    sound_at_most (nat_le (counted_bytes (length bytes) (sound_of rules.rate wav)) rules.file) (sound_of rules.rate wav, counted_bytes (length bytes) (sound_of rules.rate wav)) count
    (changed_sound wav.rate rules.rate wav.kind (samples_at wav.wide wav.body)) is

pub counted_sound : (rules : Rules) (found : Result (List ℕ) Unusable) (count : ℕ) → count_of (audio_opened rules found) ≡ Ok count → IsSound (sound_from (audio_opened rules found))
counted_sound rules (Err fault) count is = absurd (cc)
counted_sound rules (Ok bytes) count is = sound_read rules bytes (read_of bytes) count is

-- the first bytes of a file, in what was an empty list
pub front_found : (name : List ℕ) (most : ℕ) (files : Option Files) (front size : ℕ) (before after : List ℕ) → FrontFound files name front most size before after → before ≡ []
    → FrontOf name most files after size
front_found name most files front size before after found none = record {
  bytes = found.bytes;
  is_front = subst (λ shown. IsPrefix shown found.bytes) (sym (found.appended ∙ ap (λ b. b ++ found.shown) none)) found.is_front;
  file = record { sized = found.sized; fits = found.fits; is_file = found.is_file };
}

-- bytes that were read are those of the file
file_read : (most : ℕ) (file : Option (List ℕ)) (bytes : List ℕ) → bytes_in most file ≡ Ok bytes → file ≡ Some bytes
file_read most None bytes is = absurd (cc)
file_read most (Some held) bytes is = at_test (nat_le (length held) most) is where
  at_test : (b : Bool) → cond b (Ok held) (Err TooLong) ≡ Ok bytes → Some held ≡ Some bytes
  at_test true e = (let same : held ≡ bytes = (cc) in ap Some same)
  at_test false e = absurd (cc)

pub head_read : (name : List ℕ) (most : ℕ) (files : Option Files) (bytes : List ℕ) (found : Result (Head × ℕ) Unusable)
    → ForSome files (λ all. bytes_in most (file_at all name) ≡ Ok bytes) → length bytes ≤ most → IsHeadIn bytes found → IsFoundHead name most files found
head_read name most files bytes (Ok (head, size)) is few h = record {
  bytes = bytes;
  told = h.0;
  file = record { sized = h.1; fits = omega (arith, h.1, few); is_file = λ all t. file_read most (file_at all name) bytes (is all t) };
}
head_read name most files bytes (Err fault) is few h = λ all t. ap wav_opened (is all t) ∙ h

-- a file that is there and has at most so many bytes is read
bytes_read : (most : ℕ) (bytes : List ℕ) → length bytes ≤ most → bytes_in most (Some bytes) ≡ Ok bytes
bytes_read most bytes few = ap (λ b. cond b (Ok bytes) (Err TooLong)) (le-leb (length bytes) most few)

pub found_bytes : (name : List ℕ) (most : ℕ) (files : Option Files) (head : Head) (size : ℕ) (found : HeadFound name most files head size)
    → ForSome files (λ all. bytes_in most (file_at all name) ≡ Ok found.bytes)
found_bytes name most files head size found all t =
    ap (bytes_in most) (found.file.is_file all t) ∙ bytes_read most found.bytes (omega (arith, found.file.sized, found.file.fits))

-- what a file counts for, by its head
pub counted_by_head : (rules : Rules) (name : List ℕ) (files : Option Files) (head : Head) (size : ℕ) → HeadFound name rules.file files head size
    → ForSome files (λ all. count_of (audio_at rules all name) ≡ head_count rules head size)
counted_by_head rules name files head size found all t =
    ap (λ r. count_of (audio_opened rules r)) (found_bytes name rules.file files head size found all t)
    ∙ head_counts rules found.bytes head found.told
    ∙ ap (head_count rules head) found.file.sized

bad_read : (rules : Rules) (bytes : List ℕ) (read : Result Wav WavFault) (fault : Unusable) → wav_or_fault read ≡ Err fault → count_of (audio_in rules bytes read) ≡ Err fault
bad_read rules bytes (Ok wav) fault is = absurd (cc)
bad_read rules bytes (Err bad) fault is = (let same : NotWav bad ≡ fault = (cc) in ap Err same)

-- a file that cannot be read counts for nothing
pub bad_counts : (rules : Rules) (found : Result (List ℕ) Unusable) (fault : Unusable) → wav_opened found ≡ Err fault → count_of (audio_opened rules found) ≡ Err fault
bad_counts rules (Err bad) fault is = (let same : bad ≡ fault = (cc) in ap Err same)
bad_counts rules (Ok bytes) fault is = bad_read rules bytes (read_of bytes) fault is
