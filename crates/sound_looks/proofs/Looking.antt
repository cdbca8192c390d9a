-- A look says what a walk makes of a file.
use Rattle.std.proofs.Common.{◌≡◌, ◌∙◌, ℕ, Bool, true, false, cond, List, length, refl, sym, ap}
use Rattle.std.specs.Prelude.{Option, Result, Ok, Err, nat_le}
use Rattle.std.specs.Option.{ForSome}
use Rattle.liq_base.specs.Files.{Files, file_at}
use Rattle.wav_io.specs.Fronts.{IsHeadOf, wav_at}
use Rattle.wav_io.specs.Reading.{Wav, read_of}
use Rattle.wav_io.specs.declared.head.Head.{Head}
use Rattle.wav_io.specs.declared.fault.WavFault.{WavFault}
use Rattle.sound_looks.specs.Looks.{counted_as, facts_of, head_facts, look_in, look_of}
use Rattle.sound_looks.specs.declared.look.Look.TheVariants.{Bad, Sound}
use Rattle.track_library.specs.Walk.{Audio, audio_in, audio_opened, bytes_in, count_of, counted_bytes, sound_of, wav_opened, wav_or_fault}
use Rattle.track_library.specs.Heads.{HeadFound}
use Rattle.track_library.specs.declared.rules.Rules.{Rules}
use Rattle.track_library.specs.declared.fault.Unusable.{Unusable}
use Rattle.track_library.specs.declared.fault.Unusable.TheVariants.{NotWav, TooLong}
use Rattle.track_library.proofs.Counting.{blocks_are, counted_is, found_bytes}

fits : (b : Bool) (audio : Audio) → count_of (cond b (Ok audio) (Err TooLong)) ≡ cond b (Ok audio.1) (Err TooLong)
fits true audio = refl
fits false audio = refl

tells_read : (rules : Rules) (bytes : List ℕ) (read : Result Wav WavFault)
    → count_of (audio_in rules bytes read) ≡ counted_as rules (look_in rules bytes read)
tells_read rules bytes (Err fault) = refl
tells_read rules bytes (Ok wav) =
    fits (nat_le (counted_bytes (length bytes) (sound_of rules.rate wav)) rules.file)
    (sound_of rules.rate wav, counted_bytes (length bytes) (sound_of rules.rate wav))

pub tells : (rules : Rules) (found : Result (List ℕ) Unusable)
    → count_of (audio_opened rules found) ≡ counted_as rules (look_of rules found)
tells rules (Err fault) = refl
tells rules (Ok bytes) = tells_read rules bytes (read_of bytes)

-- a file of a known head
facts_are : (rules : Rules) (bytes : List ℕ) (head : Head) → IsHeadOf bytes head → facts_of rules bytes (wav_at bytes head) ≡ head_facts rules (length bytes) head
facts_are rules bytes head told =
    let blocks = blocks_are head (wav_at bytes head).body told.sized in
    let counted = counted_is rules bytes head told in
    rw (counted, blocks, sym told.place) refl

look_is : (rules : Rules) (bytes : List ℕ) (head : Head) → IsHeadOf bytes head → look_of rules (Ok bytes) ≡ Sound (head_facts rules (length bytes) head)
look_is rules bytes head told = ap (look_in rules bytes) told.read ∙ ap Sound (facts_are rules bytes head told)

pub looked_head : (rules : Rules) (name : List ℕ) (files : Option Files) (head : Head) (size : ℕ) → HeadFound name rules.file files head size
    → ForSome files (λ all. look_of rules (bytes_in rules.file (file_at all name)) ≡ Sound (head_facts rules size head))
looked_head rules name files head size found all t =
    ap (look_of rules) (found_bytes name rules.file files head size found all t) ∙ look_is rules found.bytes head found.told
    ∙ ap (λ n. Sound (head_facts rules n head)) found.file.sized

bad_read : (rules : Rules) (bytes : List ℕ) (read : Result Wav WavFault) (fault : Unusable) → wav_or_fault read ≡ Err fault → look_in rules bytes read ≡ Bad fault
bad_read rules bytes (Ok wav) fault is = absurd (cc)
bad_read rules bytes (Err bad) fault is = (let same : NotWav bad ≡ fault = (cc) in ap Bad same)

pub looked_bad : (rules : Rules) (found : Result (List ℕ) Unusable) (fault : Unusable) → wav_opened found ≡ Err fault → look_of rules found ≡ Bad fault
looked_bad rules (Err bad) fault is = (let same : bad ≡ fault = (cc) in ap Bad same)
looked_bad rules (Ok bytes) fault is = bad_read rules bytes (read_of bytes) fault is
