use Rattle.std.proofs.Common.{◌≡◌, ◌∙◌, ap, subst, sym}
use Rattle.wav_io.specs.Fronts.{wav_at}
use Rattle.frame_core.specs.Sounds.{IsSound}
use Rattle.resample.specs.Bytes.{wide_samples_in}
use Rattle.track_library.specs.Walk.{samples_at}
use Rattle.track_library.proofs.Changed.{head_blocks, head_sound, sound_with}
use Rattle.track_library.proofs.recording.wide_track.Goals as goal

pub new-requires : goal.new-requires
new-requires c =
    let head = c.args.head in
    let body = (wav_at c.args.bytes.items head).body in
    let samples : c.in_ok-samples.samples.items ≡ samples_at head.wide body =
    c.in_ok-samples.ensures.samples ∙ ap wide_samples_in (c.body_of.ensures ∙ ap (λ b. (wav_at b head).body) c.deref.ensures.value) ∙ ap (λ wide. samples_at wide body) (sym c.requires.wide) in
    subst (λ s. IsSound (sound_with head.kind s)) (sym samples) (head_blocks c.args.bytes.items head c.requires.head)

pub returns : goal.returns
returns c =
    let head = c.args.head in
    let body = (wav_at c.args.bytes.items head).body in
    let samples : c.in_ok-samples.samples.items ≡ samples_at head.wide body =
    c.in_ok-samples.ensures.samples ∙ ap wide_samples_in (c.body_of.ensures ∙ ap (λ b. (wav_at b head).body) c.deref.ensures.value) ∙ ap (λ wide. samples_at wide body) (sym c.requires.wide) in
    record { track = c.new.ensures ∙ ap (sound_with head.kind) samples ∙ head_sound c.args.bytes.items head c.requires.head c.requires.few }
