use Rattle.std.proofs.Common.{◌∙◌, ap, subst, sym}
use Rattle.wav_io.specs.Fronts.{wav_at}
use Rattle.frame_core.specs.Sounds.{IsSound}
use Rattle.track_library.specs.Walk.{samples_at}
use Rattle.track_library.proofs.Changed.{head_blocks, head_sound, sound_with}
use Rattle.track_library.proofs.recording.own_track.Goals as goal

pub of_bytes-requires-clause-sound : goal.of_bytes-requires-clause-sound
of_bytes-requires-clause-sound c =
    subst (λ wide. IsSound (sound_with c.args.head.kind (samples_at wide (wav_at c.args.bytes.items c.args.head).body))) c.requires.narrow
    (head_blocks c.args.bytes.items c.args.head c.requires.head)

pub returns : goal.returns
returns c =
    c.of_bytes.ensures
    ∙ ap (λ wide. sound_with c.args.head.kind (samples_at wide (wav_at c.args.bytes.items c.args.head).body)) (sym c.requires.narrow)
    ∙ head_sound c.args.bytes.items c.args.head c.requires.head c.requires.few
