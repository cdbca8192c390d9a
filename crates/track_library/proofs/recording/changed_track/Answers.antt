use Rattle.std.proofs.Common.{sym, subst}
use Rattle.wav_io.specs.Fronts.{wav_at}
use Rattle.frame_core.specs.Sounds.{IsSound}
use Rattle.resample.specs.Changes.{Samples}
use Rattle.track_library.specs.Walk.{samples_at}
use Rattle.track_library.proofs.Changed.{changed_sound, head_file, sound_with}
use Rattle.track_library.proofs.recording.changed_track.Goals as goal

pub new-requires-clause-there : goal.new-requires-clause-there
new-requires-clause-there c = record { inside = c.requires.head.there; file = head_file c.args.bytes.items c.args.head c.requires.head c.requires.few }

pub of_changed-requires : goal.of_changed-requires
of_changed-requires c =
    let head = c.args.head in
    subst (λ (s : Samples). IsSound (sound_with s.kind s.samples)) (sym c.new.ensures)
    (changed_sound head.rate c.args.rate head.kind (samples_at head.wide (wav_at c.args.bytes.items head).body))
