use Rattle.wav_io.specs.Reading.{read_of}
use Rattle.track_library.proofs.Changed.{readable_sound}
use Rattle.track_library.proofs.undecoded.Undecoded.new.Goals as goal

pub returns-clause-sound : goal.returns-clause-sound
returns-clause-sound c = readable_sound c.args.rate (read_of c.args.bytes.items) c.requires.used.readable
