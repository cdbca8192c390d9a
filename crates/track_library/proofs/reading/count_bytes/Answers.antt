use Rattle.track_library.proofs.Counting.{audio_matches}
use Rattle.track_library.proofs.reading.count_bytes.Goals as goal

pub returns : goal.returns
returns c = record { counted = rw c.count_head.ensures (audio_matches c.args.rules c.args.bytes.now c.args.head c.requires.head) }
