use Rattle.track_library.proofs.Changed.{own_bytes, own_sound}
use Rattle.track_library.proofs.laws.own_rate_changes_nothing.Goals as goal

pub returns : goal.returns
returns c = record { sound = own_sound; bytes = own_bytes }
