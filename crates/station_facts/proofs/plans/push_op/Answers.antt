use Rattle.station_facts.proofs.Each.{join}
use Rattle.station_facts.proofs.plans.push_op.Goals as goal

pub returns-in_ok-push_flag-in-Playlist-clause-told : goal.returns-in_ok-push_flag-in-Playlist-clause-told
returns-in_ok-push_flag-in-Playlist-clause-told c = rw c.in-Playlist.is (join c.in_ok-push_file-in-Playlist.ensures c.in_ok-push_flag-in-Playlist.ensures)

pub returns-in-Fallback-clause-told : goal.returns-in-Fallback-clause-told
returns-in-Fallback-clause-told c = rw c.in-Fallback.is c.push_choice.ensures

pub returns-in-Crossfade-clause-told : goal.returns-in-Crossfade-clause-told
returns-in-Crossfade-clause-told c = rw (c.in-Crossfade.is, ← c.from.ensures) c.push_sized-in-Crossfade.ensures

pub returns-in-Switch-clause-told : goal.returns-in-Switch-clause-told
returns-in-Switch-clause-told c = rw (c.in-Switch.is, ← c.as_slice.ensures) c.push_switch.ensures.told
