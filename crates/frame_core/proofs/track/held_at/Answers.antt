use Rattle.std.proofs.Common.{◌<◌, length, take, drop, arith, ap, subst}
use Rattle.frame_core.specs.Bytes.{samples_from}
use Rattle.frame_core.specs.Held.{samples_held}
use Rattle.frame_core.proofs.Bytes.{bytes_there}
use Rattle.frame_core.proofs.track.held_at.Goals as goal

pub number_at-requires : goal.number_at-requires
number_at-requires c =
    let raw = c.in-Bytes.raw in
    let body = take raw.size (drop raw.from raw.bytes.items) in
    let there : c.args.at < length (samples_from body) = subst (λ h. c.args.at < length (samples_held h)) c.in-Bytes.is c.requires.there in
    omega (arith, bytes_there body c.args.at there, ap length c.body_of.ensures)
