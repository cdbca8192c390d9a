use Rattle.std.proofs.Common.{◌+◌, ◌≤◌, ◌∙◌, length, ap, sym, subst}
use Rattle.frame_core.specs.Held.{are_inside, samples_held}
use Rattle.frame_core.proofs.Bytes.{half_of_part}
use Rattle.frame_core.proofs.track.count_held.Goals as goal

pub returns-in-Bytes-clause-count : goal.returns-in-Bytes-clause-count
returns-in-Bytes-clause-count c =
    let raw = c.in-Bytes.raw in
    let inside : raw.from + raw.size ≤ length raw.bytes.items = subst are_inside c.in-Bytes.is c.requires in
    sym (half_of_part raw.bytes.items raw.from raw.size inside) ∙ sym (ap (λ h. length (samples_held h)) c.in-Bytes.is)
