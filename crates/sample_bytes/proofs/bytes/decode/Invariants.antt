use Rattle.std.proofs.Common.{◌≡◌, ◌≤◌, ◌-◌, ◌*◌, length, take}
use Rattle.frame_core.specs.Bytes.{samples_from}
use Rattle.sample_bytes.proofs.bytes.decode.Given as goal

abbrev pub invariant-loop-into : goal.invariant-loop-into
invariant-loop-into l = (length l.into ≡ length l.fn.into) × (l.done ≤ length l.into) × (take l.done l.into ≡ samples_from (take (2 * l.done) l.bytes))

abbrev pub decreases-loop-into : goal.decreases-loop-into
decreases-loop-into l = length l.into - l.done

abbrev pub invariant-loop-at : goal.invariant-loop-at
invariant-loop-at l = (length l.into ≡ length l.fn.into) × (take l.at l.into ≡ samples_from (take (2 * l.at) l.bytes))
