use Rattle.std.proofs.Common.{◌≡◌, ◌≤◌, ◌-◌, ◌*◌, length, take}
use Rattle.std.specs.List.{flat_map}
use Rattle.frame_core.specs.Bytes.{sample_bytes}
use Rattle.sample_bytes.proofs.bytes.encode_mono.Given as goal

abbrev pub invariant-loop-done : goal.invariant-loop-done
invariant-loop-done l = (length l.into ≡ 2 * length l.samples) × (l.done ≤ length l.samples) × (take (2 * l.done) l.into ≡ flat_map sample_bytes (take l.done l.samples))

abbrev pub decreases-loop-done : goal.decreases-loop-done
decreases-loop-done l = length l.samples - l.done

abbrev pub invariant-loop-at : goal.invariant-loop-at
invariant-loop-at l = (length l.into ≡ 2 * length l.samples) × (take (2 * l.at) l.into ≡ flat_map sample_bytes (take l.at l.samples))
