use Rattle.std.proofs.Common.{◌≡◌, ◌≤◌, ◌-◌, ◌*◌, length, take}
use Rattle.std.specs.List.{flat_map}
use Rattle.sample_bytes.specs.Wide.{wide_bytes}
use Rattle.sample_bytes.proofs.wide.encode_wide_mono.Given as goal

abbrev pub invariant-loop-done : goal.invariant-loop-done
invariant-loop-done l = (length l.into ≡ 3 * length l.samples) × (l.done ≤ length l.samples) × (take (3 * l.done) l.into ≡ flat_map wide_bytes (take l.done l.samples))

abbrev pub decreases-loop-done : goal.decreases-loop-done
decreases-loop-done l = length l.samples - l.done

abbrev pub invariant-loop-at : goal.invariant-loop-at
invariant-loop-at l = (length l.into ≡ 3 * length l.samples) × (take (3 * l.at) l.into ≡ flat_map wide_bytes (take l.at l.samples))
