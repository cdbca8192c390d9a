use Rattle.std.proofs.Common.{◌≡◌, ◌≤◌, ◌-◌, ◌*◌, length, take}
use Rattle.liq_base.specs.declared.memory.Kind.TheVariants.{Stereo}
use Rattle.sample_bytes.specs.Encoded.{encoded}
use Rattle.sample_bytes.proofs.bytes.encode_stereo.Given as goal

abbrev pub invariant-loop-done : goal.invariant-loop-done
invariant-loop-done l = (length l.into ≡ 4 * length l.left) × (l.done ≤ length l.left) × (take (4 * l.done) l.into ≡ encoded Stereo (take l.done l.left) (take l.done l.right))

abbrev pub decreases-loop-done : goal.decreases-loop-done
decreases-loop-done l = length l.left - l.done

abbrev pub invariant-loop-at : goal.invariant-loop-at
invariant-loop-at l = (length l.into ≡ 4 * length l.left) × (take (4 * l.at) l.into ≡ encoded Stereo (take l.at l.left) (take l.at l.right))
