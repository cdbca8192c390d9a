use Rattle.std.proofs.Common.{◌≡◌, ◌≤◌, ◌-◌, length, take}
use Rattle.std.specs.Simd.Lanes.{zip2}
use Rattle.sample_kernels.specs.Samples.{half_of}
use Rattle.sample_kernels.proofs.gain.halves.Given as goal

abbrev pub invariant-loop-into : goal.invariant-loop-into
invariant-loop-into l = (length l.into ≡ length l.fn.into) × (l.done ≤ length l.into) × (take l.done l.into ≡ zip2 half_of (take l.done l.left) (take l.done l.right))

abbrev pub decreases-loop-into : goal.decreases-loop-into
decreases-loop-into l = length l.into - l.done

abbrev pub invariant-loop-at : goal.invariant-loop-at
invariant-loop-at l = (length l.into ≡ length l.fn.into) × (take l.at l.into ≡ zip2 half_of (take l.at l.left) (take l.at l.right))
