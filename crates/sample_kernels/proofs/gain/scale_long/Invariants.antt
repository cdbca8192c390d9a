use Rattle.std.proofs.Common.{◌≡◌, ◌≤◌, ◌-◌, length, take, map}
use Rattle.sample_kernels.specs.Samples.{scaled}
use Rattle.sample_kernels.proofs.gain.scale_long.Given as goal

abbrev pub invariant-loop-into : goal.invariant-loop-into
invariant-loop-into l = (length l.into ≡ length l.fn.into) × (l.done ≤ length l.into) × (take l.done l.into ≡ map (scaled l.millionths) (take l.done l.from))

abbrev pub decreases-loop-into : goal.decreases-loop-into
decreases-loop-into l = length l.into - l.done

abbrev pub invariant-loop-at : goal.invariant-loop-at
invariant-loop-at l = (length l.into ≡ length l.fn.into) × (take l.at l.into ≡ map (scaled l.millionths) (take l.at l.from))
