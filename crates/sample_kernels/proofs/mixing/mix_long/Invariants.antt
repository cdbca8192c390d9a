use Rattle.std.proofs.Common.{◌≡◌, ◌≤◌, ◌-◌, length, take}
use Rattle.sample_kernels.specs.Mixing.{mixed}
use Rattle.sample_kernels.proofs.mixing.mix_long.Given as goal

abbrev pub invariant-loop-done : goal.invariant-loop-done
invariant-loop-done l = (length l.into ≡ length l.from) × (l.done ≤ length l.from) × (take l.done l.into ≡ mixed (take l.done l.from) (take l.done l.to) l.start l.whole)

abbrev pub decreases-loop-done : goal.decreases-loop-done
decreases-loop-done l = length l.from - l.done

abbrev pub invariant-loop-at : goal.invariant-loop-at
invariant-loop-at l = (length l.into ≡ length l.from) × (take l.at l.into ≡ mixed (take l.at l.from) (take l.at l.to) l.start l.whole)
