use Rattle.std.proofs.Common.{◌≡◌, ◌≤◌, ◌-◌, length, take}
use Rattle.op_cross.specs.States.{mixed_on, mixed_side}
use Rattle.op_cross.proofs.state.CrossState.copy_mixed.Given as goal

abbrev pub invariant-loop-done : goal.invariant-loop-done
invariant-loop-done l = record {
  within : l.done ≤ length l.left;
  same : length l.right ≡ length l.left;
  long : length l.left ≡ length l.initial.left;
  state : l.self ≡ mixed_on l.done l.initial.self;
  lefts : take l.done l.left ≡ mixed_side (λ cell. cell.left) l.done l.initial.self;
  rights : take l.done l.right ≡ mixed_side (λ cell. cell.right) l.done l.initial.self;
}

abbrev pub decreases-loop-done : goal.decreases-loop-done
decreases-loop-done l = length l.left - l.done
