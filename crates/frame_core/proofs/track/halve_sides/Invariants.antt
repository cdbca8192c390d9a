use Rattle.std.proofs.Common.{◌≡◌, length}
use Rattle.frame_core.proofs.Halves.{halved}
use Rattle.frame_core.proofs.track.halve_sides.Given as goal

abbrev pub invariant-loop-j : goal.invariant-loop-j
invariant-loop-j l = record {
  long : length l.left ≡ length l.initial.left;
  left : l.left ≡ halved l.j l.initial.left l.right;
}
