use Rattle.std.proofs.Common.{◌≡◌, ◌<◌, ℕ, false}
use Rattle.std.specs.Prelude.{nat_eq, slice_index}
use Rattle.track_library.proofs.list.cut_line.Given as goal

-- no LF stands before this place
abbrev pub invariant-loop-at : goal.invariant-loop-at
invariant-loop-at l = (k : ℕ) → k < l.at → nat_eq (slice_index l.bytes k) 10 ≡ false
