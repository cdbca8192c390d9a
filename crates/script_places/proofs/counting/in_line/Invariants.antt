use Rattle.std.proofs.Common.{◌≡◌, ◌+◌, ◌≤◌, length, take}
use Rattle.std.specs.List.{suffix_len}
use Rattle.script_places.specs.Counting.{is_no_lf}
use Rattle.script_places.proofs.counting.in_line.Given as goal

abbrev pub invariant-loop-start : goal.invariant-loop-start
invariant-loop-start l = (l.start ≤ length l.before) × (l.start + suffix_len is_no_lf l.before ≡ length l.before + suffix_len is_no_lf (take l.start l.before))

abbrev pub decreases-loop-start : goal.decreases-loop-start
decreases-loop-start l = l.start
