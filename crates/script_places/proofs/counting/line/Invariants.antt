use Rattle.std.proofs.Common.{◌≡◌, ◌≤◌, take, count_by}
use Rattle.script_places.specs.Counting.{is_lf}
use Rattle.script_places.proofs.counting.line.Given as goal

abbrev pub invariant-loop-byte : goal.invariant-loop-byte
invariant-loop-byte l = (l.ends ≡ count_by is_lf (take l.byte-index l.before)) × (l.ends ≤ l.byte-index)
