use Rattle.std.proofs.Common.{◌≡◌, ◌++◌, length}
use Rattle.track_library.specs.Lists.{lines, names_among, names_listed}
use Rattle.track_library.proofs.list.read_list.Given as goal

-- the names so far and those in the rest are all names
abbrev pub invariant-loop-rest : goal.invariant-loop-rest
invariant-loop-rest l = names_listed l.bytes ≡ l.names.items ++ names_among (lines l.rest)

abbrev pub decreases-loop-rest : goal.decreases-loop-rest
decreases-loop-rest l = length l.rest
