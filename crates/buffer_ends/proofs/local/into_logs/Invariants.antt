use Rattle.std.proofs.Common.{◌≡◌, ◌+◌, ◌≤◌, ◌++◌, map, length, vec_capacity}
use Rattle.std.specs.Vec.Iter.{into_iter_items, into_iter_len}
use Rattle.buffer_ends.specs.Local.{closed_windows}
use Rattle.buffer_ends.proofs.local.into_logs.Given as goal

abbrev pub invariant-loop-list : goal.invariant-loop-list
invariant-loop-list l =
    (l.logs.items ++ map closed_windows (into_iter_items l.list-iterator) ≡ map closed_windows (into_iter_items l.initial.list-iterator))
    × (length l.logs.items + length (into_iter_items l.list-iterator) ≤ vec_capacity l.logs)
    × (into_iter_len l.list-iterator ≡ length (into_iter_items l.list-iterator))
