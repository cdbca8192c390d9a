use Rattle.std.proofs.Common.{vec_len}
use Rattle.station_render.specs.Sinks.{AreAllEmpty, lists_of}
use Rattle.station_render.proofs.close.end_all.Given as goal

abbrev pub invariant-loop-group : goal.invariant-loop-group
invariant-loop-group g l = AreAllEmpty (lists_of l.groups.items)

abbrev pub decreases-loop-group : goal.decreases-loop-group
decreases-loop-group g l = vec_len l.groups
