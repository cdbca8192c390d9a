use Rattle.std.proofs.Common.{◌≡◌, ◌≤◌, length, vec_len}
use Rattle.station_render.specs.Sinks.{lists_of}
use Rattle.station_render.specs.Engines.{AreEmptyBelow, outs_of, pooled}
use Rattle.station_render.proofs.engines.give_back.Given as goal

abbrev pub invariant-loop-engine : goal.invariant-loop-engine
invariant-loop-engine g l = record {
  few : length l.engines.items ≤ length (lists_of l.groups.items);
  empty : AreEmptyBelow (length l.engines.items) (lists_of l.groups.items);
  pool : pooled (outs_of l.engines.items) (lists_of l.groups.items) ≡ pooled (outs_of l.fn.engines.items) (lists_of l.fn.groups.items);
}

abbrev pub decreases-loop-engine : goal.decreases-loop-engine
decreases-loop-engine g l = vec_len l.engines
