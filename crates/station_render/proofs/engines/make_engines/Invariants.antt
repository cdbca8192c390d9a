use Rattle.std.proofs.Common.{◌≡◌, ◌≤◌, ℕ, List, Some, length, slice_get, vec_len, vec_capacity}
use Rattle.station_render.specs.Sinks.{lists_of}
use Rattle.station_render.specs.Engines.{AreAt, AreEmptyBelow, AreKeeping, outs_of, pooled}
use Rattle.station_render.specs.Runs.{setting_by}
use Rattle.station_render.proofs.engines.make_engines.Given as goal

abbrev pub invariant-loop-clock : goal.invariant-loop-clock
invariant-loop-clock g l = record {
  made : AreAt (setting_by l.job) l.engines.items;
  keeping : AreKeeping l.job.cues l.engines.items;
  count : length l.engines.items ≡ l.clock;
  len : vec_len l.engines ≡ l.clock;
  room : length (lists_of l.fn.groups.items) ≤ vec_capacity l.engines;
  size : length (lists_of l.groups.items) ≡ length (lists_of l.fn.groups.items);
  empty : AreEmptyBelow l.clock (lists_of l.groups.items);
  pool : pooled (outs_of l.engines.items) (lists_of l.groups.items) ≡ lists_of l.fn.groups.items;
  left : (m : ℕ) (group : List _) → l.clock ≤ m → slice_get (lists_of l.groups.items) m ≡ Some group → slice_get (lists_of l.fn.groups.items) m ≡ Some group;
}
