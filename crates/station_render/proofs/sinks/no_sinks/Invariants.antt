use Rattle.std.proofs.Common.{◌≡◌, ◌≤◌, vec_len, vec_capacity}
use Rattle.station_render.specs.Sinks.{AreEmpty, lists_of}
use Rattle.station_render.proofs.sinks.no_sinks.Given as goal

abbrev pub invariant-loop-clock : goal.invariant-loop-clock
invariant-loop-clock g l = record {
  empty : AreEmpty l._clock (lists_of l.groups.items);
  len : vec_len l.groups ≡ l._clock;
  room : l.clocks ≤ vec_capacity l.groups;
}
