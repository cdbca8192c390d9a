use Rattle.std.proofs.Common.{◌≡◌, ◌≤◌, ◌-◌, drop, length}
use Rattle.trace_records.specs.Told.{passed}
use Rattle.trace_records.proofs.windows.pass.Given as goal

abbrev pub invariant-loop-place : goal.invariant-loop-place
invariant-loop-place l = record {
  at : l.place.at ≤ length l.takes;
  got : l.place.got ≤ l.place.at;
  same : passed l.capacity l.count l.place.got l.place.floor (drop l.place.at l.takes) ≡ passed l.capacity l.count l.initial.place.got l.initial.place.floor (drop l.initial.place.at l.takes);
}

abbrev pub decreases-loop-place : goal.decreases-loop-place
decreases-loop-place l = length l.takes - l.place.at
