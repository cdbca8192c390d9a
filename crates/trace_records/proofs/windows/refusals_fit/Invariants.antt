use Rattle.std.proofs.Common.{◌≡◌, ◌≤◌, ◌+◌, drop, length}
use Rattle.trace_records.specs.Told.{refusals_fit}
use Rattle.trace_records.proofs.windows.refusals_fit.Given as goal

abbrev pub invariant-loop-put : goal.invariant-loop-put
invariant-loop-put l = record {
  at : l.place.at ≤ length l.takes;
  got : l.place.got ≤ l.place.at;
  count : l.count ≤ l.opening + l.put-index;
  same : refusals_fit l.capacity l.count l.place.got l.place.floor (drop l.put-index l.puts) (drop l.place.at l.takes) ≡ refusals_fit l.capacity l.opening 0 l.capacity l.puts l.takes;
}
