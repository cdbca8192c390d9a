use Rattle.std.proofs.Common.{◌≡◌, ◌≤◌, ◌++◌, ◌-◌, length, take}
use Rattle.std.specs.Prelude.{string_bytes}
use Rattle.stations.specs.Reports.{buffer_lines}
use Rattle.stations.specs.Stations.{Station}
use Rattle.station_check.specs.Steps.{IsOf}
use Rattle.station_check.proofs.buffers.push_lines.Given as goal

-- the lines of the buffers so far
abbrev pub invariant-loop-number : goal.invariant-loop-number
invariant-loop-number l = record {
  within : l.number ≤ length l.plan.buffers;
  told : (station : Station) → IsOf l.plan l.clocks station
      → string_bytes l.text ≡ string_bytes l.initial.text ++ buffer_lines station 0 (take l.number l.plan.buffers);
}

abbrev pub decreases-loop-number : goal.decreases-loop-number
decreases-loop-number l = length l.plan.buffers - l.number
