use Rattle.std.proofs.Common.{◌≡◌, ◌++◌, take}
use Rattle.std.specs.Prelude.{string_bytes}
use Rattle.station_render.specs.Runs.{counted_lines}
use Rattle.station_render.proofs.reports.push_buffers.Given as goal

abbrev pub invariant-loop-buffer : goal.invariant-loop-buffer
invariant-loop-buffer l = string_bytes l.text ≡ string_bytes l.fn.text ++ counted_lines 0 (take l.buffer l.counts)
