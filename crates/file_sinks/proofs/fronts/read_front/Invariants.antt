use Rattle.std.proofs.Common.{◌≡◌, ◌+◌}
use Rattle.std.specs.Prelude.{vec_len}
use Rattle.file_sinks.specs.Reading.{Extends, Reads}
use Rattle.file_sinks.proofs.fronts.read_front.Given as goal

abbrev pub invariant-loop : goal.invariant-loop
invariant-loop g l = record {
  reads : Reads (g.R.Read.remaining l.fn.file) (g.R.Read.remaining l.file) l.fn.into.items l.into.items;
  extends : Extends l.fn.into.items l.into.items;
  room : vec_len l.into + l.left ≡ vec_len l.fn.into + l.front;
}
