use Rattle.std.proofs.Common.{◌≡◌, ℕ, List, ◌++◌}
use Rattle.std.specs.Io.KnownBytes.{Appends}
use Rattle.file_sinks.proofs.streams.write_whole.Given as goal

abbrev pub invariant-loop : goal.invariant-loop
invariant-loop g l = (done : List ℕ) × (l.piece ≡ done ++ l.rest) × Appends (g.W.Write.contents l.fn.to) (g.W.Write.contents l.to) done
