use Rattle.trace_log.proofs.Filling.{AreRead}
use Rattle.trace_log.proofs.reading.read_lines.Given as goal

abbrev pub invariant-loop-place : goal.invariant-loop-place
invariant-loop-place l = record { read : AreRead l.text l.buffers.items l.many l.place l.rest }
