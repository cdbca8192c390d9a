use Rattle.std.proofs.Common.{take}
use Rattle.stream_meaning.specs.Arithmetic.{cells_of}
use Rattle.op_mix.proofs.CellSums.{Summed}
use Rattle.op_mix.proofs.sum.summed.Given as goal

abbrev pub invariant-loop-slot : goal.invariant-loop-slot
invariant-loop-slot l = Summed (cells_of (take l.slot-index l.slots)) l.left l.right l.parts
