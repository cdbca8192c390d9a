use Rattle.std.proofs.Common.{◌≡◌, drop}
use Rattle.stream_meaning.specs.Arithmetic.{cells_of}
use Rattle.op_mix.specs.Mixings.{front_of}
use Rattle.op_mix.proofs.change.first_cell.Given as goal

abbrev pub invariant-loop-slot : goal.invariant-loop-slot
invariant-loop-slot l = front_of (cells_of (drop l.slot-index l.slots)) ≡ front_of (cells_of l.slots)
