use Rattle.std.proofs.Common.{map, take}
use Rattle.type_terms.specs.Table.{table}
use Rattle.type_terms.specs.Term.{term_of}
use Rattle.type_terms.proofs.Settled.{AreResolved}
use Rattle.type_terms.proofs.resolving.+settle.Given as goal

abbrev pub decreases-settle : goal.decreases-settle
decreases-settle l = l.levels

abbrev pub invariant-loop-part : goal.invariant-loop-part
invariant-loop-part l = AreResolved (table l.types l.kinds) (map term_of (take l.part-index l.part-items)) (map term_of l.settled.items)
