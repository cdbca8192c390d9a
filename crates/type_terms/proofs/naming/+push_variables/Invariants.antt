use Rattle.std.proofs.Common.{◌≡◌, ◌++◌, map, take}
use Rattle.type_terms.specs.Naming.{type_variables, kind_variables}
use Rattle.type_terms.specs.Term.{term_of}
use Rattle.type_terms.proofs.Renaming.{gathered}
use Rattle.type_terms.proofs.naming.+push_variables.Given as goal

abbrev pub decreases-push_variables : goal.decreases-push_variables
decreases-push_variables l = l.levels

abbrev pub invariant-loop-part : goal.invariant-loop-part
invariant-loop-part l = record {
  types : l.types.items ≡ l.initial.types.items ++ gathered type_variables (map term_of (take l.part-index l.part-items));
  kinds : l.kinds.items ≡ l.initial.kinds.items ++ gathered kind_variables (map term_of (take l.part-index l.part-items));
}
