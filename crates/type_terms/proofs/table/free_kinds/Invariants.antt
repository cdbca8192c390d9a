use Rattle.std.proofs.Common.{List, drop, Option}
use Rattle.type_terms.specs.declared.ty.KindTerm.{KindTerm}
use Rattle.type_terms.specs.Undo.{IsKindTrail}
use Rattle.type_terms.proofs.table.free_kinds.Given as goal

abbrev pub invariant-loop-x : goal.invariant-loop-x
invariant-loop-x l = (ks : List (Option KindTerm)) → IsKindTrail l.trail ks l.initial.kinds → IsKindTrail (drop l.x-index l.trail) ks l.kinds
