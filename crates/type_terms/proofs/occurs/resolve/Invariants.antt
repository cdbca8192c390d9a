use Rattle.std.proofs.Common.{◌≡◌, ◌<◌, length}
use Rattle.type_terms.specs.Ground.{Assignment}
use Rattle.type_terms.specs.Rank.{rank_of}
use Rattle.type_terms.specs.Table.{MeetsBindings, Table, IsSound, IsOver}
use Rattle.type_terms.specs.Term.{InTerm, meaning, height, term_of}
use Rattle.type_terms.proofs.occurs.resolve.Given as goal

abbrev pub invariant-loop-t : goal.invariant-loop-t
invariant-loop-t l = record {
  value : (a : Assignment) → MeetsBindings l.types a → meaning a (term_of l.t) ≡ meaning a (term_of l.initial.t);
  over : InTerm (λ n. n < length l.types) (λ _. Unit {0}) (term_of l.t);
  kept : (s : Table) → s.types ≡ l.types → IsSound s → IsOver s (term_of l.initial.t) → IsOver s (term_of l.t);
}

abbrev pub decreases-loop-t : goal.decreases-loop-t
decreases-loop-t l = height (rank_of l.types) (term_of l.t)
