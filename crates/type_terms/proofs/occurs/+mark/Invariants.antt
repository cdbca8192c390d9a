use Rattle.std.proofs.Common.{◌≡◌, ℕ, true, map, take}
use Rattle.type_terms.specs.Nested.{mark_at}
use Rattle.type_terms.specs.Term.{InTerms, height, term_of, terms_of}
use Rattle.type_terms.proofs.occurs.+mark.Given as goal

abbrev pub decreases-mark : goal.decreases-mark
decreases-mark l = height (λ _. 0) (term_of l.ty.now)

abbrev pub invariant-loop-part : goal.invariant-loop-part
invariant-loop-part l = record {
  kept : (k : ℕ) → mark_at l.initial.nested k ≡ true → mark_at l.nested k ≡ true;
  marked : InTerms (λ j. mark_at l.nested j ≡ true) (λ _. Unit {0}) (terms_of (map term_of (take l.part-index l.part-items)));
}
