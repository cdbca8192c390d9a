use Rattle.std.proofs.Common.{◌≡◌, sym, subst, ◌<◌, length, true, arith}
use Rattle.std.proofs.Math.ListN.{set}
use Rattle.type_terms.specs.Nested.{IsMarked}
use Rattle.type_terms.specs.Term.{InTerm, term_of}
use Rattle.type_terms.proofs.Views.{term_Var}
use Rattle.type_terms.proofs.Parts.{part_height, part_over}
use Rattle.type_terms.proofs.Walks.{all_marked, mark_here, mark_kept, next_marked}
use Rattle.type_terms.proofs.occurs.+mark.Goals as goal

pub mark-requires-in-loop-part : goal.mark-requires-in-loop-part
mark-requires-in-loop-part t c =
    let l = part_height _ _ _ c.in-Tuple.is c.deref-part-items.ensures.value _ _ c.loop-part-test.true c.part-item.is (λ _. 0) in
    let n : length c.loop-part.nested ≡ length c.args.nested.now = c.loop-part.auto.nested in (
      omega (arith, c.decreases),
      subst (λ m. InTerm (λ k. k < m) (λ _. Unit {0}) (term_of c.part-item.result)) (sym n)
          (part_over _ _ _ c.in-Tuple.is c.deref-part-items.ensures.value _ _ c.loop-part-test.true c.part-item.is _ _ c.requires),
    )

pub loop-part-preserved : goal.loop-part-preserved
loop-part-preserved t c = record {
  kept = λ k e. c.mark-in-loop-part.ensures.kept k (c.loop-part.invariant.kept k e);
  marked = next_marked c.loop-part.nested _ _ _ _ c.loop-part-test.true c.part-item.is c.mark-in-loop-part.ensures.kept c.loop-part.invariant.marked c.mark-in-loop-part.ensures.marked;
}

pub returns-after-loop-part-clause-marked : goal.returns-after-loop-part-clause-marked
returns-after-loop-part-clause-marked t c =
    all_marked c.loop-part.nested _ _ _ c.in-Tuple.is c.deref-part-items.ensures.value _ c.loop-part-test.false c.loop-part.invariant.marked

pub returns-in-Var-clause-marked : goal.returns-in-Var-clause-marked
returns-in-Var-clause-marked t c =
    subst (λ u. IsMarked (set c.args.nested.now c.in-Var.k true) u) (sym (term_Var _ _ c.in-Var.is))
    (mark_here c.args.nested.now c.in-Var.k (subst (λ u. InTerm (λ k. k < length c.args.nested.now) (λ _. Unit {0}) u) (term_Var _ _ c.in-Var.is) c.requires))

pub returns-in-Var-clause-kept : goal.returns-in-Var-clause-kept
returns-in-Var-clause-kept t c j e = mark_kept c.args.nested.now c.in-Var.k j e
