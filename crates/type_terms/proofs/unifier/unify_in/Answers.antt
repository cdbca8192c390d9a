use Rattle.std.proofs.Common.{◌≡◌, subst, sym}
use Rattle.type_terms.specs.Bound.{table_of}
use Rattle.type_terms.specs.Table.{IsOver}
use Rattle.type_terms.specs.Term.{term_of}
use Rattle.type_terms.proofs.Narrowed.{narrowed_both}
use Rattle.type_terms.proofs.unifier.unify_in.Goals as goal

pub returns-in-Same-clause-answer : goal.returns-in-Same-clause-answer
returns-in-Same-clause-answer c = rw c.in-Same.is at c.in_ok-unify_directly.ensures.direct

pub returns-in-Clash-clause-answer : goal.returns-in-Clash-clause-answer
returns-in-Clash-clause-answer c = let d = rw c.in-Clash.is at c.in_ok-unify_directly.ensures.direct in rw d.0 d.1

pub returns-in-Clash-clause-unchanged : goal.returns-in-Clash-clause-unchanged
returns-in-Clash-clause-unchanged c = (rw c.in-Clash.is at c.in_ok-unify_directly.ensures.direct).0

pub unify_deeply-requires : goal.unify_deeply-requires
unify_deeply-requires c =
    let same : table_of c.unify_directly.new.bindings ≡ table_of c.args.bindings.now = rw c.in-Apart.is at c.in_ok-unify_directly.ensures.direct in
    let h = c.unify_directly.ensures.narrowed in
    record {
      comparable = record {
        sound = h.sound;
        marked = h.marked;
        left = subst (λ s. IsOver s (term_of c.args.left.now)) (sym same) c.requires.comparable.left;
        right = subst (λ s. IsOver s (term_of c.args.right.now)) (sym same) c.requires.comparable.right;
      };
      counted = c.unify_directly.ensures.counted;
    }

pub returns-in-Apart-clause-narrowed : goal.returns-in-Apart-clause-narrowed
returns-in-Apart-clause-narrowed c = narrowed_both _ _ _ _ _ _ _ _ _ _ c.unify_directly.ensures.narrowed c.unify_deeply.ensures.narrowed (λ a m e. e)

pub returns-in-Apart-clause-answer : goal.returns-in-Apart-clause-answer
returns-in-Apart-clause-answer c = c.unify_deeply.ensures.answer

pub returns-in-Apart-clause-unchanged : goal.returns-in-Apart-clause-unchanged
returns-in-Apart-clause-unchanged c =
    let same : table_of c.unify_directly.new.bindings ≡ table_of c.args.bindings.now = rw c.in-Apart.is at c.in_ok-unify_directly.ensures.direct in
    rw (← same) c.unify_deeply.ensures.unchanged

pub returns-in-Apart-clause-err : goal.returns-in-Apart-clause-err
returns-in-Apart-clause-err c =
    let same : table_of c.unify_directly.new.bindings ≡ table_of c.args.bindings.now = rw c.in-Apart.is at c.in_ok-unify_directly.ensures.direct in
    rw (← same) c.unify_deeply.ensures.err
