use Rattle.std.proofs.Common.{◌≡◌, ◌∙◌, ap, arith, refl, sym}
use Rattle.type_terms.specs.Bound.{table_of}
use Rattle.type_terms.specs.Counting.{free_count}
use Rattle.type_terms.proofs.Narrowed.{all_told, narrowed_none, never_before}
use Rattle.type_terms.proofs.unifier.unify_deeply.Goals as goal

pub returns-in-Ok-true-clause-narrowed : goal.returns-in-Ok-true-clause-narrowed
returns-in-Ok-true-clause-narrowed c = c.solve.ensures.narrowed

pub returns-in-Ok-true-clause-unchanged : goal.returns-in-Ok-true-clause-unchanged
returns-in-Ok-true-clause-unchanged c = tt

pub returns-in-Ok-true-clause-err : goal.returns-in-Ok-true-clause-err
returns-in-Ok-true-clause-err c = tt

pub undo-requires : goal.undo-requires
undo-requires c = (table_of c.args.bindings.now, all_told _ _ _ _ c.solve.ensures.trailed c.new-trail.ensures.types c.new-trail.ensures.kinds)

pub returns-in-Ok-false : goal.returns-in-Ok-false
returns-in-Ok-false c =
    let s = table_of c.args.bindings.now in
    let undone : table_of c.undo.new.bindings ≡ s = c.undo.ensures.undone s (all_told _ _ _ _ c.solve.ensures.trailed c.new-trail.ensures.types c.new-trail.ensures.kinds) in
    let enough = c.solve.ensures.narrowed.marked.enough in
    let same = c.solve.ensures.narrowed.same_variables.types in
    rw (undone, c.undo.ensures.same_marks) (record {
      narrowed = narrowed_none _ _ s _ _ c.requires.comparable.sound c.requires.comparable.marked (omega (arith, enough, same)) c.solve.ensures.narrowed.marks_kept;
      answer = never_before _ _ _ _ _ _ c.solve.ensures.narrowed (rw c.in-Ok-false.field-0-test at c.in-Ok-false.ensures.answer);
      unchanged = refl;
      counted = c.requires.counted ∙ sym (ap free_count undone);
      err = tt;
    })

pub undo-requires-in-Err : goal.undo-requires-in-Err
undo-requires-in-Err c = (table_of c.args.bindings.now, all_told _ _ _ _ c.solve.ensures.trailed c.new-trail.ensures.types c.new-trail.ensures.kinds)

pub returns : goal.returns
returns c =
    let s = table_of c.args.bindings.now in
    let undone : table_of c.undo-in-Err.new.bindings ≡ s = c.undo-in-Err.ensures.undone s (all_told _ _ _ _ c.solve.ensures.trailed c.new-trail.ensures.types c.new-trail.ensures.kinds) in
    let enough = c.solve.ensures.narrowed.marked.enough in
    let same = c.solve.ensures.narrowed.same_variables.types in
    rw (undone, c.undo-in-Err.ensures.same_marks) (record {
      narrowed = narrowed_none _ _ s _ _ c.requires.comparable.sound c.requires.comparable.marked (omega (arith, enough, same)) c.solve.ensures.narrowed.marks_kept;
      answer = tt;
      unchanged = tt;
      counted = c.requires.counted ∙ sym (ap free_count undone);
      err = refl;
    })
