use Rattle.std.proofs.Common.{subst, sym}
use Rattle.type_terms.specs.Table.{IsOver}
use Rattle.type_terms.specs.Term.{term_of}
use Rattle.type_terms.proofs.Narrowed.{most_general, none, same_variables, some_solution}
use Rattle.type_terms.proofs.subst.unify.Goals as goal

pub unify_in-requires : goal.unify_in-requires
unify_in-requires c = record {
  comparable = record {
    sound = c.subst.invariant.whole.sound;
    marked = c.subst.invariant.whole.marked;
    left = subst (λ s. IsOver s (term_of c.args.left.now)) (sym c.subst.view_is) c.requires.left;
    right = subst (λ s. IsOver s (term_of c.args.right.now)) (sym c.subst.view_is) c.requires.right;
  };
  counted = c.subst.invariant.counted;
}

pub invariant_of-subst : goal.invariant_of-subst
invariant_of-subst c = record {
  whole = record { sound = c.unify_in.ensures.narrowed.sound; marked = c.unify_in.ensures.narrowed.marked };
  counted = c.unify_in.ensures.counted;
}

pub returns : goal.returns
returns c =
    let f = c.unify_in.ensures.narrowed in
    let r = c.unify_in.result in
    rw (← c.subst.view_is) (record {
      most_general = most_general _ _ _ _ _ _ f r c.unify_in.ensures.answer;
      solvable = some_solution _ _ _ _ _ _ f r;
      none = none _ _ _ _ _ _ f r c.unify_in.ensures.answer;
      unchanged = c.unify_in.ensures.unchanged;
      same_variables = same_variables _ _ _ _ _ _ f r;
      err = c.unify_in.ensures.err;
    })
