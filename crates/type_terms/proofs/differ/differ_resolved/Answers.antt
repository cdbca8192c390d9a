use Rattle.std.proofs.Common.{subst}
use Rattle.type_terms.specs.Table.{IsOver, table}
use Rattle.type_terms.specs.Term.{term_of}
use Rattle.type_terms.proofs.Settling.{extra_other, over_types, settles_terms, triangular}
use Rattle.type_terms.proofs.Views.{term_Var}
use Rattle.type_terms.proofs.differ.differ_resolved.Goals as goal

pub differ_from_variable-requires : goal.differ_from_variable-requires
differ_from_variable-requires c = record {
  triangular = triangular _ _ c.requires.sound;
  marked = c.requires.marked;
  inside = subst (λ u. IsOver (table c.args.types.now c.args.kinds.now) u) (term_Var _ _ c.in-Var.is) c.requires.right;
  free = c.requires.right_free _ (term_Var _ _ c.in-Var.is);
  over = over_types c.args.types.now c.args.kinds.now (term_of c.args.left.now) c.requires.left;
  no_variable = extra_other _ c.in_default-left.not-Var;
}

pub differ_from_variable-requires-in-Var-left-2 : goal.differ_from_variable-requires-in-Var-left-2
differ_from_variable-requires-in-Var-left-2 c = record {
  triangular = triangular _ _ c.requires.sound;
  marked = c.requires.marked;
  inside = subst (λ u. IsOver (table c.args.types.now c.args.kinds.now) u) (term_Var _ _ c.in-Var-left-2.is) c.requires.left;
  free = c.requires.left_free _ (term_Var _ _ c.in-Var-left-2.is);
  over = over_types c.args.types.now c.args.kinds.now (term_of c.args.right.now) c.requires.right;
  no_variable = extra_other _ c.in_default.not-Var;
}

pub returns-in-Var-left : goal.returns-in-Var-left
returns-in-Var-left c =
    settles_terms _ _ _ _ _ _ (term_Var _ _ c.in-Var-left.is) (term_Var _ _ c.in-Var.is) (c.differ_variables.ensures c.args.kinds.now)

pub returns-in_default-left-2 : goal.returns-in_default-left-2
returns-in_default-left-2 c = c.differ_shapes.ensures c.args.types.now
