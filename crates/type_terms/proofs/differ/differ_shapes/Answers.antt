use Rattle.std.proofs.Common.{◌≡◌, ◌∙◌, sym, subst, None}
use Rattle.type_terms.specs.Table.{IsOver, table}
use Rattle.type_terms.specs.Term.{base_of, term_of}
use Rattle.type_terms.proofs.Settling.{no_source, settles_terms, shapes_clash}
use Rattle.type_terms.proofs.Views.{term_Source}
use Rattle.type_terms.proofs.differ.differ_shapes.Goals as goal

pub differ_kinds-requires : goal.differ_kinds-requires
differ_kinds-requires c = record {
  falls = c.requires.falls;
  left = subst (λ u. IsOver (table c.requires.left.0 c.args.kinds.now) u) (term_Source _ _ c.in-Source.is) c.requires.left.1;
  right = subst (λ u. IsOver (table c.requires.right.0 c.args.kinds.now) u) (term_Source _ _ c.in-Source-right.is) c.requires.right.1;
}

pub returns-in-Source-right : goal.returns-in-Source-right
returns-in-Source-right c vs =
    settles_terms _ _ _ _ _ _ (term_Source _ _ c.in-Source.is) (term_Source _ _ c.in-Source-right.is) (c.differ_kinds.ensures vs)

pub returns-in_default-left : goal.returns-in_default-left
returns-in_default-left c vs a m e =
    let none : base_of (term_of c.args.left.now) ≡ None = sym c.base.ensures ∙ c.in_default.is in
    shapes_clash a _ _ c.requires.left_shape c.requires.right_shape c.requires.unsplit none (λ k j l r. no_source c.args.left.now c.in_default-left.not-Source k l) e
