-- The types of literals.
use Rattle.script_grammar.specs.declared.tree.Literal.{Literal}
use Rattle.script_grammar.specs.declared.tree.Literal.TheVariants as literal
use Rattle.type_terms.specs.Term.{Term, base_term}
use Rattle.type_terms.specs.declared.ty.Base.TheVariants as base

-- the type of a number in a script: int without a point, decimal with one
abbrev pub literal_term : Literal → Term
literal_term (literal.Int n) = base_term base.Int
literal_term (literal.Number d) = base_term base.Decimal
