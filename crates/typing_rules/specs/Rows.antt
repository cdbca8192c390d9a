-- What the program's rows of the builtins stand for.
use Rattle.std.specs.Prelude.{ℕ, List}
use Rattle.liq_base.specs.declared.memory.Kind.TheVariants.{Mono, Stereo}
use Rattle.type_terms.specs.Term.{Term, base_term, list_term, tuple_term, source_term, variable, no_terms, one_more}
use Rattle.type_terms.specs.declared.ty.Base.TheVariants as base
use Rattle.type_terms.specs.declared.ty.KindTerm.TheVariants.{Fixed, Var}
use Rattle.typing_rules.specs.declared.uses.Builtin.{Builtin}
use Rattle.typing_rules.specs.declared.parameter.Parameter.{Parameter as AParameter}
use Rattle.typing_rules.specs.declared.builtins.Row.{Row}
use Rattle.typing_rules.specs.declared.builtins.RowType.{RowType}
use Rattle.typing_rules.specs.declared.builtins.RowType.TheVariants as row
use Rattle.typing_rules.specs.Arguments.{Parameter}

-- a parameter as the program keeps it, as plain data: its name, and how its argument is given
abbrev pub seen_parameter : AParameter → Parameter
seen_parameter p = record { name = p.name.now; form = p.form }

-- a row of the builtin table in the program, as plain data: the name with the builtin
abbrev pub seen_row : Row → List ℕ × Builtin
seen_row r = (r.name.now, r.builtin)

-- the type of a parameter or a result in the program's table of builtins, as a term; a type that varies is type
-- variable 0, and a kind that varies kind variable 0
abbrev pub row_term : RowType → Term
row_term row.Int = base_term base.Int
row_term row.Text = base_term base.Text
row_term row.Bool = base_term base.Bool
row_term row.Decimal = base_term base.Decimal
row_term row.Unit = base_term base.Unit
row_term row.Format = base_term base.Format
row_term row.Anything = variable 0
row_term row.Source = source_term (Var 0)
row_term row.MonoSource = source_term (Fixed Mono)
row_term row.StereoSource = source_term (Fixed Stereo)
row_term row.Sources = list_term (source_term (Var 0))
row_term row.Pairs = list_term (tuple_term (one_more (base_term base.Pred) (one_more (source_term (Var 0)) no_terms)))
