-- The types of a row of the builtins, over new variables.
use Rattle.std.specs.Prelude.{ℕ, [], ◌∷◌}
use Rattle.type_terms.specs.Naming.{instance}
use Rattle.type_terms.specs.Term.{Term}
use Rattle.typing_rules.specs.declared.builtins.RowType.{RowType}
use Rattle.typing_rules.specs.Rows.{row_term}

-- A type of the table of builtins as a term over variables of a program: the type variable of its row becomes variable
-- number `any`, and the kind variable (mono or stereo) number `kind`.
abbrev pub numbered_row : ℕ → ℕ → RowType → Term
numbered_row any kind ty = instance (any ∷ []) (kind ∷ []) (row_term ty)
