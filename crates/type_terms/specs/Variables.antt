-- A type variable of a substitution, as plain data.
use Rattle.std.specs.Prelude.{Bool, Option}
use Rattle.type_terms.specs.Term.{Term}

-- a type variable: whether it is a number variable, one that can only be int or decimal, and what it is bound to, if
-- anything
pub record Variable : Type 0 where
  pub number : Bool
  pub bound : Option Term
