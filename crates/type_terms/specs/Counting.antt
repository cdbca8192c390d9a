-- How many variables are bound to nothing.
use Rattle.std.specs.Prelude.{ℕ, ◌+◌, List, [], ◌∷◌, Option, Some, None, take}
use Rattle.type_terms.specs.Table.{Table}
use Rattle.type_terms.specs.Variables.{Variable}
use Rattle.type_terms.specs.declared.ty.KindTerm.{KindTerm}

-- 1 for a variable that is bound to nothing, else 0, to be added up
abbrev pub one_if_free : {A : Type 0} → Option A → ℕ
one_if_free None = 1
one_if_free (Some t) = 0

-- how many of these type variables are bound to nothing
abbrev pub free_types : List Variable → ℕ
free_types [] = 0
free_types (v ∷ vs) = one_if_free v.bound + free_types vs

-- how many of these kind variables are bound to nothing
abbrev pub free_kinds : List (Option KindTerm) → ℕ
free_kinds [] = 0
free_kinds (k ∷ ks) = one_if_free k + free_kinds ks

-- how many type variables and kind variables of a substitution are bound to nothing
abbrev pub free_count : Table → ℕ
free_count s = free_types s.types + free_kinds s.kinds

-- how many of the first so many type variables and kind variables are bound to nothing
abbrev pub free_among : Table → ℕ → ℕ → ℕ
free_among s types kinds = free_types (take types s.types) + free_kinds (take kinds s.kinds)
