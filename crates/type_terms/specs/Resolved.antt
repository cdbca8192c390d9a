-- A type with all that is bound put in.
use Rattle.std.specs.Prelude.{◌≡◌, ◌<◌, ℕ, None, length}
use Rattle.type_terms.specs.Ground.{Assignment}
use Rattle.type_terms.specs.Term.{Term, InTerm, meaning}
use Rattle.type_terms.specs.Table.{Table, Solves, bound_at, kind_at}

-- type variable k is one of the substitution, and it is bound to nothing
abbrev pub IsFreeType : Table → ℕ → Type 0
IsFreeType s k = (k < length s.types) × (bound_at s.types k ≡ None)

-- kind variable k is one of the substitution, and it is bound to nothing
abbrev pub IsFreeKind : Table → ℕ → Type 0
IsFreeKind s k = (k < length s.kinds) × (kind_at s.kinds k ≡ None)

-- each variable that stands in the type is one of the substitution, and it is bound to nothing
abbrev pub IsUnbound : Table → Term → Type 0
IsUnbound s t = InTerm (IsFreeType s) (IsFreeKind s) t

-- u is the type t with all bindings put in: its variables are all free, and it is the same type as t at each solution
pub record IsResolved (s : Table) (t u : Term) : Type 0 where
  pub unbound : IsUnbound s u
  pub same : (a : Assignment) → Solves a s → meaning a u ≡ meaning a t
