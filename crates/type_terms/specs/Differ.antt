-- What the difference of two types tells of the solutions that make them equal.
use Rattle.std.specs.Prelude.{◌≡◌, ◌≢◌, ℕ, ◌<◌, Bool, true, false, length, Option, Some, None}
use Rattle.type_terms.specs.Ground.{Assignment}
use Rattle.type_terms.specs.Term.{Term, term_of, meaning, kind_meaning}
use Rattle.type_terms.specs.Table.{Table, Solves, IsOver, IsNumberTerm, Avoids, bound_at, number_at, kind_at}
use Rattle.type_terms.specs.declared.ty.Base.{Base}
use Rattle.type_terms.specs.declared.ty.Base.TheVariants.{Int, Decimal}
use Rattle.type_terms.specs.declared.ty.KindTerm.{KindTerm}
use Rattle.type_terms.specs.declared.ty.KindTerm.TheVariants.{Var}
use Rattle.type_terms.specs.declared.differ.Difference.{Difference}
use Rattle.type_terms.specs.declared.differ.Difference.TheVariants.{Same, Clash, Bind, BindKind}

-- the two types are equal at each solution of the substitution
abbrev pub AreSame : Table → Term → Term → Type 0
AreSame s left right = (a : Assignment) → Solves a s → meaning a left ≡ meaning a right

-- the two types are equal at no solution of the substitution: they clash
abbrev pub AreNeverSame : Table → Term → Term → Type 0
AreNeverSame s left right = (a : Assignment) → Solves a s → meaning a left ≢ meaning a right

-- making two types equal comes down to one binding: they are equal exactly at the solutions at which the type
-- variable x is t, and x is free, doesn't stand in t, and may be bound to it
pub record IsForced (s : Table) (left right : Term) (x : ℕ) (t : Term) : Type 0 where
  pub inside : x < length s.types
  pub free : bound_at s.types x ≡ None
  pub avoids : Avoids s.types x t
  pub over : IsOver s t
  pub number : number_at s.types x ≡ true → IsNumberTerm s.types t
  pub forced : (a : Assignment) → Solves a s → meaning a left ≡ meaning a right → a.type_of x ≡ meaning a t
  pub enough : (a : Assignment) → Solves a s → a.type_of x ≡ meaning a t → meaning a left ≡ meaning a right

-- making two types equal comes down to one binding of a kind: they are equal exactly at the solutions at which the
-- kind variable x is t, and x is free and may be bound to it
pub record IsKindForced (s : Table) (left right : Term) (x : ℕ) (t : KindTerm) : Type 0 where
  pub inside : x < length s.kinds
  pub free : kind_at s.kinds x ≡ None
  pub lower : (j : ℕ) → t ≡ Var j → j < x
  pub forced : (a : Assignment) → Solves a s → meaning a left ≡ meaning a right → a.kind_of x ≡ kind_meaning a t
  pub enough : (a : Assignment) → Solves a s → a.kind_of x ≡ kind_meaning a t → meaning a left ≡ meaning a right

-- What the program found as the difference of two types is right. `Same`: they are equal at each solution of the
-- substitution. `Clash`: they are equal at none. `Bind` and `BindKind`: they are equal exactly where variable x is t.
abbrev pub Settles : Table → Term → Term → Difference → Type 0
Settles s left right Same = AreSame s left right
Settles s left right Clash = AreNeverSame s left right
Settles s left right (Bind x t) = IsForced s left right x (term_of t.now)
Settles s left right (BindKind x t) = IsKindForced s left right x t

-- whether a base type, if there is one, is a number type: int or decimal
abbrev pub is_number_base : Option Base → Bool
is_number_base (Some Int) = true
is_number_base (Some Decimal) = true
is_number_base _ = false
