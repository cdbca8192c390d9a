-- What is known of a substitution in which variables were bound so that two types become the same.
use Rattle.std.specs.Prelude.{◌≡◌, ℕ, ◌+◌, Bool, true, false, List, length}
use Rattle.type_terms.specs.Ground.{Assignment}
use Rattle.type_terms.specs.Term.{Term, meaning}
use Rattle.type_terms.specs.Table.{Table, IsOver, IsSound, Solves}
use Rattle.type_terms.specs.Nested.{AreMarked, mark_at}
use Rattle.type_terms.specs.Differ.{AreSame, AreNeverSame}
use Rattle.type_terms.specs.Agrees.{SameVariables}
use Rattle.type_terms.specs.Bound.{table_of}
use Rattle.type_terms.specs.Counting.{free_count}
use Rattle.type_terms.specs.Undo.{IsTrail, IsKindTrail}
use Rattle.type_terms.specs.declared.table.Bindings.{Bindings}
use Rattle.type_terms.specs.declared.unifier.Trail.{Trail}

-- what unification of the types t and u needs: the bindings are sound, type variables that stand inside bindings are
-- flagged as such, and t and u have no other variables than the substitution
pub record AreComparable (b : Bindings) (t u : Term) : Type 0 where
  pub sound : IsSound (table_of b)
  pub marked : AreMarked b.types.items b.nested.items
  pub left : IsOver (table_of b) t
  pub right : IsOver (table_of b) u

-- Unification of two types bound variables: from `old` came `new`, which is sound, and lost only solutions at which the
-- types differ. `marks` before, and marks' after, flag each type variable that stands inside a binding.
pub record IsNarrowed (left right : Term) (old new : Table) (marks marks' : List Bool) : Type 0 where
  pub sound : IsSound new
  pub marked : AreMarked new.types marks'
  pub marks_kept : (k : ℕ) → mark_at marks k ≡ true → mark_at marks' k ≡ true
  pub narrower : (a : Assignment) → Solves a new → Solves a old
  pub kept : (a : Assignment) → Solves a old → meaning a left ≡ meaning a right → Solves a new
  pub same_variables : SameVariables old new

-- unification of two types made the bindings `new` of `old`: variables were bound, and only solutions were lost at
-- which the types differ
abbrev pub Narrows : Term → Term → Bindings → Bindings → Type 0
Narrows left right old new = IsNarrowed left right (table_of old) (table_of new) old.nested.items new.nested.items

-- The trail, a list of the variables that were bound, is enough to undo this: `old` is the substitution `new`, but that
-- these variables are free.
pub record Tells (trail : Trail) (old new : Table) : Type 0 where
  pub types : IsTrail trail.types.items old.types new.types
  pub kinds : IsKindTrail trail.kinds.items old.kinds new.kinds

-- how many variables, of types and of kinds, a trail tells to be bound
abbrev pub trail_len : Trail → ℕ
trail_len trail = length trail.types.items + length trail.kinds.items

-- A trail, the list of the variables that were bound, was kept up to date while the substitution `old` became `new`:
-- from `trail` came trail', which leads as far back. Each variable that was bound is in it once.
pub record IsTrailed (old new : Table) (trail trail' : Trail) : Type 0 where
  pub told : (s : Table) → Tells trail s old → Tells trail' s new
  pub free : free_count new + trail_len trail' ≡ free_count old + trail_len trail

-- what unification answers is right for two types: true, they are now equal at each solution; false, they are equal
-- at none
abbrev pub IsAnswer : Table → Term → Term → Bool → Type 0
IsAnswer s left right true = AreSame s left right
IsAnswer s left right false = AreNeverSame s left right
