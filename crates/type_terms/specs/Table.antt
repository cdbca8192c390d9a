-- A substitution: its variables, which of them are number variables, and what they are bound to.
use Rattle.std.specs.Prelude.{◌≡◌, ◌≢◌, ℕ, ◌<◌, Bool, true, false, List, length, Option, Some, None, slice_get}
use Rattle.type_terms.specs.Ground.{Assignment, IsNumber, IsNumberBase}
use Rattle.type_terms.specs.Term.{Term, base_term, variable, meaning, kind_meaning, InTerm, height}
use Rattle.type_terms.specs.Variables.{Variable}
use Rattle.type_terms.specs.declared.ty.KindTerm.{KindTerm}
use Rattle.type_terms.specs.declared.ty.KindTerm.TheVariants.{Var}

-- a substitution as plain data: its type variables, and what each kind variable is bound to, if anything
pub record Table : Type 0 where
  pub types : List Variable
  pub kinds : List (Option KindTerm)

-- the substitution that has these type variables and these kind variables
abbrev pub table : List Variable → List (Option KindTerm) → Table
table vs ks = record { types = vs; kinds = ks }

-- what a type variable is bound to; nothing where there is no variable or it is free
abbrev pub bound_in : Option Variable → Option Term
bound_in None = None
bound_in (Some x) = x.bound

-- what type variable k is bound to; nothing where it is free or not there
abbrev pub bound_at : List Variable → ℕ → Option Term
bound_at vs k = bound_in (slice_get vs k)

-- whether a type variable is a number variable, one that can only be int or decimal; no where there is none
abbrev pub number_in : Option Variable → Bool
number_in None = false
number_in (Some x) = x.number

-- whether type variable k is a number variable, one that can only be int or decimal
abbrev pub number_at : List Variable → ℕ → Bool
number_at vs k = number_in (slice_get vs k)

-- what a kind variable is bound to; nothing where there is no variable or it is free
abbrev pub kind_in : Option (Option KindTerm) → Option KindTerm
kind_in None = None
kind_in (Some x) = x

-- what kind variable k is bound to; nothing where it is free or not there
abbrev pub kind_at : List (Option KindTerm) → ℕ → Option KindTerm
kind_at ks k = kind_in (slice_get ks k)

-- the assignment gives each bound type variable the type that it is bound to
abbrev pub MeetsBindings : List Variable → Assignment → Type 0
MeetsBindings vs a = (k : ℕ) (t : Term) → bound_at vs k ≡ Some t → a.type_of k ≡ meaning a t

-- the assignment gives each bound kind variable the kind that it is bound to
abbrev pub MeetsKinds : List (Option KindTerm) → Assignment → Type 0
MeetsKinds ks a = (k : ℕ) (t : KindTerm) → kind_at ks k ≡ Some t → a.kind_of k ≡ kind_meaning a t

-- each kind variable that is bound to another one is bound to one of lesser number, so chains of them end
pub record FallsByNumber (ks : List (Option KindTerm)) : Type 0 where
  pub falls : (k j : ℕ) → kind_at ks k ≡ Some (Var j) → j < k

-- the assignment a is a solution of the substitution s: bound variables are what they are bound to, and number
-- variables are int or decimal
pub record Solves (a : Assignment) (s : Table) : Type 0 where
  pub types : (k : ℕ) (t : Term) → bound_at s.types k ≡ Some t → a.type_of k ≡ meaning a t
  pub kinds : (k : ℕ) (t : KindTerm) → kind_at s.kinds k ≡ Some t → a.kind_of k ≡ kind_meaning a t
  pub numbers : (k : ℕ) → number_at s.types k ≡ true → IsNumber (a.type_of k)

-- the type is one that a number variable may be bound to: int, decimal or a number variable
abbrev pub IsNumberTerm : List Variable → Term → Type 0
IsNumberTerm vs (base_term b) = IsNumberBase b
IsNumberTerm vs (variable n) = number_at vs n ≡ true
IsNumberTerm vs _ = ⊥

-- each type variable and kind variable of the type is one of the substitution's
abbrev pub IsOver : Table → Term → Type 0
IsOver s t = InTerm (λ n. n < length s.types) (λ n. n < length s.kinds) t

-- by `w`, a number for each type variable, no variable stands inside what it is bound to, directly or through others:
-- each that is bound has a larger number than the height of what it is bound to
pub record IsRank (w : ℕ → ℕ) (vs : List Variable) : Type 0 where
  pub falls : (k : ℕ) (t : Term) → bound_at vs k ≡ Some t → height w t < w k

-- what type variables are bound to is over variables that are there, and no variable stands in its own binding,
-- directly or through others
pub record IsTriangular (vs : List Variable) : Type 0 where
  pub over : (k : ℕ) (t : Term) → bound_at vs k ≡ Some t → InTerm (λ n. n < length vs) (λ _. Unit {0}) t
  pub ranked : (w : ℕ → ℕ) × IsRank w vs

-- what holds of every substitution: bindings end, over variables that are there, a number variable is bound to a
-- number, and a kind variable to a kind or to a variable of lesser number
pub record IsSound (s : Table) : Type 0 where
  pub over : (k : ℕ) (t : Term) → bound_at s.types k ≡ Some t → IsOver s t
  pub ranked : (w : ℕ → ℕ) × IsRank w s.types
  pub numbers : (k : ℕ) (t : Term) → bound_at s.types k ≡ Some t → number_at s.types k ≡ true → IsNumberTerm s.types t
  pub kinds : (k j : ℕ) → kind_at s.kinds k ≡ Some (Var j) → j < k

-- x doesn't stand in t, directly or through what variables are bound to: a set without x, closed under bindings, holds
-- t's variables
pub record Avoids (vs : List Variable) (x : ℕ) (t : Term) : Type 0 where
  pub reached : ℕ → Bool
  pub without : reached x ≡ false
  pub closed : (k : ℕ) (s : Term) → bound_at vs k ≡ Some s → reached k ≡ true
      → InTerm (λ j. reached j ≡ true) (λ _. Unit {0}) s
  pub within : InTerm (λ j. reached j ≡ true) (λ _. Unit {0}) t

-- the type variables `new` are those of `old`, but that x, which was free, is bound to the type t
pub record Binds (x : ℕ) (t : Term) (old new : List Variable) : Type 0 where
  pub free : bound_at old x ≡ None
  pub same_length : length new ≡ length old
  pub same_numbers : (k : ℕ) → number_at new k ≡ number_at old k
  pub here : bound_at new x ≡ Some t
  pub elsewhere : (k : ℕ) → k ≢ x → bound_at new k ≡ bound_at old k

-- the kind variables `new` are those of `old`, but that x, which was free, is bound to the kind t
pub record BindsKind (x : ℕ) (t : KindTerm) (old new : List (Option KindTerm)) : Type 0 where
  pub free : kind_at old x ≡ None
  pub same_length : length new ≡ length old
  pub here : kind_at new x ≡ Some t
  pub elsewhere : (k : ℕ) → k ≢ x → kind_at new k ≡ kind_at old k

-- 1 for a type that is no variable, else 0. It is added to a bound on sizes: a list or tuple has a node more than its
-- parts together, but a variable has no more nodes than what it is bound to.
abbrev pub extra : Term → ℕ
extra (variable n) = 0
extra _ = 1
