-- Which variables stand in what others are bound to.
use Rattle.std.specs.Prelude.{◌≡◌, ◌≢◌, ◌<◌, ◌≤◌, ◌⊎◌, ℕ, Bool, true, false, List, [], ◌∷◌, length, nat_eq, Option, Some, None, slice_get}
use Rattle.std.specs.List.{list_any}
use Rattle.std.specs.Borrow.{Bor}
use Rattle.type_terms.specs.Counting.{free_count}
use Rattle.type_terms.specs.Term.{Term, Terms, list_term, tuple_term, source_term, variable, no_terms, one_more, InKind, InTerm, term_of}
use Rattle.type_terms.specs.Variables.{Variable}
use Rattle.type_terms.specs.Table.{Table, IsSound, bound_at}
use Rattle.type_terms.specs.declared.ty.Ty.{Ty}

-- The flag of a type variable, true if it may stand in what another is bound to; false where there is no flag. It has
-- nothing to do with tracks of sound.
abbrev pub mark_in : Option Bool → Bool
mark_in None = false
mark_in (Some b) = b

-- whether type variable k is flagged in `marks` as one that may stand in what another is bound to
abbrev pub mark_at : List Bool → ℕ → Bool
mark_at marks k = mark_in (slice_get marks k)

-- each type variable of the type is flagged in `marks` as one that may stand in what another is bound to
abbrev pub IsMarked : List Bool → Term → Type 0
IsMarked marks t = InTerm (λ j. mark_at marks j ≡ true) (λ _. Unit {0}) t

-- the flags in `marks` are right: each type variable has one, and it is set for each that stands in what another is
-- bound to
pub record AreMarked (vs : List Variable) (marks : List Bool) : Type 0 where
  pub enough : length vs ≤ length marks
  pub marked : (k : ℕ) (t : Term) → bound_at vs k ≡ Some t → IsMarked marks t

-- a substitution is sound, and in `marks` the flag is set for each type variable that stands in what another is bound
-- to
pub record IsWhole (s : Table) (marks : List Bool) : Type 0 where
  pub sound : IsSound s
  pub marked : AreMarked s.types marks

-- What the program keeps of a substitution is right: the bindings are sound, in `marks` the flag is set for each type
-- variable that stands in what another is bound to, and `free` is the number of unbound variables.
pub record IsKept (s : Table) (marks : List Bool) (free : ℕ) : Type 0 where
  pub whole : IsWhole s marks
  pub counted : free ≡ free_count s

-- type variable x stands in nothing that a variable is bound to
pub record IsUnnested (vs : List Variable) (x : ℕ) : Type 0 where
  pub apart : (k : ℕ) (t : Term) → bound_at vs k ≡ Some t → InTerm (λ j. j ≢ x) (λ _. Unit {0}) t

-- references to types of the program as a list of plain types
abbrev pub terms : List (Bor Ty) → List Term
terms [] = []
terms (p ∷ ps) = term_of p.now ∷ terms ps

-- the component types of a tuple, as a list
abbrev pub parts : Terms → List Term
parts no_terms = []
parts (one_more t ts) = t ∷ parts ts

-- what a variable is bound to, as a list of one type, or of none if it is free
abbrev pub bound_list : Option Term → List Term
bound_list None = []
bound_list (Some t) = t ∷ []

-- what a walk over types comes to from a variable: the type that it is bound to, if any; nothing where the flag is
-- false, since the walk then doesn't go through bindings
abbrev pub reached_by : Bool → Option Term → List Term
reached_by true o = bound_list o
reached_by false o = []

-- the parts of a type: of a list its item, of a tuple its components, else none
abbrev pub inside : Term → List Term
inside (list_term t) = t ∷ []
inside (tuple_term ts) = parts ts
inside _ = []

-- the types that a walk comes to next from a type: its parts, and of a variable what it is bound to, where `deep`
-- says that the walk goes through bindings
abbrev pub below : List Variable → Bool → Term → List Term
below vs deep (variable k) = reached_by deep (bound_at vs k)
below vs deep (list_term t) = t ∷ []
below vs deep (tuple_term ts) = parts ts
below vs deep _ = []

-- where the type is itself a variable, or a source whose kind is one, it is one of the first m type variables or of
-- the first n kind variables; its parts are not looked at
abbrev pub IsAmong : ℕ → ℕ → Term → Type 0
IsAmong m n (variable k) = k < m
IsAmong m n (source_term k) = InKind (λ j. j < n) k
IsAmong m n _ = Unit {0}

-- the number of a variable, k, is one of this list
abbrev pub IsIn : List ℕ → ℕ → Type 0
IsIn ks k = list_any (nat_eq k) ks ≡ true

-- One step of a walk over types, which comes to u. `old` and `new` are the variables whose bindings it has gone through
-- before and after. With `nested` it goes through each variable's binding once, and `deep` says whether it does so in
-- this step.
pub record IsVisit (nested deep : Bool) (old new : List ℕ) (u : Term) : Type 0 where
  pub kept : (k : ℕ) → IsIn old k → IsIn new k
  pub here : nested ≡ true → (k : ℕ) → u ≡ variable k → IsIn new k
  pub only : (k : ℕ) → IsIn new k → IsIn old k ⊎ ((u ≡ variable k) × (deep ≡ true))
