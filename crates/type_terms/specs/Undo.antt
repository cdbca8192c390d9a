-- What a list of variables that were bound since tells of a substitution before and now.
use Rattle.std.specs.Prelude.{◌≡◌, ◌≢◌, ℕ, ◌<◌, ◌⊎◌, List, [], ◌∷◌, length, Option, None}
use Rattle.type_terms.specs.Variables.{Variable}
use Rattle.type_terms.specs.Table.{bound_at, number_at, kind_at}
use Rattle.type_terms.specs.declared.ty.KindTerm.{KindTerm}

-- the number of a variable, k, is one of this list
abbrev pub Among : ℕ → List ℕ → Type 0
Among k [] = ⊥
Among k (x ∷ xs) = (k ≡ x) ⊎ Among k xs

-- The list `trail` of type variables is enough to undo bindings: `new` differs from `old` only in what variables of the
-- trail are bound to, and these were free before.
pub record IsTrail (trail : List ℕ) (old new : List Variable) : Type 0 where
  pub same_length : length new ≡ length old
  pub same_numbers : (k : ℕ) → number_at new k ≡ number_at old k
  pub bound : (k : ℕ) → (bound_at new k ≡ bound_at old k) ⊎ Among k trail
  pub free : (k : ℕ) → Among k trail → bound_at old k ≡ None
  pub inside : (k : ℕ) → Among k trail → k < length old

-- The list `trail` of kind variables is enough to undo bindings: `new` differs from `old` only in what variables of the
-- trail are bound to, and these were free before.
pub record IsKindTrail (trail : List ℕ) (old new : List (Option KindTerm)) : Type 0 where
  pub same_length : length new ≡ length old
  pub bound : (k : ℕ) → (kind_at new k ≡ kind_at old k) ⊎ Among k trail
  pub free : (k : ℕ) → Among k trail → kind_at old k ≡ None
  pub inside : (k : ℕ) → Among k trail → k < length old

-- the type variables `new` are those of `old`, but that variable x is bound to nothing now
pub record Frees (x : ℕ) (old new : List Variable) : Type 0 where
  pub same_length : length new ≡ length old
  pub same_numbers : (k : ℕ) → number_at new k ≡ number_at old k
  pub here : bound_at new x ≡ None
  pub elsewhere : (k : ℕ) → k ≢ x → bound_at new k ≡ bound_at old k

-- the kind variables `new` are those of `old`, but that variable x is bound to nothing now
pub record FreesKind (x : ℕ) (old new : List (Option KindTerm)) : Type 0 where
  pub same_length : length new ≡ length old
  pub here : kind_at new x ≡ None
  pub elsewhere : (k : ℕ) → k ≢ x → kind_at new k ≡ kind_at old k
