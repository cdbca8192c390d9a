-- What a walk through types finds. No contract of a public call cites this.
use Rattle.std.specs.Prelude.{◌≡◌, ◌⊎◌, ◌<◌, ◌+◌, ℕ, suc, true, List, [], ◌∷◌}
use Rattle.type_terms.specs.Ground.{Assignment, size}
use Rattle.type_terms.specs.Resolved.{IsFreeType, IsFreeKind}
use Rattle.type_terms.specs.Table.{Table, Solves, IsOver, extra}
use Rattle.type_terms.specs.Term.{Term, source_term, meaning, kind_meaning}
use Rattle.type_terms.specs.declared.ty.KindTerm.{KindTerm}
use Rattle.general_types.specs.declared.walking.Reached.{Reached}
use Rattle.general_types.specs.Holding.{HeldVariables, AgreeBelow, AgreeOnPassed, is_held}

-- Held variables from lists of free type variables, free kind variables, and bound variables that were passed. The
-- counts are left at 0.
abbrev pub held : List ℕ → List ℕ → List ℕ → HeldVariables
held types kinds passed = record {
  types = types;
  kinds = kinds;
  passed = passed;
  type_count = 0;
  kind_count = 0;
  free_count = 0;
}

-- the free variables that walks through types have reached, and the bound ones that they passed, from what they keep
abbrev pub held_of : Reached → HeldVariables
held_of r = held r.types.keys r.kinds.keys r.passed.keys

-- P holds of each term of the list
abbrev pub Every : (Term → Type 0) → List Term → Type 0
Every P [] = Unit {0}
Every P (t ∷ ts) = P t × Every P ts

-- the term t means the same under both assignments a and b
abbrev pub IsSame : Assignment → Assignment → Term → Type 0
IsSame a b t = meaning a t ≡ meaning b t

-- The term t means the same under the assignments a and b, if its meaning under a has few nodes: fewer than n, or at
-- most n where t is no variable. Proofs by induction on n use it.
abbrev pub IsSameBelow : Assignment → Assignment → ℕ → Term → Type 0
IsSameBelow a b n t = size (meaning a t) < n + extra t → meaning a t ≡ meaning b t

-- Type variable k is free under the substitution s and occurs in the terms ts: two solutions of s that give ts the
-- same meaning agree on k.
pub record IsTypeIn (s : Table) (ts : List Term) (k : ℕ) : Type 0 where
  pub free : IsFreeType s k
  pub fixed : (a b : Assignment) → Solves a s → Solves b s → Every (IsSame a b) ts → a.type_of k ≡ b.type_of k

-- Kind variable k is free under the substitution s and occurs in the terms ts: two solutions of s that give ts the
-- same meaning agree on k.
pub record IsKindIn (s : Table) (ts : List Term) (k : ℕ) : Type 0 where
  pub free : IsFreeKind s k
  pub fixed : (a b : Assignment) → Solves a s → Solves b s → Every (IsSame a b) ts → a.kind_of k ≡ b.kind_of k

-- A walk through types, which gathers free variables, went on under the substitution s. Of the terms `todo` it has
-- `left` still to go through, and its findings grew from `old` to `new`. Two solutions that agree on `left` and on the
-- findings agree on `todo` and on what was passed.
pub record Leads (s : Table) (todo left : List Term) (old new : HeldVariables) : Type 0 where
  pub over : Every (IsOver s) todo → Every (IsOver s) left
  pub needed : (a b : Assignment) → Solves a s → Solves b s → Every (IsSame a b) todo → Every (IsSame a b) left
  pub enough : (a b : Assignment) → Solves a s → Solves b s → (n : ℕ) → AgreeBelow new n a b → AgreeOnPassed new n a b
      → Every (IsSameBelow a b n) left → Every (IsSameBelow a b n) todo
  pub learnt : (a b : Assignment) → Solves a s → Solves b s → (n : ℕ) → AgreeBelow new n a b → AgreeOnPassed new n a b
      → Every (IsSameBelow a b n) left → AgreeOnPassed old (suc n) a b → AgreeOnPassed new (suc n) a b
  pub types_kept : (k : ℕ) → is_held old.types k ≡ true → is_held new.types k ≡ true
  pub kinds_kept : (k : ℕ) → is_held old.kinds k ≡ true → is_held new.kinds k ≡ true
  pub passed_kept : (k : ℕ) → is_held old.passed k ≡ true → is_held new.passed k ≡ true
  pub types_only : (k : ℕ) → is_held new.types k ≡ true → (is_held old.types k ≡ true) ⊎ IsTypeIn s todo k
  pub kinds_only : (k : ℕ) → is_held new.kinds k ≡ true → (is_held old.kinds k ≡ true) ⊎ IsKindIn s todo k

-- The list of kind variables grew from `old` to `new`: by the free variable to which `kind` comes under the
-- substitution s, if it comes to one.
pub record AddsKind (s : Table) (kind : KindTerm) (old new : List ℕ) : Type 0 where
  pub kept : (k : ℕ) → is_held old k ≡ true → is_held new k ≡ true
  pub only : (k : ℕ) → is_held new k ≡ true → (is_held old k ≡ true) ⊎ IsKindIn s (source_term kind ∷ []) k
  pub enough : (a b : Assignment) → Solves a s → Solves b s
      → ((k : ℕ) → is_held new k ≡ true → a.kind_of k ≡ b.kind_of k) → kind_meaning a kind ≡ kind_meaning b kind
