-- Assignments that agree on a substitution's variables, and how a later substitution stands to an earlier one.
use Rattle.std.specs.Prelude.{◌≡◌, ◌↔◌, ℕ, ◌<◌, ◌≤◌, length, Some}
use Rattle.type_terms.specs.Ground.{Assignment, Ground, IsNumber}
use Rattle.type_terms.specs.Table.{Table, Solves, bound_at, kind_at, number_at}
use Rattle.type_terms.specs.Term.{Term, meaning}
use Rattle.type_terms.specs.declared.ty.KindTerm.{KindTerm}
use Rattle.liq_base.specs.declared.memory.Kind.{Kind}

-- the assignments a and b give the same types and kinds to the variables of a substitution
pub record Agrees (s : Table) (a b : Assignment) : Type 0 where
  pub types : (k : ℕ) → k < length s.types → a.type_of k ≡ b.type_of k
  pub kinds : (k : ℕ) → k < length s.kinds → a.kind_of k ≡ b.kind_of k

-- the later substitution s' binds each variable that the earlier one, s, binds, and to the same type or kind
pub record KeepsBound (s s' : Table) : Type 0 where
  pub types : (k : ℕ) (t : Term) → bound_at s.types k ≡ Some t → bound_at s'.types k ≡ Some t
  pub kinds : (k : ℕ) (t : KindTerm) → kind_at s.kinds k ≡ Some t → kind_at s'.kinds k ≡ Some t

-- s' is a later substitution than s: it has the variables and bindings of s, maybe more, and each of its solutions is
-- one of s
pub record Follows (s s' : Table) : Type 0 where
  pub types : length s.types ≤ length s'.types
  pub kinds : length s.kinds ≤ length s'.kinds
  pub bound : KeepsBound s s'
  pub solves : (a : Assignment) → Solves a s' → Solves a s

-- s' is the substitution s with the fresh type variable n. Each solution of s extends to one of s' with any type for n,
-- or only with int or decimal where the proposition `number` holds.
pub record HasNewType (s s' : Table) (number : Type 0) (n : ℕ) : Type 0 where
  pub inside : n < length s'.types
  pub follows : Follows s s'
  pub is_number : number → (a : Assignment) → Solves a s' → IsNumber (a.type_of n)
  pub each : (a : Assignment) → Solves a s → (g : Ground) → (number → IsNumber g)
      → (b : Assignment) × Solves b s' × Agrees s a b × (b.type_of n ≡ g)

-- s' is the substitution s with the new type variable n, which is bound to t: its solutions are those of s at which n
-- is t, and each solution of s has one that agrees with it
pub record HasBoundType (s s' : Table) (n : ℕ) (t : Term) : Type 0 where
  pub inside : n < length s'.types
  pub follows : Follows s s'
  pub exactly : (a : Assignment) → Solves a s' ↔ (Solves a s × (a.type_of n ≡ meaning a t))
  pub each : (a : Assignment) → Solves a s → (b : Assignment) × Solves b s' × Agrees s a b

-- s' is the substitution s with the new kind variable n, which may be mono or stereo
pub record HasNewKind (s s' : Table) (n : ℕ) : Type 0 where
  pub inside : n < length s'.kinds
  pub follows : Follows s s'
  pub each : (a : Assignment) → Solves a s → (k : Kind)
      → (b : Assignment) × Solves b s' × Agrees s a b × (b.kind_of n ≡ k)

-- the new substitution has the old one's variables and number variables, and binds what that one binds
pub record SameVariables (old new : Table) : Type 0 where
  pub types : length new.types ≡ length old.types
  pub kinds : length new.kinds ≡ length old.kinds
  pub numbers : (k : ℕ) → number_at new.types k ≡ number_at old.types k
  pub bound : KeepsBound old new
