-- New variables for those of a scheme, one by one. No contract of a public call cites this.
use Rattle.std.specs.Prelude.{◌≡◌, ℕ, ◌<◌, List, [], ◌∷◌, length, Some, slice_get}
use Rattle.liq_base.specs.declared.memory.Kind.{Kind}
use Rattle.type_terms.specs.Agrees.{Agrees, Follows}
use Rattle.type_terms.specs.Ground.{Ground, Assignment}
use Rattle.type_terms.specs.Table.{Table, Solves}
use Rattle.type_terms.specs.declared.ty.KindTerm.{KindTerm}
use Rattle.type_terms.specs.declared.ty.KindTerm.TheVariants.{Var}
use Rattle.type_instances.specs.declared.general.TypeParameter.{TypeParameter}
use Rattle.type_instances.specs.declared.general.TypeParameter.TheVariants.{Outer as OuterType}
use Rattle.type_instances.specs.declared.general.KindParameter.{KindParameter}
use Rattle.type_instances.specs.declared.general.KindParameter.TheVariants.{Open, Unread, Outer as OuterKind}
use Rattle.type_instances.specs.Schemes.{MayBe, KindMayBe}

-- Each of the parameters xs of a general type that is a type variable from outside of it names a variable of the
-- substitution s.
abbrev pub HasOuterTypes : Table → List TypeParameter → Type 0
HasOuterTypes s xs = (i k : ℕ) → slice_get xs i ≡ Some (OuterType k) → k < length s.types

-- Each of the parameters xs of a general type that is a kind variable from outside of it names a variable of the
-- substitution s.
abbrev pub HasOuterKinds : Table → List KindParameter → Type 0
HasOuterKinds s xs = (i k : ℕ) → slice_get xs i ≡ Some (OuterKind k) → k < length s.kinds

-- If the parameter x of a general type is a type variable from outside of it, it names a variable of the substitution
-- s.
abbrev pub HasOuterType : Table → TypeParameter → Type 0
HasOuterType s x = (k : ℕ) → x ≡ OuterType k → k < length s.types

-- If the parameter x of a general type is a kind variable from outside of it, it names a variable of the substitution
-- s.
abbrev pub HasOuterKind : Table → KindParameter → Type 0
HasOuterKind s x = (k : ℕ) → x ≡ OuterKind k → k < length s.kinds

-- Type variable n stands for the parameter x of a general type that is instantiated, by which the substitution s grew
-- to s'. In each solution it is a type that x may be, and each such type is its value in some solution.
pub record IsNewType (s s' : Table) (x : TypeParameter) (n : ℕ) : Type 0 where
  pub inside : n < length s'.types
  pub follows : Follows s s'
  pub sound : (a : Assignment) → Solves a s' → MayBe a x (a.type_of n)
  pub complete : (a : Assignment) → Solves a s → (g : Ground) → MayBe a x g
      → (b : Assignment) × Solves b s' × Agrees s a b × (b.type_of n ≡ g)

-- Kind variable n stands for the parameter x of a general type that is instantiated, by which the substitution s grew
-- to s'. In each solution it is a kind (mono or stereo) that x may be, and each such kind is its value in some
-- solution.
pub record IsNewKind (s s' : Table) (x : KindParameter) (n : ℕ) : Type 0 where
  pub inside : n < length s'.kinds
  pub follows : Follows s s'
  pub sound : (a : Assignment) → Solves a s' → KindMayBe a x (a.kind_of n)
  pub complete : (a : Assignment) → Solves a s → (k : Kind) → KindMayBe a x k
      → (b : Assignment) × Solves b s' × Agrees s a b × (b.kind_of n ≡ k)

-- The kinds of a call of a def that its text names (open kinds), as terms: of the kind variables, by their numbers ns,
-- those whose parameter at the same place of xs is open.
abbrev pub open_terms : List KindParameter → List ℕ → List KindTerm
open_terms [] ns = []
open_terms (x ∷ xs) [] = []
open_terms (Open ∷ xs) (n ∷ ns) = Var n ∷ open_terms xs ns
open_terms (Unread ∷ xs) (n ∷ ns) = open_terms xs ns
open_terms (OuterKind k ∷ xs) (n ∷ ns) = open_terms xs ns

-- The type variables ns stand, place by place, for the parameters xs of a general type that is instantiated, by which
-- the substitution s grew to s'. In each solution they are types that these may be, and each such choice is reached by
-- one.
pub record AreNewTypes (s s' : Table) (xs : List TypeParameter) (ns : List ℕ) : Type 0 where
  pub many : length ns ≡ length xs
  pub inside : (i n : ℕ) → slice_get ns i ≡ Some n → n < length s'.types
  pub follows : Follows s s'
  pub sound : (a : Assignment) → Solves a s' → (i n : ℕ) (x : TypeParameter) → slice_get xs i ≡ Some x
      → slice_get ns i ≡ Some n → MayBe a x (a.type_of n)
  pub complete : (a : Assignment) → Solves a s → (f : ℕ → Ground)
      → ((i : ℕ) (x : TypeParameter) → slice_get xs i ≡ Some x → MayBe a x (f i)) →
      (b : Assignment) × Solves b s' × Agrees s a b × ((i n : ℕ) → slice_get ns i ≡ Some n → b.type_of n ≡ f i)

-- The kind variables ns stand, place by place, for the parameters xs of a general type that is instantiated, by which
-- the substitution s grew to s'. In each solution they are kinds that these may be, and each such choice is reached by
-- one.
pub record AreNewKinds (s s' : Table) (xs : List KindParameter) (ns : List ℕ) : Type 0 where
  pub many : length ns ≡ length xs
  pub inside : (i n : ℕ) → slice_get ns i ≡ Some n → n < length s'.kinds
  pub follows : Follows s s'
  pub sound : (a : Assignment) → Solves a s' → (i n : ℕ) (x : KindParameter) → slice_get xs i ≡ Some x
      → slice_get ns i ≡ Some n → KindMayBe a x (a.kind_of n)
  pub complete : (a : Assignment) → Solves a s → (f : ℕ → Kind)
      → ((i : ℕ) (x : KindParameter) → slice_get xs i ≡ Some x → KindMayBe a x (f i)) →
      (b : Assignment) × Solves b s' × Agrees s a b × ((i n : ℕ) → slice_get ns i ≡ Some n → b.kind_of n ≡ f i)
