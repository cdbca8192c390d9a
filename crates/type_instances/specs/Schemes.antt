-- What a call may call, as a type that is general in some of its variables.
use Rattle.std.specs.Prelude.{◌≡◌, ℕ, suc, ◌<◌, ⊤, List, [], ◌∷◌, map, length, replicate, Some, slice_get}
use Rattle.liq_base.specs.declared.memory.Kind.{Kind}
use Rattle.type_terms.specs.Ground.{Ground, Assignment, IsNumber}
use Rattle.type_terms.specs.Term.{Term, InTerm, InTerms, meaning, term_of, terms_of}
use Rattle.type_terms.specs.Table.{Table}
use Rattle.typing_rules.specs.declared.uses.Builtin.{Builtin}
use Rattle.typing_rules.specs.Table.{signature}
use Rattle.type_instances.specs.declared.general.General.{General}
use Rattle.type_instances.specs.declared.general.TypeParameter.{TypeParameter}
use Rattle.type_instances.specs.declared.general.TypeParameter.TheVariants.{Any, Number, Outer as OuterType}
use Rattle.type_instances.specs.declared.general.KindParameter.{KindParameter}
use Rattle.type_instances.specs.declared.general.KindParameter.TheVariants.{Open, Unread, Outer as OuterKind}

-- A general type of a def or builtin: the types of its parameters and result, over variables of its own, counted from
-- 0, and for each of these what it may stand for.
pub record Scheme : Type 0 where
  pub params : List Term
  pub result : Term
  pub types : List TypeParameter
  pub kinds : List KindParameter

-- The general type that the program holds, as plain data of the specification.
abbrev pub scheme_of : General → Scheme
scheme_of g = record {
  params = map term_of g.params.items;
  result = term_of g.result;
  types = g.types.items;
  kinds = g.kinds.items;
}

-- The type g is one to which the type variable of a general type may be instantiated, by its parameter. That is any
-- type, a number type, or for a variable from outside of the general type the value that the assignment `a` gives to
-- it.
abbrev pub MayBe : Assignment → TypeParameter → Ground → Type 0
MayBe a Any g = ⊤
MayBe a Number g = IsNumber g
MayBe a (OuterType k) g = g ≡ a.type_of k

-- The kind k (mono or stereo) is one to which the kind variable of a general type may be instantiated, by its
-- parameter. That is either kind, or for a variable from outside of it the value that the assignment `a` gives to it.
abbrev pub KindMayBe : Assignment → KindParameter → Kind → Type 0
KindMayBe a Open k = ⊤
KindMayBe a Unread k = ⊤
KindMayBe a (OuterKind n) k = k ≡ a.kind_of n

-- The numbers of those kind variables of a general type that are open, that is, named in the text of its def. The first
-- variable of this list has the number n.
abbrev pub open_numbers : ℕ → List KindParameter → List ℕ
open_numbers n [] = []
open_numbers n (Open ∷ ks) = n ∷ open_numbers (suc n) ks
open_numbers n (Unread ∷ ks) = open_numbers (suc n) ks
open_numbers n (OuterKind k ∷ ks) = open_numbers (suc n) ks

-- The scheme s (a general type) can be instantiated to parameters of the types ts and the result g, where its open kind
-- variables, those that the text of its def names, become `opens`. Variables from outside of s are as in the assignment
-- `a`.
pub record IsInstance (s : Scheme) (a : Assignment) (ts : List Ground) (g : Ground) (opens : List Kind) : Type 0 where
  pub at : Assignment
  pub types : (i : ℕ) (x : TypeParameter) → slice_get s.types i ≡ Some x → MayBe a x (at.type_of i)
  pub kinds : (i : ℕ) (x : KindParameter) → slice_get s.kinds i ≡ Some x → KindMayBe a x (at.kind_of i)
  pub params : map (meaning at) s.params ≡ ts
  pub result : meaning at s.result ≡ g
  pub opened : map at.kind_of (open_numbers 0 s.kinds) ≡ opens

-- The general type of a builtin, from its row in the table of builtins: its type variable may become any type, and its
-- kind variable mono or stereo. It uses no variable from outside.
abbrev pub builtin_scheme : Builtin → Scheme
builtin_scheme b = record {
  params = map (λ p. p.1) (signature b).params;
  result = (signature b).result;
  types = replicate (signature b).types Any;
  kinds = replicate (signature b).kinds Open;
}

-- These types use only variables that are there: type variables of numbers below m, and kind variables of numbers below
-- n.
abbrev pub AreAmong : ℕ → ℕ → List Term → Type 0
AreAmong m n ts = InTerms (λ k. k < m) (λ k. k < n) (terms_of ts)

-- A scheme (a general type) is well formed over a table of type variables: it has a parameter for each variable of its
-- own that its types use, and the outer variables that it names are in the table.
pub record IsSchemeOver (table : Table) (s : Scheme) : Type 0 where
  pub params : AreAmong (length s.types) (length s.kinds) s.params
  pub result : InTerm (λ n. n < length s.types) (λ n. n < length s.kinds) s.result
  pub types : (i k : ℕ) → slice_get s.types i ≡ Some (OuterType k) → k < length table.types
  pub kinds : (i k : ℕ) → slice_get s.kinds i ≡ Some (OuterKind k) → k < length table.kinds
