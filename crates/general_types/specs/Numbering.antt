-- Types whose variables are numbered anew, in the order of first mention. No contract of a public call cites this.
use Rattle.std.specs.Prelude.{◌≡◌, ℕ, ◌<◌, List, [], ◌∷◌, ◌++◌, length, map, take, drop, cond, Some, slice_get}
use Rattle.type_terms.specs.Ground.{Assignment}
use Rattle.type_terms.specs.Naming.{instance}
use Rattle.type_terms.specs.Resolved.{IsFreeType, IsFreeKind}
use Rattle.type_terms.specs.Table.{Table, Solves, number_at}
use Rattle.type_terms.specs.Term.{Term, InTerm, InTerms, meaning, terms_of}
use Rattle.type_terms.specs.declared.ty.KindTerm.{KindTerm}
use Rattle.type_terms.specs.declared.ty.KindTerm.TheVariants.{Fixed, Var}
use Rattle.type_instances.specs.declared.general.TypeParameter.{TypeParameter}
use Rattle.type_instances.specs.declared.general.TypeParameter.TheVariants.{Any, Number, Outer as OuterType}
use Rattle.type_instances.specs.declared.general.KindParameter.{KindParameter}
use Rattle.type_instances.specs.declared.general.KindParameter.TheVariants.{Open, Unread, Outer as OuterKind}
use Rattle.general_types.specs.Holding.{HeldVariables, is_held}

-- the list ys has the items of xs at its front, and maybe more behind them
pub record IsFront (xs ys : List ℕ) : Type 0 where
  pub same : (i k : ℕ) → slice_get xs i ≡ Some k → slice_get ys i ≡ Some k

-- The type u is t with each variable replaced by its place in the lists ts' (types) and ks' (kinds). These lists grew
-- at their ends from ts and ks.
pub record IsNumbered (ts ks ts' ks' : List ℕ) (t u : Term) : Type 0 where
  pub types : IsFront ts ts'
  pub kinds : IsFront ks ks'
  pub inside : InTerm (λ n. n < length ts') (λ n. n < length ks') u
  pub same : instance ts' ks' u ≡ t

-- The types us are xs with each variable replaced by its place in the lists ts' (types) and ks' (kinds). These lists
-- grew at their ends from ts and ks.
pub record AreNumbered (ts ks ts' ks' : List ℕ) (xs us : List Term) : Type 0 where
  pub types : IsFront ts ts'
  pub kinds : IsFront ks ks'
  pub inside : InTerms (λ n. n < length ts') (λ n. n < length ks') (terms_of us)
  pub same : map (instance ts' ks') us ≡ xs

-- the types us are xs with every bound variable replaced by what the substitution s binds it to, so that free ones
-- alone are left
pub record AreSettled (s : Table) (xs us : List Term) : Type 0 where
  pub unbound : InTerms (IsFreeType s) (IsFreeKind s) (terms_of us)
  pub same : (a : Assignment) → Solves a s → map (meaning a) us ≡ map (meaning a) xs

-- What type variable k may stand for in a def's general type under the substitution s. It is itself if it is among the
-- variables h of outer names, any number type if s says that it is one, and otherwise any type.
abbrev pub type_parameter : Table → HeldVariables → ℕ → TypeParameter
type_parameter s h k = cond (is_held h.types k) (OuterType k) (cond (number_at s.types k) Number Any)

-- What kind variable k may stand for in a def's general type: itself if it is among the variables h of outer names,
-- and otherwise `free`.
abbrev pub kind_parameter : HeldVariables → KindParameter → ℕ → KindParameter
kind_parameter h free k = cond (is_held h.kinds k) (OuterKind k) free

-- What each kind variable in ks may stand for in a def's general type, where outer names hold the variables h. The
-- def's text names the first n, which are open to each use unless held; the others are never read.
abbrev pub kind_parameters : HeldVariables → ℕ → List ℕ → List KindParameter
kind_parameters h n ks = map (kind_parameter h Open) (take n ks) ++ map (kind_parameter h Unread) (drop n ks)

-- the place that a numbered kind names, as a list of one; empty for a fixed kind
abbrev pub place_of : KindTerm → List ℕ
place_of (Fixed k) = []
place_of (Var i) = i ∷ []
