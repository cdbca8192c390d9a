-- Types over variables, as plain data, and what they mean.
use Rattle.std.specs.Prelude.{ℕ, ◌+◌, max, Option, Some, None, List, [], ◌∷◌}
use Rattle.type_terms.specs.Ground.{Ground, Grounds, base_type, list, tuple, source, no_more, and_more, Assignment}
use Rattle.liq_base.specs.declared.memory.Kind.{Kind}
use Rattle.type_terms.specs.declared.ty.Base.{Base}
use Rattle.type_terms.specs.declared.ty.Base.TheVariants as base
use Rattle.type_terms.specs.declared.ty.KindTerm.{KindTerm}
use Rattle.type_terms.specs.declared.ty.KindTerm.TheVariants.{Fixed, Var}
use Rattle.type_terms.specs.declared.ty.Ty.{Ty}
use Rattle.type_terms.specs.declared.ty.Ty.TheOpen as ty
use Rattle.type_terms.specs.declared.ty.Ty.TheFolds.{fold-Ty}

mutual
  -- a type in which variables may stand, by their numbers: for types, and for the kinds of sources
  pub data Term : Type 0 where
    base_term : Base → Term
    list_term : Term → Term
    tuple_term : Terms → Term
    source_term : KindTerm → Term
    variable : ℕ → Term

  -- the component types of a tuple, one after another
  pub data Terms : Type 0 where
    no_terms : Terms
    one_more : Term → Terms → Terms

-- a list of types as the parts of a tuple
abbrev pub terms_of : List Term → Terms
terms_of [] = no_terms
terms_of (t ∷ ts) = one_more t (terms_of ts)

-- one node of a type of the program as plain data, where the types inside it are plain data already
abbrev pub term_step : ty.Ty-F Term → Term
term_step ty.Int = base_term base.Int
term_step ty.Decimal = base_term base.Decimal
term_step ty.Text = base_term base.Text
term_step ty.Bool = base_term base.Bool
term_step ty.Unit = base_term base.Unit
term_step ty.Format = base_term base.Format
term_step ty.Pred = base_term base.Pred
term_step (ty.List b) = list_term b.value
term_step (ty.Tuple v) = tuple_term (terms_of v.items)
term_step (ty.Source k) = source_term k
term_step (ty.Var n) = variable n

-- a type of the program as plain data, by its nodes from the leaves up
abbrev pub term_of : Ty → Term
term_of = fold-Ty Term term_step

-- the base type that a type is, such as int; none for a list, a tuple, a source or a variable
abbrev pub base_of : Term → Option Base
base_of (base_term b) = Some b
base_of _ = None

-- the kind of a source, mono or stereo, which a kind over variables is under the assignment a
abbrev pub kind_meaning : Assignment → KindTerm → Kind
kind_meaning a (Fixed k) = k
kind_meaning a (Var n) = a.kind_of n

abbrev mutual
  -- the type that a term is under an assignment to its variables
  pub meaning : Assignment → Term → Ground
  meaning a (base_term b) = base_type b
  meaning a (list_term t) = list (meaning a t)
  meaning a (tuple_term ts) = tuple (meanings a ts)
  meaning a (source_term k) = source (kind_meaning a k)
  meaning a (variable n) = a.type_of n

  -- the types that a tuple's parts are under an assignment
  pub meanings : Assignment → Terms → Grounds
  meanings a no_terms = no_more
  meanings a (one_more t ts) = and_more (meaning a t) (meanings a ts)

-- if the kind is a variable, Q holds of its number; of mono and stereo nothing is asked
abbrev pub InKind : (ℕ → Type 0) → KindTerm → Type 0
InKind Q (Fixed k) = Unit {0}
InKind Q (Var n) = Q n

abbrev mutual
  -- P holds of the number of each type variable that stands in the type, and Q of each kind variable
  pub InTerm : (ℕ → Type 0) → (ℕ → Type 0) → Term → Type 0
  InTerm P Q (base_term b) = Unit {0}
  InTerm P Q (list_term t) = InTerm P Q t
  InTerm P Q (tuple_term ts) = InTerms P Q ts
  InTerm P Q (source_term k) = InKind Q k
  InTerm P Q (variable n) = P n

  -- P holds of each type variable of a tuple's parts, and Q of each kind variable
  pub InTerms : (ℕ → Type 0) → (ℕ → Type 0) → Terms → Type 0
  InTerms P Q no_terms = Unit {0}
  InTerms P Q (one_more t ts) = InTerm P Q t × InTerms P Q ts

abbrev mutual
  -- the height of a type as a tree, where type variable n is as high as `w n` says
  pub height : (ℕ → ℕ) → Term → ℕ
  height w (base_term b) = 1
  height w (list_term t) = 1 + height w t
  height w (tuple_term ts) = 1 + heights w ts
  height w (source_term k) = 1
  height w (variable n) = w n

  -- the greatest height of a tuple's parts, 0 without parts
  pub heights : (ℕ → ℕ) → Terms → ℕ
  heights w no_terms = 0
  heights w (one_more t ts) = max (height w t) (heights w ts)
