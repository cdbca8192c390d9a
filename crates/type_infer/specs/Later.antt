-- What earlier values hold, kept as it was reckoned at an earlier substitution, with the values that were bound since.
use Rattle.std.specs.Prelude.{◌≡◌, ℕ, ◌<◌, List, [], ◌∷◌, length}
use Rattle.std.specs.List.{All}
use Rattle.type_terms.specs.Agrees.{Follows}
use Rattle.type_terms.specs.Ground.{Assignment}
use Rattle.type_terms.specs.Table.{Solves, Table}
use Rattle.type_terms.specs.Term.{Term, variable}
use Rattle.general_types.specs.Holding.{HeldVariables, IsHeldBy, SameTypes}
use Rattle.type_steps.specs.Environment.{Known, texts_under}
use Rattle.type_steps.specs.Defs.{terms_before}

-- the list `types` with these type variables put in front one by one, so that the last variable comes first: the values
-- that were bound since
abbrev pub terms_since : List ℕ → List Term → List Term
terms_since [] types = types
terms_since (n ∷ ns) types = terms_since ns (variable n ∷ types)

-- each of these numbers is that of a type variable of the substitution s
abbrev pub AreValues : Table → List ℕ → Type 0
AreValues s ns = All (λ n. n < length s.types) ns

-- What was known of the free variables of the values' types may be out of date. At an earlier substitution they were
-- h; the values bound since have the type variables `pending`, which were not searched yet. The texts of the defs in
-- `before` hold no other variables. s is the substitution now.
pub record HoldsLater (s : Table) (before : List Known) (h : HeldVariables) (pending : List ℕ) : Type 0 where
  pub earlier : Table
  pub follows : Follows earlier s
  pub types : List Term
  pub held : IsHeldBy earlier types h
  pub since : terms_before before ≡ terms_since pending types
  pub there : AreValues s pending
  pub texts : (a b : Assignment) → Solves a s → Solves b s → SameTypes (terms_before before) a b
      → texts_under a before ≡ texts_under b before

-- Free variables of more values were gathered under the substitution s: where `old` is what some types hold, `new` is
-- what they hold with the type variables ns besides.
abbrev pub AddsValues : Table → List ℕ → HeldVariables → HeldVariables → Type 0
AddsValues s ns old new = (types : List Term) → IsHeldBy s types old → IsHeldBy s (terms_since ns types) new

-- Free variables of types were brought up to date: where `old` is what some types held at an earlier substitution,
-- `new` is what they hold at the substitution `now`, with the type variables ns besides.
abbrev pub IsRenewed : Table → List ℕ → HeldVariables → HeldVariables → Type 0
IsRenewed now ns old new = (s : Table) (types : List Term) → Follows s now → IsHeldBy s types old
    → IsHeldBy now (terms_since ns types) new
