-- When a scheme is the general type of a text that was typed under a substitution.
use Rattle.std.specs.Prelude.{◌≡◌, ◌<◌, ⊤, ℕ, List, [], ◌∷◌, length, map, Some}
use Rattle.std.specs.List.{flat_map}
use Rattle.liq_base.specs.declared.memory.Kind.{Kind}
use Rattle.type_terms.specs.Ground.{Ground, Assignment}
use Rattle.type_terms.specs.Table.{Table, Solves}
use Rattle.type_terms.specs.Term.{InKind, Term, meaning, kind_meaning}
use Rattle.type_terms.specs.declared.ty.KindTerm.{KindTerm}
use Rattle.typing_rules.specs.Kinds.{numbered_on, kinds_of}
use Rattle.typing_rules.specs.declared.uses.KindOf.{KindOf}
use Rattle.typing_rules.specs.declared.uses.KindOf.TheVariants.{Fixed, Given}
use Rattle.type_instances.specs.Schemes.{Scheme, IsInstance, open_numbers}
use Rattle.general_types.specs.declared.generalising.TextKind.{TextKind}
use Rattle.general_types.specs.declared.generalising.TextKind.TheVariants.{Open, Outer}
use Rattle.general_types.specs.Holding.{SameTypes}

-- A kind in a def's text as that of a use: one that is open in the def by its number, and one from outside as the
-- assignment `a` gives it.
abbrev pub settled : Assignment → TextKind → KindOf
settled a (Outer k) = Fixed (kind_meaning a k)
settled a (Open j) = Given j

-- Once the open kinds are chosen as `opens`, the kinds of a def's text are those that these kind terms mean under `b`.
-- The variables from outside of the text are as in `a`.
abbrev pub AreKindsOf : Assignment → List TextKind → List Kind → List KindTerm → Assignment → Type 0
AreKindsOf a text opens kinds b = kinds_of opens (map (settled a) text) ≡ Some (map (kind_meaning b) kinds)

-- The scheme g, with its text, is the general type of a def with these parameters, result and kinds. At each solution
-- of the substitution s, its instances are just the types of the def at solutions that give the outer `names` the same
-- types.
pub record IsGeneral (s : Table) (names params : List Term) (result : Term) (kinds : List KindTerm) (g : Scheme)
    (text : List TextKind) : Type 0 where
  pub sound : (a : Assignment) → Solves a s → (ts : List Ground) (r : Ground) (opens : List Kind)
      → IsInstance g a ts r opens →
      (b : Assignment) × Solves b s × SameTypes names a b × (map (meaning b) params ≡ ts) × (meaning b result ≡ r)
      × AreKindsOf a text opens kinds b
  pub complete : (a b : Assignment) → Solves a s → Solves b s → SameTypes names a b →
      (opens : List Kind) × IsInstance g a (map (meaning b) params) (meaning b result) opens
      × AreKindsOf a text opens kinds b

-- the number of a kind in a def's text as a list, if the kind is open; empty if it is from outside
abbrev pub open_of : TextKind → List ℕ
open_of (Outer k) = []
open_of (Open j) = j ∷ []

-- A def's text numbers its open kinds from 0 in the order of first mention, and has as many as its scheme g.
abbrev pub IsNumberedText : Scheme → List TextKind → Type 0
IsNumberedText g text = numbered_on 0 (flat_map open_of text) ≡ Some (length (open_numbers 0 g.kinds))

-- a kind in a def's text that is from outside names only variables of the substitution s
abbrev pub IsTextKindOver : Table → TextKind → Type 0
IsTextKindOver s (Outer k) = InKind (λ n. n < length s.kinds) k
IsTextKindOver s (Open j) = ⊤

-- all kinds in a def's text that are from outside name only variables of the substitution s
abbrev pub AreTextKindsOver : Table → List TextKind → Type 0
AreTextKindsOver s [] = ⊤
AreTextKindsOver s (k ∷ ks) = IsTextKindOver s k × AreTextKindsOver s ks
