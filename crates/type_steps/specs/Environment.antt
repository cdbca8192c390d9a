-- What an expression sees while types are inferred: names with types over variables, and defs with the uses in their
-- texts.
use Rattle.std.specs.Prelude.{◌≡◌, ◌<◌, ℕ, List, [], ◌∷◌, ◌++◌, cond, map, length, Option, Some, None, nat_eq, true, false, ⊤}
use Rattle.liq_base.specs.declared.memory.Kind.{Kind}
use Rattle.script_grammar.specs.Tree.{Tree, ADef}
use Rattle.type_terms.specs.Ground.{Assignment}
use Rattle.type_terms.specs.Term.{Term, InKind, meaning, kind_meaning}
use Rattle.type_terms.specs.Table.{Table, IsOver}
use Rattle.type_terms.specs.declared.ty.KindTerm.{KindTerm}
use Rattle.typing_rules.specs.declared.uses.Use.{Use}
use Rattle.typing_rules.specs.declared.uses.KindOf.{KindOf}
use Rattle.typing_rules.specs.declared.uses.KindOf.TheVariants.{Fixed, Given}
use Rattle.typing_rules.specs.declared.uses.Target.{Target}
use Rattle.typing_rules.specs.declared.uses.Target.TheVariants as target
use Rattle.typing_rules.specs.Typing.{TypesByToken, Sight, within}
use Rattle.typing_rules.specs.Scripts.{Entry, Targets, Places, def_token, sight}
use Rattle.typing_rules.specs.Scripts as entry
use Rattle.typing_rules.specs.Kinds.{kinds_of}

-- A kind (mono or stereo) at which the text of a def uses a name. `of_term` is a kind over the variables of
-- unification. `of_def` is a kind that the def's type was generalised over, by its number: each call of the def gives
-- it anew.
pub data Pending : Type 0 where
  of_term : KindTerm → Pending
  of_def : ℕ → Pending

-- a use of a name in the text of a def: the index of its token (`at`), what the name means (`target`), and the kinds at
-- which its type is instantiated there
pub record TextUse : Type 0 where
  pub at : ℕ
  pub target : Target
  pub kinds : List Pending

-- a use of a name in the expression whose type is being inferred: the index of its token (`at`), what the name means
-- (`target`), and the kinds, over variables, at which its type is instantiated there
pub record Found : Type 0 where
  pub at : ℕ
  pub target : Target
  pub kinds : List KindTerm

-- what a statement has bound: a value by its token with its type, or a def with the uses in its text
pub data Known : Type 0 where
  value : ℕ → Term → Known
  function : Tree ADef → List TextUse → Known

-- What an expression sees in inference: what names mean (`targets`), what statements have bound, the newest first
-- (`before`), and the parameters and inner bindings of the def around it, each with its type by its token (`inner`).
pub record Env : Type 0 where
  pub targets : Targets
  pub before : List Known
  pub inner : List (ℕ × Term)

-- ---- what is known of the binding at a token

-- the type of the first parameter or inner binding whose name stands at token t
abbrev pub term_at : ℕ → List (ℕ × Term) → Option Term
term_at t [] = None
term_at t (b ∷ bs) = cond (nat_eq b.0 t) (Some b.1) (term_at t bs)

-- the type of the newest value whose name stands at token t
abbrev pub term_before : ℕ → List Known → Option Term
term_before t [] = None
term_before t (value x u ∷ ks) = cond (nat_eq x t) (Some u) (term_before t ks)
term_before t (function d us ∷ ks) = term_before t ks

-- the first of two types of a name, or the second where there is no first: an inner binding hides an outer one
abbrev pub or_else : Option Term → Option Term → Option Term
or_else (Some u) o = Some u
or_else None o = o

-- the type of the binding whose name stands at token t, as an expression sees it: an inner one, or one of a statement
abbrev pub term_seen : ℕ → Env → Option Term
term_seen t env = or_else (term_at t env.inner) (term_before t env.before)

-- ---- what is seen, under an assignment to the variables

-- A kind of a use in the text of a def, once the variables have their values by the assignment a. It is fixed, or still
-- the number of a kind that each call of the def gives anew.
abbrev pub settled : Assignment → Pending → KindOf
settled a (of_term k) = Fixed (kind_meaning a k)
settled a (of_def j) = Given j

-- a use of a name in the text of a def, once the variables have their values by the assignment a
abbrev pub settled_use : Assignment → TextUse → Use
settled_use a u = record { at = u.at; target = u.target; kinds = map (settled a) u.kinds }

-- what statements have bound, once the variables have their values by the assignment a: values with their types, and
-- defs
abbrev pub entries_under : Assignment → List Known → List Entry
entries_under a [] = []
entries_under a (value t u ∷ ks) = entry.value t (meaning a u) ∷ entries_under a ks
entries_under a (function d us ∷ ks) = entry.function d ∷ entries_under a ks

-- the types of parameters and inner bindings, each by the token of its name, once the variables have their values
abbrev pub types_under : Assignment → List (ℕ × Term) → TypesByToken
types_under a ts = map (λ x. (x.0, meaning a x.1)) ts

-- what an expression sees, once the variables have their values by the assignment a; `kinds` has the kinds that stand
-- at the places of the uses of names
abbrev pub sight_under : Env → Assignment → Places → Sight
sight_under env a kinds = within (types_under a env.inner) (sight env.targets kinds (entries_under a env.before) [])

-- ---- what the uses say of the kinds at the places

-- the uses in the texts of defs, each text under the token of its def's name, the newest def first
abbrev pub Texts : Type 0
Texts = List (ℕ × List Use)

-- the uses in the texts of the defs, once the variables have their values by the assignment a; each text stands under
-- the token of its def's name
abbrev pub texts_under : Assignment → List Known → Texts
texts_under a [] = []
texts_under a (value t u ∷ ks) = texts_under a ks
texts_under a (function d us ∷ ks) = (def_token d, map (settled_use a) us) ∷ texts_under a ks

-- A use of a name at token `at` has the kinds ks in `kinds`, which has kinds for each place: a token with the `chain`
-- of calls that led there. A builtin has ks at its place. A call of a def has some kinds there, and goes on into the
-- def's text, by `calls`. A value has none.
abbrev pub Takes : (List ℕ → ℕ → List Kind → Type 0) → Places → List ℕ → ℕ → Target → List Kind → Type 0
Takes calls kinds chain at (target.Slot t) ks = ⊤
Takes calls kinds chain at (target.Def t) ks = (js : List Kind) × (kinds chain at ≡ Some js) × calls (at ∷ chain) t ks
Takes calls kinds chain at (target.Builtin b) ks = kinds chain at ≡ Some ks

-- Each use in the text of a def has its kinds at its place in `kinds`: its token, reached by the `chain` of calls.
-- `given` has the kinds that this call gives for those over which the def's type is general. `calls` says what a call
-- of a def asks for.
abbrev pub TextTakes : (List ℕ → ℕ → List Kind → Type 0) → Places → List ℕ → List Kind → List Use → Type 0
TextTakes calls kinds chain given [] = ⊤
TextTakes calls kinds chain given (u ∷ us) = ((ks : List Kind) × (kinds_of given u.kinds ≡ Some ks)
    × Takes calls kinds chain u.at u.target ks) × TextTakes calls kinds chain given us

-- A call of the def at token t, by this `chain` of calls, gives ks for the kinds over which the def's type is general:
-- the uses in the text of the def have their kinds at their places in `kinds`. A def that is not among the texts cannot
-- be called.
abbrev pub CallTakes : Texts → Places → List ℕ → ℕ → List Kind → Type 0
CallTakes [] kinds chain t ks = ⊥
CallTakes (x ∷ xs) kinds chain t ks =
    elim (nat_eq x.0 t) [
      | true ↦ TextTakes (CallTakes xs kinds) kinds chain ks x.1
      | false ↦ CallTakes xs kinds chain t ks
    ]

-- Each use that inference has found has its kinds, once the variables have their values by the assignment a, at its
-- place in `kinds`. xs has the uses in the texts of the defs, which a call goes into.
abbrev pub EachTakes : Texts → Places → Assignment → List Found → Type 0
EachTakes xs kinds a [] = ⊤
EachTakes xs kinds a (f ∷ fs) = Takes (CallTakes xs kinds) kinds [] f.at f.target (map (kind_meaning a) f.kinds)
    × EachTakes xs kinds a fs

-- The uses fs of names have the kinds that inference found for them at their places in `kinds`, once the variables have
-- their values by the assignment a. A place is a token with the calls that led there; env has the defs whose texts
-- calls go into.
abbrev pub AreFound : Env → Assignment → Places → List Found → Type 0
AreFound env a kinds fs = EachTakes (texts_under a env.before) kinds a fs

-- the uses of names found so far (fs) with one more behind them: of the name at token `at`, which means t, with the
-- kinds ks at which its type is instantiated
abbrev pub with_use : List Found → ℕ → Target → List KindTerm → List Found
with_use fs at t ks = fs ++ record { at = at; target = t; kinds = ks } ∷ []

-- ---- over the variables of a substitution

-- a kind that may be a variable has only variables of the substitution s
abbrev pub IsKindOver : Table → KindTerm → Type 0
IsKindOver s k = InKind (λ n. n < length s.kinds) k

-- each of these kinds, which may be variables, has only variables of the substitution s
abbrev pub AreKindsOver : Table → List KindTerm → Type 0
AreKindsOver s [] = ⊤
AreKindsOver s (k ∷ ks) = IsKindOver s k × AreKindsOver s ks

-- the kinds of each use of a name that inference has found have only variables of the substitution s
abbrev pub AreUsesOver : Table → List Found → Type 0
AreUsesOver s [] = ⊤
AreUsesOver s (f ∷ fs) = AreKindsOver s f.kinds × AreUsesOver s fs

-- A kind of a use in a def's text has only variables of the substitution s. A kind that each call of the def gives anew
-- has none.
abbrev pub IsPendingOver : Table → Pending → Type 0
IsPendingOver s (of_term k) = IsKindOver s k
IsPendingOver s (of_def j) = ⊤

-- each of these kinds of a use in a def's text has only variables of the substitution s
abbrev pub ArePendingOver : Table → List Pending → Type 0
ArePendingOver s [] = ⊤
ArePendingOver s (k ∷ ks) = IsPendingOver s k × ArePendingOver s ks

-- the kinds of each use of a name in the text of a def have only variables of the substitution s
abbrev pub IsTextOver : Table → List TextUse → Type 0
IsTextOver s [] = ⊤
IsTextOver s (u ∷ us) = ArePendingOver s u.kinds × IsTextOver s us

-- the types of the values, and the kinds in the texts of the defs, that statements have bound have only variables of
-- the substitution s
abbrev pub AreKnownOver : Table → List Known → Type 0
AreKnownOver s [] = ⊤
AreKnownOver s (value t u ∷ ks) = IsOver s u × AreKnownOver s ks
AreKnownOver s (function d us ∷ ks) = IsTextOver s us × AreKnownOver s ks

-- the types of parameters and inner bindings have only variables of the substitution s
abbrev pub AreTypesOver : Table → List (ℕ × Term) → Type 0
AreTypesOver s [] = ⊤
AreTypesOver s (x ∷ xs) = IsOver s x.1 × AreTypesOver s xs

-- all types and kinds that an expression sees have only variables of the substitution s, so that the substitution has a
-- value for each
pub record IsEnvOver (s : Table) (env : Env) : Type 0 where
  pub before : AreKnownOver s env.before
  pub inner : AreTypesOver s env.inner
