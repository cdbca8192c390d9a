-- What is found of the parts of a def: the types of its parameters, those of the bindings in its body, and that of its
-- result.
use Rattle.std.specs.Prelude.{◌≡◌, ℕ, ◌<◌, ⊤, List, [], ◌∷◌, length, map, Option, Some, None}
use Rattle.script_grammar.specs.Tree.{Tree, Many, AParam, AnInner, ADef}
use Rattle.type_terms.specs.Agrees.{Follows}
use Rattle.type_terms.specs.Ground.{Ground, Assignment}
use Rattle.type_terms.specs.Table.{Table, Solves}
use Rattle.type_terms.specs.Term.{Term}
use Rattle.typing_rules.specs.Scripts.{Places}
use Rattle.typing_rules.specs.Typing.{DefHas, DefaultHas, DefaultsHave, InnersHave, TypesByToken}
use Rattle.type_steps.specs.Environment.{AreFound, AreTypesOver, AreUsesOver, Env, Found, sight_under, types_under}
use Rattle.type_steps.specs.Flow.{Reached}

-- The environment inside a def: what names mean outside (`env`), with the parameters and inner bindings us, each the
-- token of a name with its type.
abbrev pub with_inner : Env → List (ℕ × Term) → Env
with_inner env us = record { targets = env.targets; before = env.before; inner = us }

-- each of these numbers is that of a type variable of the substitution s
abbrev pub AreVars : Table → List ℕ → Type 0
AreVars s [] = ⊤
AreVars s (n ∷ ns) = (n < length s.types) × AreVars s ns

-- the ground types (those without variables) that the assignment a gives the type variables ns
abbrev pub types_at : Assignment → List ℕ → List Ground
types_at a ns = map a.type_of ns

-- ---- parameters

-- The claim on an assignment b of types to variables: it gives type variable n the type t. It gives each use of a name
-- in fs the kinds that `kinds` tells for the use's place; `env` says what names mean.
abbrev pub VarAs : Env → Places → ℕ → Ground → List Found → Assignment → Type 0
VarAs env kinds n t fs b = (b.type_of n ≡ t) × AreFound env b kinds fs

-- The parameter p was typed, from substitution s to s': the solutions of s' are the typings of its default, whose type
-- is variable n. The uses of names in the default were added to `old`, which gives `new`. `env` says what names mean.
pub record InfersParam (s s' : Table) (env : Env) (p : Tree AParam) (n : ℕ) (old new : List Found) : Type 0 where
  pub inside : n < length s'.types
  pub uses : AreUsesOver s' new
  pub follows : Follows s s'
  pub sound : (a : Assignment) → Solves a s' → (kinds : Places) → AreFound env a kinds new
      → DefaultHas (sight_under env a kinds) p (a.type_of n) × AreFound env a kinds old
  pub complete : (a : Assignment) → Solves a s → (kinds : Places) (t : Ground)
      → DefaultHas (sight_under env a kinds) p t → AreFound env a kinds old → Reached s s' a (VarAs env kinds n t new)

-- The default of the parameter p cannot be typed: no solution of the substitution s gives it a type together with the
-- uses `old` that were found before. `env` says what names mean.
abbrev pub HasNoParam : Table → Env → Tree AParam → List Found → Type 0
HasNoParam s env p old = (a : Assignment) → Solves a s → (kinds : Places) (t : Ground)
    → DefaultHas (sight_under env a kinds) p t → AreFound env a kinds old → ⊥

-- What the answer on the parameter p means: a number is its type variable, and `None` says that its default has no
-- type. s is the substitution before and s' after, and `old` and `new` are the uses of names. `env` says what names
-- mean.
abbrev pub IsParamOf : Table → Table → Env → Tree AParam → List Found → List Found → Option ℕ → Type 0
IsParamOf s s' env p old new None = HasNoParam s env p old
IsParamOf s s' env p old new (Some n) = InfersParam s s' env p n old new

-- The claim on an assignment b of types to variables: it gives the type variables ns the types ts. It gives each use
-- of a name in fs the kinds that `kinds` tells for the use's place; `env` says what names mean.
abbrev pub VarsAs : Env → Places → List ℕ → List Ground → List Found → Assignment → Type 0
VarsAs env kinds ns ts fs b = (types_at b ns ≡ ts) × AreFound env b kinds fs

-- The parameters ps of a def were typed, from substitution s to s': the solutions of s' are the typings of their
-- defaults, whose types are the variables ns. The uses of names in the defaults were added to `old`, which gives
-- `new`. `env` says what names mean.
pub record InfersParams (s s' : Table) (env : Env) (ps : Tree (Many AParam)) (ns : List ℕ) (old new : List Found) : Type
    0 where
  pub inside : AreVars s' ns
  pub uses : AreUsesOver s' new
  pub follows : Follows s s'
  pub sound : (a : Assignment) → Solves a s' → (kinds : Places) → AreFound env a kinds new
      → DefaultsHave (sight_under env a kinds) ps (types_at a ns) × AreFound env a kinds old
  pub complete : (a : Assignment) → Solves a s → (kinds : Places) (ts : List Ground)
      → DefaultsHave (sight_under env a kinds) ps ts → AreFound env a kinds old
      → Reached s s' a (VarsAs env kinds ns ts new)

-- The defaults of the parameters ps cannot all be typed: no solution of the substitution s gives them types together
-- with the uses `old` that were found before. `env` says what names mean.
abbrev pub HaveNoParams : Table → Env → Tree (Many AParam) → List Found → Type 0
HaveNoParams s env ps old = (a : Assignment) → Solves a s → (kinds : Places) (ts : List Ground)
    → DefaultsHave (sight_under env a kinds) ps ts → AreFound env a kinds old → ⊥

-- ---- the bindings in the body

-- The claim on an assignment b of types to variables: it gives the bindings vs (tokens with types) the types ts. It
-- gives each use of a name in fs the kinds that `kinds` tells for the use's place; `env` says what names mean.
abbrev pub TypesAs : Env → Places → List (ℕ × Term) → TypesByToken → List Found → Assignment → Type 0
TypesAs env kinds vs ts fs b = (types_under b vs ≡ ts) × AreFound env b kinds fs

-- The bindings in a def's body were typed, from substitution s to s'. us is bound before them and vs after them, each a
-- token with its type; `env` is what is seen outside of the def. Their uses were added to `old`, which gives `new`.
pub record InfersInners (s s' : Table) (env : Env) (is : Tree (Many AnInner)) (us vs : List (ℕ
    × Term)) (old new : List Found) : Type 0 where
  pub over : AreTypesOver s' vs
  pub uses : AreUsesOver s' new
  pub follows : Follows s s'
  pub sound : (a : Assignment) → Solves a s' → (kinds : Places) → AreFound env a kinds new
      → InnersHave (sight_under env a kinds) is (types_under a us) (types_under a vs) × AreFound env a kinds old
  pub complete : (a : Assignment) → Solves a s → (kinds : Places) (ts : TypesByToken)
      → InnersHave (sight_under env a kinds) is (types_under a us) ts → AreFound env a kinds old
      → Reached s s' a (TypesAs env kinds vs ts new)

-- The bindings `is` in a def's body cannot all be typed behind the bindings us: no solution of the substitution s does
-- so together with the uses `old` that were found before. `env` is what is seen outside of the def.
abbrev pub HaveNoInners : Table → Env → Tree (Many AnInner) → List (ℕ × Term) → List Found → Type 0
HaveNoInners s env is us old = (a : Assignment) → Solves a s → (kinds : Places) (ts : TypesByToken)
    → InnersHave (sight_under env a kinds) is (types_under a us) ts → AreFound env a kinds old → ⊥

-- ---- the def

-- The claim on an assignment b of types to variables: it gives the parameters' variables ns the types ts, and the
-- result's variable n the type g. It gives each use of a name in fs the kinds that `kinds` tells for the use's place;
-- `env` says what names mean.
abbrev pub DefAs : Env → Places → List ℕ → ℕ → List Ground → Ground → List Found → Assignment → Type 0
DefAs env kinds ns n ts g fs b = (types_at b ns ≡ ts) × (b.type_of n ≡ g) × AreFound env b kinds fs

-- The def d was typed, from substitution s to s': the solutions of s' are its typings, where its parameters have the
-- variables ns and its result has variable n. Its text has the uses fs of names, and `env` says what names mean
-- outside.
pub record InfersDef (s s' : Table) (env : Env) (d : Tree ADef) (ns : List ℕ) (n : ℕ) (fs : List Found) : Type 0 where
  pub params : AreVars s' ns
  pub result : n < length s'.types
  pub uses : AreUsesOver s' fs
  pub follows : Follows s s'
  pub sound : (a : Assignment) → Solves a s' → (kinds : Places) → AreFound env a kinds fs
      → DefHas (sight_under env a kinds) d (types_at a ns) (a.type_of n)
  pub complete : (a : Assignment) → Solves a s → (kinds : Places) (ts : List Ground) (g : Ground)
      → DefHas (sight_under env a kinds) d ts g → Reached s s' a (DefAs env kinds ns n ts g fs)

-- The def d cannot be typed: no solution of the substitution s gives its parameters and its result types. `env` says
-- what names mean outside of the def.
abbrev pub HasNoDef : Table → Env → Tree ADef → Type 0
HasNoDef s env d = (a : Assignment) → Solves a s → (kinds : Places) (ts : List Ground) (g : Ground)
    → DefHas (sight_under env a kinds) d ts g → ⊥
