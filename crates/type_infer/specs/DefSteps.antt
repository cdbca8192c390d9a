-- What is answered of the parts of a def, as the program holds them.
use Rattle.std.specs.Prelude.{◌≡◌, ℕ, ◌<◌, List, [], ◌∷◌, length, map, Option, Some, None, Bool, true, false}
use Rattle.script_grammar.specs.Tree.{Tree, Many, AParam, AnInner, AnExpr, ADef, more, none}
use Rattle.script_grammar.specs.View.{view_def}
use Rattle.script_grammar.specs.declared.tree.Def.{Def}
use Rattle.type_terms.specs.Agrees.{Follows}
use Rattle.type_terms.specs.Ground.{Ground, Assignment}
use Rattle.type_terms.specs.Table.{Table, Solves}
use Rattle.type_terms.specs.Term.{Term, variable}
use Rattle.typing_rules.specs.Scripts.{Places, Targets, def_token, params_of}
use Rattle.typing_rules.specs.Typing.{Has, InnersHave, TypesByToken, token_of, within}
use Rattle.type_instances.specs.Schemes.{IsSchemeOver, Scheme, scheme_of}
use Rattle.general_types.specs.declared.generalising.DefType.{DefType}
use Rattle.general_types.specs.declared.generalising.TextKind.{TextKind}
use Rattle.general_types.specs.Generals.{AreTextKindsOver, IsGeneral, IsNumberedText}
use Rattle.general_types.specs.Holding.{HeldVariables, IsHeldBy}
use Rattle.name_scope.specs.Seen.{seen_parameter}
use Rattle.type_steps.specs.Environment.{AreFound, AreUsesOver, Env, Found, Known, sight_under, types_under}
use Rattle.type_steps.specs.Flow.{Reached}
use Rattle.expression_types.specs.declared.environment.KnownDef.{KnownDef}
use Rattle.expression_types.specs.declared.environment.TypedName.{TypedName}
use Rattle.type_steps.specs.Defs.{outside}
use Rattle.type_infer.specs.Answers.{text_of}
use Rattle.type_infer.specs.PartsOf.{HasNoDef, HaveNoInners, HaveNoParams, InfersDef, InfersInners, InfersParams}
use Rattle.type_infer.specs.TextUses.{kinds_in, text_uses}
use Rattle.type_infer.specs.declared.parts.TypedParts.{TypedParts}

-- the tokens of the parameters' names, in order
abbrev pub param_tokens : Tree (Many AParam) → List ℕ
param_tokens none = []
param_tokens (more p ps) = token_of p ∷ param_tokens ps

-- the type variables of typed names, in order
abbrev pub vars_named : List TypedName → List ℕ
vars_named ts = map (λ t. t.var) ts

-- the tokens of typed names, in order
abbrev pub tokens_named : List TypedName → List ℕ
tokens_named ts = map (λ t. t.at) ts

-- The parameters ps of a def were typed, from substitution s to s': ts has for each the token of its name and its type
-- variable. The uses of names in the defaults were added to `old`, which gives `new`. `env` says what names mean.
pub record AreTypedParams (s s' : Table) (env : Env) (ps : Tree (Many AParam)) (ts : List TypedName)
    (old new : List Found) : Type 0 where
  pub typed : InfersParams s s' env ps (vars_named ts) old new
  pub named : tokens_named ts ≡ param_tokens ps

-- What the answer on the parameters ps means: their names with their type variables, or `None`, which says that some
-- default has no type. s is the substitution before and s' after, and `old` and `new` are the uses of names. `env`
-- says what names mean.
abbrev pub AreParamsOf : Table → Table → Env → Tree (Many AParam) → List Found → List Found → Option (List TypedName)
    → Type 0
AreParamsOf s s' env ps old new None = HaveNoParams s env ps old
AreParamsOf s s' env ps old new (Some ts) = AreTypedParams s s' env ps ts old new

-- What the answer on the bindings `is` in a def's body means: true, they lead from the bindings us to the bindings vs;
-- false, one has no type. The substitutions are s and s', and the uses `old` and `new`. `targets` says what names
-- mean, and `before` is what is bound outside of the def.
abbrev pub AreInnersOf : Table → Table → Targets → List Known → Tree (Many AnInner) → List (ℕ × Term) → List (ℕ × Term)
    → List Found → List Found → Bool → Type 0
AreInnersOf s s' targets before is us vs old new false = HaveNoInners s (outside targets before) is us old
AreInnersOf s s' targets before is us vs old new true = InfersInners s s' (outside targets before) is us vs old new

-- A def's body has a result of type g behind the parameters us: its inner bindings `is` have some types ws, and the
-- result e has type g behind these. `env` says what names mean, a what its variables are, and `kinds` which kinds each
-- use has.
abbrev pub BodyHas : Env → Places → Assignment → Tree (Many AnInner) → Tree AnExpr → TypesByToken → Ground → Type 0
BodyHas env kinds a is e us g = (ws : TypesByToken) × InnersHave (sight_under env a kinds) is us ws
    × Has (within ws (sight_under env a kinds)) e g

-- The claim on an assignment b of types to variables: it gives type variable n the type g. It gives each use of a name
-- in fs the kinds that `kinds` tells for the use's place; `env` says what names mean.
abbrev pub ResultAs : Env → Places → ℕ → Ground → List Found → Assignment → Type 0
ResultAs env kinds n g fs b = (b.type_of n ≡ g) × AreFound env b kinds fs

-- A def's body, bindings `is` and result e, was typed behind the parameters us, from substitution s to s': variable n
-- is the type of e. Its uses of names were added to `old`, which gives `new`. `env` says what names mean outside.
pub record InfersBody (s s' : Table) (env : Env) (is : Tree (Many AnInner)) (e : Tree AnExpr) (us : List (ℕ
    × Term)) (n : ℕ) (old new : List Found) : Type 0 where
  pub inside : n < length s'.types
  pub uses : AreUsesOver s' new
  pub follows : Follows s s'
  pub sound : (a : Assignment) → Solves a s' → (kinds : Places) → AreFound env a kinds new
      → BodyHas env kinds a is e (types_under a us) (a.type_of n) × AreFound env a kinds old
  pub complete : (a : Assignment) → Solves a s → (kinds : Places) (g : Ground)
      → BodyHas env kinds a is e (types_under a us) g → AreFound env a kinds old
      → Reached s s' a (ResultAs env kinds n g new)

-- A def's body, bindings `is` and result e, cannot be typed behind the parameters us. No solution of the substitution
-- s does so together with the uses `old` that were found before. `env` says what names mean outside.
abbrev pub HasNoBody : Table → Env → Tree (Many AnInner) → Tree AnExpr → List (ℕ × Term) → List Found → Type 0
HasNoBody s env is e us old = (a : Assignment) → Solves a s → (kinds : Places) (g : Ground)
    → BodyHas env kinds a is e (types_under a us) g → AreFound env a kinds old → ⊥

-- What the answer on a def's body, bindings `is` and result e, means: a number is the type variable of e, and `None`
-- says that the body has no type. The substitutions are s and s', the parameters us, and the uses `old` and `new`.
-- `targets` says what names mean, and `before` is what is bound outside of the def.
abbrev pub IsBodyOf : Table → Table → Targets → List Known → Tree (Many AnInner) → Tree AnExpr → List (ℕ × Term)
    → List Found → List Found → Option ℕ → Type 0
IsBodyOf s s' targets before is e us old new None = HasNoBody s (outside targets before) is e us old
IsBodyOf s s' targets before is e us old new (Some n) = InfersBody s s' (outside targets before) is e us n old new

-- What the answer on the def d means: the type variables of its parameters and its result, or `None`, which says that
-- d has no typing. The substitutions are s and s', and `new` the uses in its text. `targets` says what names mean, and
-- `before` is what is bound outside of the def.
abbrev pub ArePartsOf : Table → Table → Targets → List Known → Tree ADef → List Found → Option TypedParts → Type 0
ArePartsOf s s' targets before d new None = HasNoDef s (outside targets before) d
ArePartsOf s s' targets before d new (Some p) = InfersDef s s' (outside targets before) d p.params.items p.result new

-- g and its text are the general type of a def, whose parts p and uses fs were typed under the substitution s. It is
-- general in all variables but h, those that the types of values hold.
pub record IsGeneralType (s : Table) (h : HeldVariables) (p : TypedParts) (fs : List Found) (g : Scheme)
    (text : List TextKind) : Type 0 where
  pub numbered : IsNumberedText g text
  pub over : (names : List Term) → IsHeldBy s names h → IsSchemeOver s g
  pub text_over : (names : List Term) → IsHeldBy s names h → AreTextKindsOver s text
  pub general : (names : List Term) → IsHeldBy s names h
      → IsGeneral s names (map variable p.params.items) (variable p.result) (kinds_in fs) g text

-- What is kept of the def d is t: the def, its token, its parameters' names, its general type, and its uses fs with
-- the general kinds. `made` has the general type and these kinds.
pub record IsKnownDef (d : Def) (fs : List Found) (made : DefType) (t : KnownDef) : Type 0 where
  pub def : t.def.now ≡ d
  pub at : t.at ≡ def_token (view_def d)
  pub params : map seen_parameter t.params.items ≡ params_of (view_def d)
  pub general : t.general ≡ made.general
  pub text : text_of t ≡ text_uses fs made.text.items

-- A typed def d was made general in all variables that no value holds, and t is what is kept of it. p and fs are the
-- types of its parts and its uses. Values held the variables h at an earlier substitution, and hold h' under the
-- substitution s now.
pub record IsGeneralDef (s : Table) (h h' : HeldVariables) (d : Def) (p : TypedParts) (fs : List Found)
    (t : KnownDef) : Type 0 where
  pub made : DefType
  pub known : IsKnownDef d fs made t
  pub type : IsGeneralType s h' p fs (scheme_of t.general) made.text.items
  pub solution : (a : Assignment) × Solves a s
  pub held : (s0 : Table) (names : List Term) → Follows s0 s → IsHeldBy s0 names h → IsHeldBy s names h'
