-- What the program's values stand for, and what is to hold of them.
use Rattle.std.specs.Prelude.{◌≡◌, ℕ, List, [], ◌∷◌, ◌++◌, length, map, Option, Some, None, slice_get, ⊤}
use Rattle.script_grammar.specs.View.{view_def}
use Rattle.type_terms.specs.Term.{Term, variable, term_of}
use Rattle.type_terms.specs.Table.{Table}
use Rattle.type_terms.specs.declared.ty.KindTerm.{KindTerm}
use Rattle.expression_types.specs.declared.environment.TextKind.{TextKind}
use Rattle.expression_types.specs.declared.environment.TextKind.TheVariants as text_kind
use Rattle.type_instances.specs.Schemes.{Scheme, IsInstance, IsSchemeOver, builtin_scheme, open_numbers, scheme_of}
use Rattle.typing_rules.specs.declared.uses.Target.{Target}
use Rattle.typing_rules.specs.declared.uses.Target.TheVariants as target
use Rattle.typing_rules.specs.Arguments.{Parameter}
use Rattle.name_scope.specs.Seen.{seen_parameter}
use Rattle.type_steps.specs.Environment.{Env, Found, TextUse, Pending, of_term, of_def, Known, value, function, IsEnvOver, AreUsesOver, with_use}
use Rattle.type_steps.specs.Flow.{IsCallable, IsInstantiated, HasNoCall}
use Rattle.expression_types.specs.declared.environment.FoundUse.{FoundUse}
use Rattle.expression_types.specs.declared.environment.TextUse.{TextUse as ATextUse}
use Rattle.expression_types.specs.declared.environment.TypedName.{TypedName}
use Rattle.expression_types.specs.declared.environment.KnownDef.{KnownDef}
use Rattle.expression_types.specs.declared.environment.Known.{Known as AKnown}
use Rattle.expression_types.specs.declared.environment.Known.TheVariants as known
use Rattle.expression_types.specs.declared.environment.Names.{Names}
use Rattle.expression_types.specs.declared.callees.Called.{Called}
use Rattle.expression_types.specs.declared.callees.Called.TheVariants as called
use Rattle.expression_types.specs.declared.callees.Callee.{Callee}
pub use Rattle.expression_types.specs.Tables.{def_seen}
use Rattle.expression_types.specs.Tables.{targets_of}

-- a use of a name as the definitions of inference have it: its token, what it means, and its kinds as a plain list
abbrev pub found : FoundUse → Found
found f = record { at = f.at; target = f.target; kinds = f.kinds.items }

-- the program's list of uses of names, as the definitions of inference have it
abbrev pub founds : List FoundUse → List Found
founds fs = map found fs

-- A kind that a name has where a def's text uses it, as the definitions of inference have it. It may not be fixed yet.
-- It is a kind over the variables of the scope around the def, or number j of the kinds over which the def's type is
-- generalised, which each call chooses.
abbrev pub pending : TextKind → Pending
pending (text_kind.Outer k) = of_term k
pending (text_kind.Open j) = of_def j

-- a use of a name in the text of a def, as the definitions of inference have it: each of its kinds is one over
-- variables from outside the def, or one over which the def's type is generalised
abbrev pub text_use : ATextUse → TextUse
text_use u = record { at = u.at; target = u.target; kinds = map pending u.kinds.items }

-- parameters and inner bindings of a def, each as the token of its name with its type variable
abbrev pub types_seen : List TypedName → List (ℕ × Term)
types_seen ns = map (λ n. (n.at, variable n.var)) ns

-- a def that a statement has bound, with the uses of names in its text, as a list of one; the empty list without a def
abbrev pub def_known : Option KnownDef → List Known
def_known None = []
def_known (Some d) = function (view_def d.def.now) (map text_use d.uses.items) ∷ []

-- what a statement has bound, as a list of one: a value with its type variable, or the def of this index among the
-- defs ds; nothing for an index that is no def's
abbrev pub known_seen : List KnownDef → AKnown → List Known
known_seen ds (known.Value n) = value n.at (variable n.var) ∷ []
known_seen ds (known.Function i) = def_known (slice_get ds i)

-- what statements have bound, the newest first; the program has the oldest first
abbrev pub newest_first : List KnownDef → List AKnown → List Known
newest_first ds [] = []
newest_first ds (k ∷ ks) = newest_first ds ks ++ known_seen ds k

-- all names that an expression sees, as the definitions of inference have them: what each name means, what statements
-- have bound, and the bindings of the def around
abbrev pub env_of : Names → Env
env_of n = record {
  targets = targets_of n.targets.now;
  before = newest_first n.defs.now n.before.now;
  inner = types_seen n.inner.now;
}

-- ---- what is to hold before

-- The name at token `at` may be called: in the scope `env` it means t, whose parameters are ps. A call has as its type
-- an instance of the type scheme g, a type generalised over its own variables. s is the substitution so far.
pub record IsCalled (s : Table) (env : Env) (at : ℕ) (t : Target) (ps : List Parameter) (g : Scheme) : Type 0 where
  pub over : IsSchemeOver s g
  pub callable : IsCallable s env at t ps (IsInstance g)
  pub meant : env.targets at ≡ Some t

-- Without a def at token t no call of it has a type. With one, the types of calls are just the instances of its type
-- scheme, a type generalised over its own variables. The Table is the substitution so far, the Env the names in scope.
abbrev pub DefIs : Table → Env → ℕ → Option KnownDef → Type 0
DefIs s env t None = (at : ℕ) → HasNoCall s env at (target.Def t)
DefIs s env t (Some d) = IsSchemeOver s (scheme_of d.general)
    × ((at : ℕ) → IsCallable s env at (target.Def t) (map seen_parameter d.params.items)
    (IsInstance (scheme_of d.general)))

-- the names and uses fit the substitution s: they have only its variables, and calls of each def have the instances
-- of its general type
pub record IsSeen (s : Table) (names : Names) (uses : List FoundUse) : Type 0 where
  pub over : IsEnvOver s (env_of names)
  pub uses_over : AreUsesOver s (founds uses)
  pub calls : (t : ℕ) → DefIs s (env_of names) t (def_seen t names.defs.now)

-- The typing of a name outside a call, at token `at`. If it has a type variable (Some), the name means a binding in
-- this Env, the names in scope, and `new` is `old`, the list of uses, with this use added, which has no kinds.
-- Otherwise nothing is said.
abbrev pub IsNamed : Env → ℕ → List Found → List Found → Option ℕ → Type 0
IsNamed env at old new None = ⊤
IsNamed env at old new (Some n) = (t : ℕ) × (env.targets at ≡ Some (target.Slot t))
    × (new ≡ with_use old at (target.Slot t) [])

-- the general type of what a call calls, a builtin or a def
abbrev pub called_scheme : Called → Scheme
called_scheme (called.Builtin b) = builtin_scheme b
called_scheme (called.General g) = scheme_of g.now

-- The typing of a call at token `at` has begun: c has the fresh type variables of an instance of g, the type scheme of
-- what is called, t. The substitution s has become s'. The list of uses `old` has become `new`, with this use added and
-- one kind for each that g leaves open.
pub record HasBegun (s s' : Table) (g : Scheme) (at : ℕ) (t : Target) (c : Callee) (old new : List Found) : Type 0 where
  pub kinds : List KindTerm
  pub instantiated : IsInstantiated s s' (IsInstance g) (map term_of c.params.items) (variable c.result) kinds
  pub added : new ≡ with_use old at t kinds
  pub counted : length kinds ≡ length (open_numbers 0 g.kinds)
