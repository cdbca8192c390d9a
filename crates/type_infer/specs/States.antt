-- What typing keeps of the statements that it has typed, and what one statement more comes to.
use Rattle.std.specs.Prelude.{◌≡◌, ℕ, List, [], ◌∷◌, ◌++◌, map, length, Option, Some, None, Bool, true, false}
use Rattle.script_grammar.specs.Placed.{IsPlaced}
use Rattle.script_grammar.specs.Tree.{Sort, Tree, APart, AStmt, Stmt, Script}
use Rattle.type_terms.specs.Extends.{HasDefaults}
use Rattle.type_terms.specs.Ground.{Assignment}
use Rattle.type_terms.specs.Table.{Table, Solves}
use Rattle.type_terms.specs.Term.{variable}
use Rattle.typing_rules.specs.declared.fault.TypeFault.{TypeFault}
use Rattle.typing_rules.specs.declared.uses.Use.{Use}
use Rattle.typing_rules.specs.Scoping.{meant, names}
use Rattle.typing_rules.specs.Scripts.{Targets}
use Rattle.type_steps.specs.Environment.{Env, Known}
use Rattle.type_steps.specs.Flow.{HasNoType, Infers}
use Rattle.type_steps.specs.Statements.{AreTypings, Done, HasNoTypings, found_said, known_of, scope_after, uses_under, with_last}
use Rattle.type_steps.specs.Whole.{AreWhole}
use Rattle.expression_types.specs.Seen.{founds, newest_first}
use Rattle.expression_types.specs.declared.environment.FoundUse.{FoundUse}
use Rattle.expression_types.specs.declared.environment.Known.TheVariants as known
use Rattle.expression_types.specs.declared.environment.KnownDef.{KnownDef}
use Rattle.expression_types.specs.Order.{tokens_used}
use Rattle.type_infer.specs.Scope.{AreSeenDefs}
use Rattle.type_infer.specs.Later.{HoldsLater}
use Rattle.type_infer.specs.Matches.{AreAimed, AreNumberedDefs, HaveCountsIn, aimed}
use Rattle.type_infer.specs.Steps.{AreThere, dones_in}
use Rattle.type_infer.specs.declared.steps.Step.TheVariants as step
use Rattle.type_infer.specs.declared.steps.Typing.{Typing}
use Rattle.type_infer.specs.declared.steps.TypedExpr.{TypedExpr}

-- ---- one expression

-- An expression was noted with this type variable and these uses of names: t holds just them. The substitution s,
-- under which that was done, has a solution.
pub record IsNoted (s : Table) (var : ℕ) (uses : List FoundUse) (t : TypedExpr) : Type 0 where
  pub some : (a : Assignment) × Solves a s
  pub same : t.var ≡ var
  pub uses_are : t.uses.items ≡ uses

-- The expression e was typed, from substitution s to s': t has its type variable and its uses of names, in order.
-- `env` says what names mean, and ds are the defs so far. Each use has as many kinds as its target's type leaves open.
pub record IsTypedWith (s s' : Table) (env : Env) (ds : List KnownDef) {r : Sort} (e : Tree r) (t : TypedExpr) : Type 0
  where
    pub infers : Infers s s' env e (variable t.var) [] (founds t.uses.items)
    pub some : (a : Assignment) × Solves a s'
    pub named : map found_said (founds t.uses.items) ≡ map (aimed env.targets) (tokens_used e)
    pub counted : HaveCountsIn ds (founds t.uses.items)

-- What the answer on the expression e means: a type variable with its uses of names, or `None`, which says that e has
-- no type. s is the substitution before and s' after, `env` says what names mean, and ds are the defs so far.
abbrev pub IsTypedAs : Table → Table → Env → List KnownDef → {r : Sort} → Tree r → Option TypedExpr → Type 0
IsTypedAs s s' env ds e None = HasNoType s env e []
IsTypedAs s s' env ds e (Some t) = IsTypedWith s s' env ds e t

-- ---- the statements that were typed

-- what the statements typed so far have bound, the newest first, as the rules look names up
abbrev pub knowns : Typing → List Known
knowns t = newest_first t.defs t.before

-- what each statement typed so far has left for the end of typing: a bound name, a def or uses of names
abbrev pub dones : Typing → List Done
dones t = dones_in t.defs t.steps.items

-- The state of typing may take one more statement: its bound names and defs are in order, and each def that a step
-- names is there. What the free variables of values were is known at an earlier substitution. `targets` says what
-- names mean.
pub record IsReady (targets : Targets) (t : Typing) : Type 0 where
  pub seen : AreSeenDefs t.subst targets t.before t.defs
  pub holds : HoldsLater t.subst (knowns t) t.held t.pending.items
  pub numbered : AreNumberedDefs t.defs (knowns t)
  pub there : AreThere (length t.defs) t.steps.items

-- The state of typing stands for a script: the solutions of its substitution are the typings of the script. What its
-- statements left for the end is all uses with their kinds. `targets` says what names mean.
pub record IsTypedSo (targets : Targets) (script : Script) (t : Typing) : Type 0 where
  pub known : knowns t ≡ known_of (dones t)
  pub typings : AreTypings t.subst targets script (dones t)
  pub whole : AreWhole script (dones t)

-- The state of typing after a script: it stands for the script's typings, and may take one more statement. `targets`
-- says what the names mean.
pub record IsAfter (targets : Targets) (script : Script) (t : Typing) : Type 0 where
  pub ready : IsReady targets t
  pub typed : IsTypedSo targets script t

-- From `old` to `new` the state of typing is the same in all that it holds; only the room of its lists may have grown.
pub record IsSameTyping (old new : Typing) : Type 0 where
  pub subst : new.subst ≡ old.subst
  pub before : new.before ≡ old.before
  pub defs : new.defs ≡ old.defs
  pub steps : new.steps.items ≡ old.steps.items
  pub held : new.held ≡ old.held
  pub pending : new.pending.items ≡ old.pending.items

-- A statement s may come next behind a script: `targets` says of its names what they mean there, and its tokens are
-- numbered as they stand.
pub record IsNext (targets : Targets) (script : Script) (s : Tree AStmt) : Type 0 where
  pub aimed : AreAimed targets (map meant (names (scope_after [] script) s))
  pub placed : IsPlaced 0 (with_last script s)

-- Typing took one statement more: behind any script that the state `old` stands for, `new` is the state after this
-- part of a statement. `targets` says what names mean.
abbrev pub IsMore : Targets → Tree APart → Typing → Typing → Type 0
IsMore targets part old new = (script : Script) (semicolon : Bool) → IsTypedSo targets script old
    → IsNext targets script (Stmt part semicolon) → IsAfter targets (with_last script (Stmt part semicolon)) new

-- Typing fails at one statement more: behind any script that the state `old` stands for, no typing has this part as
-- the next statement. `targets` says what names mean.
abbrev pub IsNoMore : Targets → Tree APart → Typing → Type 0
IsNoMore targets part old = (script : Script) (semicolon : Bool) → IsTypedSo targets script old
    → HasNoTypings targets (with_last script (Stmt part semicolon))

-- What the answer on one statement more means: true, this part was typed, and `new` is the state behind it; false, no
-- typing has it behind the state `old`. `targets` says what names mean.
abbrev pub IsStepped : Targets → Tree APart → Typing → Typing → Bool → Type 0
IsStepped targets part old new true = IsMore targets part old new
IsStepped targets part old new false = IsNoMore targets part old

-- ---- what is kept of a statement

-- From `old` to `new` the state of typing kept a binding of a name: the name's token `at`, and the type variable and
-- uses of its value e. The value is put with those whose types have yet to be searched for free variables (`pending`).
pub record IsValueKept (at : ℕ) (e : TypedExpr) (old new : Typing) : Type 0 where
  pub subst : new.subst ≡ old.subst
  pub before : new.before ≡ old.before ++ known.Value (record { at = at; var = e.var }) ∷ []
  pub defs : new.defs ≡ old.defs
  pub steps : new.steps.items ≡ old.steps.items ++ step.Bound (record { at = at; var = e.var }) e.uses ∷ []
  pub held : new.held ≡ old.held
  pub pending : new.pending.items ≡ old.pending.items ++ e.var ∷ []

-- From `old` to `new` the state of typing kept the uses of names in a statement that only runs, a call or an `if`; e
-- has these uses.
pub record IsRunKept (e : TypedExpr) (old new : Typing) : Type 0 where
  pub subst : new.subst ≡ old.subst
  pub before : new.before ≡ old.before
  pub defs : new.defs ≡ old.defs
  pub steps : new.steps.items ≡ old.steps.items ++ step.Ran e.uses ∷ []
  pub held : new.held ≡ old.held
  pub pending : new.pending.items ≡ old.pending.items

-- From `old` to `new` the state of typing kept the def d behind the other defs, with a step that names it by its
-- index.
pub record IsDefKept (d : KnownDef) (old new : Typing) : Type 0 where
  pub subst : new.subst ≡ old.subst
  pub before : new.before ≡ old.before ++ known.Function (length old.defs) ∷ []
  pub defs : new.defs ≡ old.defs ++ d ∷ []
  pub steps : new.steps.items ≡ old.steps.items ++ step.Defined (length old.defs) ∷ []
  pub held : new.held ≡ old.held
  pub pending : new.pending.items ≡ old.pending.items

-- The answer of typing, where the names have no `fault`: the uses of all statements of the state t. Each type and kind
-- that is still open gets its default.
pub record AreDefaultUses (t : Typing) (fault : Option TypeFault) (uses : List Use) : Type 0 where
  pub faultless : fault ≡ None
  pub default : HasDefaults t.subst
  pub uses_are : uses ≡ uses_under default.at (dones t)
