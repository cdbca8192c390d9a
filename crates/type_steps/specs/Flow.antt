-- What inference says of one expression: the type and the uses that it has found give, under the solutions of the
-- substitution, exactly the typings.
use Rattle.std.specs.Prelude.{◌≡◌, ℕ, zero, suc, ◌<◌, ⊤, length, map, Bool, true, false, List, [], ◌∷◌, Option, Some, None}
use Rattle.liq_base.specs.declared.memory.Kind.{Kind}
use Rattle.script_grammar.specs.Tree.{Sort, Tree, Many, AnArg, AFull}
use Rattle.type_terms.specs.Ground.{Ground, Grounds, Assignment}
use Rattle.type_terms.specs.Term.{Term, Terms, tuple_term, variable, terms_of, meaning, meanings, kind_meaning}
use Rattle.type_terms.specs.declared.ty.KindTerm.{KindTerm}
use Rattle.type_terms.specs.Table.{Table, Solves, IsOver}
use Rattle.type_terms.specs.Agrees.{Agrees, Follows}
use Rattle.typing_rules.specs.Arguments.{Parameter, GivenArgument, Matched}
use Rattle.typing_rules.specs.declared.uses.Target.{Target}
use Rattle.typing_rules.specs.Typing.{Has, EachHas, HaveAll, AreGiven, Applied}
use Rattle.typing_rules.specs.Scripts.{Places}
use Rattle.type_steps.specs.Environment.{Env, Found, AreFound, AreUsesOver, AreKindsOver, Takes, CallTakes, sight_under, texts_under}

-- From a solution `a` of the substitution s, a solution `at` of the later substitution s' was reached. It agrees with
-- `a` on the variables of s, and the condition Q holds at it.
pub record Reached (s s' : Table) (a : Assignment) (Q : Assignment → Type 0) : Type 0 where
  pub at : Assignment
  pub solves : Solves at s'
  pub agrees : Agrees s a at
  pub holds : Q at

-- What inference found of an expression is right, once the variables have their values by the assignment b: its type
-- term u means the type g. The uses fs of names in it have the kinds that stand in `kinds` at their places.
abbrev pub FoundAs : Env → Places → Term → Ground → List Found → Assignment → Type 0
FoundAs env kinds u g fs b = (meaning b u ≡ g) × AreFound env b kinds fs

-- The uses fs of names that inference has found are right, once the variables have their values by the assignment b:
-- they have the kinds that stand in `kinds` at their places.
abbrev pub Uses : Env → Places → List Found → Assignment → Type 0
Uses env kinds fs b = AreFound env b kinds fs

-- What inference found of several expressions is right, once the variables have their values by the assignment b: their
-- type terms us mean the types gs. The uses fs of names in them have the kinds that stand in `kinds` at their places.
abbrev pub AllAs : Env → Places → Terms → Grounds → List Found → Assignment → Type 0
AllAs env kinds us gs fs b = (meanings b us ≡ gs) × AreFound env b kinds fs

-- Inference is right on the expression e: e has the type u in s', which follows from the substitution s. Its uses of
-- names were added to those in `old`, which gives `new`. Each solution of s' gives a typing (`sound`), and each typing
-- at a solution of s comes from one of s' (`complete`).
pub record Infers (s s' : Table) (env : Env) {r : Sort} (e : Tree r) (u : Term) (old new : List Found) : Type 0 where
  pub over : IsOver s' u
  pub uses : AreUsesOver s' new
  pub follows : Follows s s'
  pub sound : (a : Assignment) → Solves a s' → (kinds : Places) → AreFound env a kinds new
      → Has (sight_under env a kinds) e (meaning a u) × AreFound env a kinds old
  pub complete : (a : Assignment) → Solves a s → (kinds : Places) (g : Ground) → Has (sight_under env a kinds) e g
      → AreFound env a kinds old →
      Reached s s' a (FoundAs env kinds u g new)

-- The expression e has no type at any solution of the substitution s, whatever kinds stand at the places of its uses of
-- names. The uses found before it (`old`) have their kinds there.
abbrev pub HasNoType : Table → Env → {r : Sort} → Tree r → List Found → Type 0
HasNoType s env e old = (a : Assignment) → Solves a s → (kinds : Places) (g : Ground)
    → Has (sight_under env a kinds) e g → AreFound env a kinds old → ⊥

-- Inference is right on several expressions, which all have the type u in s'; s' follows from the substitution s. Their
-- uses of names were added to those in `old`, which gives `new`. Each solution of s' gives typings (`sound`), and all
-- typings with u come from solutions of s' (`complete`).
pub record InfersEach (s s' : Table) (env : Env) {r : Sort} (es : Tree (Many r)) (u : Term)
    (old new : List Found) : Type 0 where
  pub uses : AreUsesOver s' new
  pub follows : Follows s s'
  pub sound : (a : Assignment) → Solves a s' → (kinds : Places) → AreFound env a kinds new
      → EachHas (sight_under env a kinds) es (meaning a u) × AreFound env a kinds old
  pub complete : (a : Assignment) → Solves a s → (kinds : Places) → EachHas (sight_under env a kinds) es (meaning a u)
      → AreFound env a kinds old →
      Reached s s' a (Uses env kinds new)

-- These expressions do not all have the type u at any solution of the substitution s, whatever kinds stand at the
-- places of their uses of names. The uses found before them (`old`) have their kinds there.
abbrev pub HaveNoType : Table → Env → {r : Sort} → Tree (Many r) → Term → List Found → Type 0
HaveNoType s env es u old = (a : Assignment) → Solves a s → (kinds : Places)
    → EachHas (sight_under env a kinds) es (meaning a u) → AreFound env a kinds old → ⊥

-- Inference is right on several expressions, which have the types us in s', each its own; s' follows from the
-- substitution s. Their uses of names were added to those in `old`, which gives `new`. Each solution of s' gives
-- typings (`sound`), and all typings come from solutions of s' (`complete`).
pub record InfersAll (s s' : Table) (env : Env) (es : Tree (Many AFull)) (us : Terms) (old new : List Found) : Type 0
  where
    pub over : IsOver s' (tuple_term us)
    pub uses : AreUsesOver s' new
    pub follows : Follows s s'
    pub sound : (a : Assignment) → Solves a s' → (kinds : Places) → AreFound env a kinds new
        → HaveAll (sight_under env a kinds) es (meanings a us) × AreFound env a kinds old
    pub complete : (a : Assignment) → Solves a s → (kinds : Places) (gs : Grounds)
        → HaveAll (sight_under env a kinds) es gs → AreFound env a kinds old →
        Reached s s' a (AllAs env kinds us gs new)

-- These expressions do not all have types at any solution of the substitution s, whatever kinds stand at the places of
-- their uses of names. The uses found before them (`old`) have their kinds there.
abbrev pub HaveNoTypes : Table → Env → Tree (Many AFull) → List Found → Type 0
HaveNoTypes s env es old = (a : Assignment) → Solves a s → (kinds : Places) (gs : Grounds)
    → HaveAll (sight_under env a kinds) es gs → AreFound env a kinds old → ⊥

-- the arguments of a call by label, each with the type that its variable has under the assignment a
abbrev pub given_under : Assignment → List (GivenArgument ℕ) → List (GivenArgument Ground)
given_under a gs = map (λ g. (g.0, a.type_of g.1)) gs

-- What inference found of a call's arguments is right, once the variables have their values by the assignment b: their
-- type variables gs mean the types in hs. The uses fs of names in them have the kinds that stand in `kinds` at their
-- places.
abbrev pub GivenAs : Env → Places → List (GivenArgument ℕ) → List (GivenArgument Ground) → List Found → Assignment
    → Type 0
GivenAs env kinds gs hs fs b = (given_under b gs ≡ hs) × AreFound env b kinds fs

-- the type variable of each argument of a call is one of the substitution s
abbrev pub AreInside : Table → List (GivenArgument ℕ) → Type 0
AreInside s [] = ⊤
AreInside s (g ∷ gs) = (g.1 < length s.types) × AreInside s gs

-- Inference is right on the arguments es of a call, which have the labels and type variables gs in s'; s' follows from
-- the substitution s. Their uses of names were added to those in `old`, which gives `new`. Each solution of s' gives
-- typings (`sound`), and all typings come from solutions of s' (`complete`).
pub record InfersGiven (s s' : Table) (env : Env) (es : Tree (Many AnArg)) (gs : List (GivenArgument ℕ))
    (old new : List Found) : Type 0 where
  pub over : AreInside s' gs
  pub uses : AreUsesOver s' new
  pub follows : Follows s s'
  pub sound : (a : Assignment) → Solves a s' → (kinds : Places) → AreFound env a kinds new
      → AreGiven (sight_under env a kinds) es (given_under a gs) × AreFound env a kinds old
  pub complete : (a : Assignment) → Solves a s → (kinds : Places) (hs : List (GivenArgument Ground))
      → AreGiven (sight_under env a kinds) es hs → AreFound env a kinds old →
      Reached s s' a (GivenAs env kinds gs hs new)

-- These arguments of a call do not all have types at any solution of the substitution s, whatever kinds stand at the
-- places of their uses of names. The uses found before them (`old`) have their kinds there.
abbrev pub HaveNoGiven : Table → Env → Tree (Many AnArg) → List Found → Type 0
HaveNoGiven s env es old = (a : Assignment) → Solves a s → (kinds : Places) (hs : List (GivenArgument Ground))
    → AreGiven (sight_under env a kinds) es hs → AreFound env a kinds old → ⊥

-- ---- a fact of types that is made to hold

-- From the substitution s to s' the condition C was made to hold, as by a unification: the solutions of s' are those of
-- s at which C holds, up to new variables.
pub record Restricts (s s' : Table) (C : Assignment → Type 0) : Type 0 where
  pub follows : Follows s s'
  pub sound : (a : Assignment) → Solves a s' → C a
  pub complete : (a : Assignment) → Solves a s → C a → (b : Assignment) × Solves b s' × Agrees s a b

-- the condition C on the values of type variables holds at no solution of the substitution s, so it cannot be met
abbrev pub Never : Table → (Assignment → Type 0) → Type 0
Never s C = (a : Assignment) → Solves a s → C a → ⊥

-- The answer of a step that makes the condition C hold: if it is true, C holds from s to s' and no solution at which C
-- holds is lost; if it is false, C holds at no solution of s.
abbrev pub IsMade : Bool → Table → Table → (Assignment → Type 0) → Type 0
IsMade true s s' C = Restricts s s' C
IsMade false s s' C = Never s C

-- Type variable n of s' is bound to the type term t: they mean the same at each solution of s'. s' follows from the
-- substitution s, and no solution of s is lost.
pub record Defines (s s' : Table) (n : ℕ) (t : Term) : Type 0 where
  pub inside : n < length s'.types
  pub follows : Follows s s'
  pub sound : (a : Assignment) → Solves a s' → a.type_of n ≡ meaning a t
  pub complete : (a : Assignment) → Solves a s → (b : Assignment) × Solves b s' × Agrees s a b

-- the statement P, but only where n, the number of operands that are left, is not 0; nothing is asked where no operand
-- is left
abbrev pub IfMany : ℕ → Type 0 → Type 0
IfMany zero P = ⊤
IfMany (suc n) P = P

-- ---- calls

-- each of these types has only variables of the substitution s
abbrev pub AreTermsOver : Table → List Term → Type 0
AreTermsOver s [] = ⊤
AreTermsOver s (t ∷ ts) = IsOver s t × AreTermsOver s ts

-- What t means at token `at` may be called. Its calls are those whose arguments match the parameters ps at types ts,
-- with a result g and kinds ks for those over which its type is general. I says which ts, g and ks its type allows.
pub record IsCallable (s : Table) (env : Env) (at : ℕ) (t : Target) (ps : List Parameter) (I : Assignment → List Ground
    → Ground → List Kind → Type 0) : Type 0 where
  pub calls : (a : Assignment) → Solves a s
      → (kinds : Places) (gs : List (GivenArgument Ground)) (g : Ground) (ts : List Ground) (ks : List Kind) →
      Matched ps gs ts → I a ts g ks → Takes (CallTakes (texts_under a env.before) kinds) kinds [] at t ks
      → Applied (sight_under env a kinds) at (Some t) gs g
  pub instance : (a : Assignment) → Solves a s → (kinds : Places) (gs : List (GivenArgument Ground)) (g : Ground)
      → Applied (sight_under env a kinds) at (Some t) gs g →
      (ts : List Ground) × (ks : List Kind) × Matched ps gs ts × I a ts g ks
      × Takes (CallTakes (texts_under a env.before) kinds) kinds [] at t ks

-- A general type was instantiated with new variables, from the substitution s to s': us are the types of the
-- parameters, v that of the result, ws the kinds over which it is general. I says which types and kinds it allows: the
-- solutions of s' give exactly these.
pub record IsInstantiated (s s' : Table) (I : Assignment → List Ground → Ground → List Kind
    → Type 0) (us : List Term) (v : Term) (ws : List KindTerm) : Type 0 where
  pub params : AreTermsOver s' us
  pub result : IsOver s' v
  pub kinds : AreKindsOver s' ws
  pub follows : Follows s s'
  pub sound : (a : Assignment) → Solves a s' → I a (map (meaning a) us) (meaning a v) (map (kind_meaning a) ws)
  pub complete : (a : Assignment) → Solves a s → (ts : List Ground) (g : Ground) (ks : List Kind) → I a ts g ks →
      (b : Assignment) × Solves b s' × Agrees s a b × (map (meaning b) us ≡ ts) × (meaning b v ≡ g)
      × (map (kind_meaning b) ws ≡ ks)

-- at no solution of the substitution s, a call at token `at` of t, which is what the name there means, has a type
abbrev pub HasNoCall : Table → Env → ℕ → Target → Type 0
HasNoCall s env at t = (a : Assignment) → Solves a s → (kinds : Places) (gs : List (GivenArgument Ground)) (g : Ground)
    → Applied (sight_under env a kinds) at (Some t) gs g → ⊥

-- ---- what is answered: a variable, or nothing where there is no type

-- The answer of inference on the expression e is right: e has the type variable of this number as its type, or without
-- a number no type. The substitution went from s to s', and the uses of names found from `old` to `new`.
abbrev pub IsTypeOf : Table → Table → Env → {r : Sort} → Tree r → List Found → List Found → Option ℕ → Type 0
IsTypeOf s s' env e old new None = HasNoType s env e old
IsTypeOf s s' env e old new (Some n) = Infers s s' env e (variable n) old new

-- The answer of inference on the expressions es is right: they were made to have type variable n as their type (true),
-- or cannot all have it (false). The substitution went from s to s', and the uses of names found from `old` to `new`.
abbrev pub AreJoined : Table → Table → Env → {r : Sort} → Tree (Many r) → ℕ → List Found → List Found → Bool → Type 0
AreJoined s s' env es n old new false = HaveNoType s env es (variable n) old
AreJoined s s' env es n old new true = InfersEach s s' env es (variable n) old new

-- The answer of inference on the expressions es is right: they have these type variables as their types, or without an
-- answer not all have a type. The substitution went from s to s', and the uses of names found from `old` to `new`.
abbrev pub AreTypesOf : Table → Table → Env → Tree (Many AFull) → List Found → List Found → Option (List ℕ) → Type 0
AreTypesOf s s' env es old new None = HaveNoTypes s env es old
AreTypesOf s s' env es old new (Some ns) = InfersAll s s' env es (terms_of (map variable ns)) old new

-- The answer of inference on the arguments es of a call is right: they have these labels and type variables, or without
-- an answer not all have a type. The substitution went from s to s', and the uses of names found from `old` to `new`.
abbrev pub AreGivenOf : Table → Table → Env → Tree (Many AnArg) → List Found → List Found
    → Option (List (GivenArgument ℕ)) → Type 0
AreGivenOf s s' env es old new None = HaveNoGiven s env es old
AreGivenOf s s' env es old new (Some gs) = InfersGiven s s' env es gs old new

-- the number n of a type variable, as a step answers it that succeeded; nothing where the step did not
abbrev pub if_yes : Bool → ℕ → Option ℕ
if_yes true n = Some n
if_yes false n = None
