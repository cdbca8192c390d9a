-- The defs of a script by the tokens of their names, and what a call of one leads to.
use Rattle.std.specs.Prelude.{◌≡◌, ◌⊎◌, ℕ, List, ◌∷◌, Option, Some, None, true, false, nat_eq}
use Rattle.script_grammar.specs.Tree.{Tree, ADef, none, more, Stmt, BindPart, DefPart, CallPart, IfPart, Script}
use Rattle.type_terms.specs.Ground.{Ground}
use Rattle.typing_rules.specs.Arguments.{GivenArgument, Matched}
use Rattle.typing_rules.specs.Typing.{DefHas}
use Rattle.typing_rules.specs.Scripts.{Entry, Targets, Places, def_token, params_of, sight}
use Rattle.typing_rules.specs.Kinds.{Stands}

-- the def is a statement of the script
abbrev pub IsDefOf : Script → Tree ADef → Type 0
IsDefOf none d = ⊥
IsDefOf (more (Stmt (DefPart e) semicolon) rest) d = (e ≡ d) ⊎ IsDefOf rest d
IsDefOf (more (Stmt (BindPart b) semicolon) rest) d = IsDefOf rest d
IsDefOf (more (Stmt (CallPart c) semicolon) rest) d = IsDefOf rest d
IsDefOf (more (Stmt (IfPart i) semicolon) rest) d = IsDefOf rest d

-- the first def in a script whose name stands at token t, as evaluation finds it
abbrev pub def_at : ℕ → Script → Option (Tree ADef)
def_at t none = None
def_at t (more (Stmt (DefPart d) semicolon) rest) = elim (nat_eq (def_token d) t)
    [ true ↦ Some d | false ↦ def_at t rest ]
def_at t (more (Stmt (BindPart b) semicolon) rest) = def_at t rest
def_at t (more (Stmt (CallPart c) semicolon) rest) = def_at t rest
def_at t (more (Stmt (IfPart i) semicolon) rest) = def_at t rest

-- A call at token `at`, within the calls `chain` (last first), of the def whose name is token t is well typed with the
-- result g. The def is among the entries es, gs fit its parameters, and its text sees the entries before it. `ts` says
-- what names mean, and `kinds` the kinds of their uses.
pub record Leads (ts : Targets) (kinds : Places) (es : List Entry) (chain : List ℕ) (at t : ℕ)
    (gs : List (GivenArgument Ground)) (g : Ground) : Type 0 where
  pub def : Tree ADef
  pub before : List Entry
  pub stands : Stands es def before
  pub token : def_token def ≡ t
  pub types : List Ground
  pub matched : Matched (params_of def) gs types
  pub has : DefHas (sight ts kinds before (at ∷ chain)) def types g

-- each def among the entries, which are what is bound at a place, is a statement of the script
abbrev pub AreDefsOf : Script → List Entry → Type 0
AreDefsOf script es = (d : Tree ADef) (before : List Entry) → Stands es d before → IsDefOf script d

-- A call is well typed, and its def is the one that a search of the script by the token of its name finds. All defs
-- before that one are the script's too. `chain` has the calls around, `at` is the call's token, t the def's, gs the
-- arguments and g the type of the result.
pub record LeadsInto (script : Script) (ts : Targets) (kinds : Places) (es : List Entry) (chain : List ℕ) (at t : ℕ)
    (gs : List (GivenArgument Ground)) (g : Ground) : Type 0 where
  pub call : Leads ts kinds es chain at t gs g
  pub found : def_at (def_token call.def) script ≡ Some call.def
  pub inside : AreDefsOf script call.before
