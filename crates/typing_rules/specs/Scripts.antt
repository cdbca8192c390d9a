-- Typings of scripts: each bound name has one type for all its uses, and each call of a def types its text anew.
use Rattle.std.specs.Prelude.{◌≡◌, ℕ, zero, suc, ◌+◌, ◌-◌, ◌<◌, ◌≤◌, List, [], ◌∷◌, ◌++◌, Option, nat_eq, true, false}
use Rattle.liq_base.specs.declared.memory.Kind.{Kind}
use Rattle.script_grammar.specs.Tree.{Tree, ADef, none, more, Stmt, BindPart, DefPart, CallPart, IfPart, Bind, Def, Script}
use Rattle.type_terms.specs.Ground.{Ground}
use Rattle.typing_rules.specs.declared.uses.Target.{Target}
use Rattle.typing_rules.specs.Arguments.{Parameter, GivenArgument, Matched, parameters_of}
use Rattle.typing_rules.specs.Scoping.{target_in, meanings_of}
use Rattle.typing_rules.specs.Typing.{TypesByToken, Sight, Has, DefHas}

-- What a statement of a script binds: the type of a value, with the token of its name, or the text of a def. In lists
-- the newest stands first, so that what stands behind a def is what its text sees.
pub data Entry : Type 0 where
  value : ℕ → Ground → Entry
  function : Tree ADef → Entry

-- the types of the values that a script's statements bind, each by the token of its name; defs are left out
abbrev pub types_of : List Entry → TypesByToken
types_of [] = []
types_of (value t g ∷ es) = (t, g) ∷ types_of es
types_of (function d ∷ es) = types_of es

-- For the token of each name: what the name means there, a value, a def or a builtin. None: it is unknown.
abbrev pub Targets : Type 0
Targets = ℕ → Option Target

-- The kinds, mono or stereo, of each use of a name once all calls of defs are expanded. The first argument has the
-- tokens of the calls that lead to the use, the last call first. The second is the token of the name. None: they are
-- not known.
abbrev pub Places : Type 0
Places = List ℕ → ℕ → Option (List Kind)

-- The kinds of the uses of names within one call of a def, when all calls are expanded. `chain` has the tokens of this
-- call and of those around it, the last first. `kinds` looks a use up by all calls that lead to it, and the result by
-- the calls within this one alone.
abbrev pub behind : List ℕ → Places → Places
behind chain kinds = λ c. kinds (c ++ chain)

-- the token of a def's name
abbrev pub def_token : Tree ADef → ℕ
def_token (Def at name ps equals is e) = at

-- the parameters of a def
abbrev pub params_of : Tree ADef → List Parameter
params_of (Def at name ps equals is e) = parameters_of ps

-- A call at token `at`, within the calls `chain` (last first), of the def whose name is token t may have the type g
-- with the arguments gs. The def is one of the entries, the latest first, and its text sees those behind it. The text
-- is typed anew for each call: `kinds` gives its kinds, by the calls that lead there.
abbrev pub calls_behind : Targets → Places → List Entry → List ℕ → ℕ → ℕ → List (GivenArgument Ground) → Ground → Type 0
calls_behind target kinds [] chain at t gs g = ⊥
calls_behind target kinds (value u h ∷ es) chain at t gs g = calls_behind target kinds es chain at t gs g
calls_behind target kinds (function d ∷ es) chain at t gs g =
    elim (nat_eq (def_token d) t) [
      | true ↦ ((ts : List Ground) × Matched (params_of d) gs ts × DefHas (record {
        target = target;
        types = types_of es;
        kinds = kinds (at ∷ chain);
        call = calls_behind target kinds es (at ∷ chain);
      }) d ts g)
      | false ↦ calls_behind target kinds es chain at t gs g
    ]

-- What typing knows at a place: `target` says what names mean, `kinds` the kinds of their uses, and `es` what is bound
-- there, the latest first. `chain` has the calls around the place, the last first; in a statement of the script itself
-- it is empty.
abbrev pub sight : Targets → Places → List Entry → List ℕ → Sight
sight target kinds es chain = record {
  target = target;
  types = types_of es;
  kinds = kinds chain;
  call = calls_behind target kinds es chain;
}

-- A def has some typing, called or not: for some kinds of the uses in it, some types ts of its parameters and some type
-- g of its result. `es` is what is bound before it, and `target` says what names mean.
abbrev pub HasSome : Targets → List Entry → Tree ADef → Type 0
HasSome target es d = (kinds : Places) × (ts : List Ground) × (g : Ground) × DefHas (sight target kinds es []) d ts g

-- The statements of a script have types, one after another, and each def has some typing. `es` is what was bound before
-- them, `fs` what is bound after them, the latest first. `target` says what names mean, and `kinds` which kinds, mono
-- or stereo, their uses have.
abbrev pub IsTypedTo : Targets → Places → List Entry → Script → List Entry → Type 0
IsTypedTo target kinds es none fs = fs ≡ es
IsTypedTo target kinds es (more (Stmt (BindPart (Bind at name f)) semicolon) rest) fs = (g : Ground)
    × Has (sight target kinds es []) f g × IsTypedTo target kinds (value at g ∷ es) rest fs
IsTypedTo target kinds es (more (Stmt (DefPart d) semicolon) rest) fs = HasSome target es d
    × IsTypedTo target kinds (function d ∷ es) rest fs
IsTypedTo target kinds es (more (Stmt (CallPart c) semicolon) rest) fs = ((g : Ground)
    × Has (sight target kinds es []) c g) × IsTypedTo target kinds es rest fs
IsTypedTo target kinds es (more (Stmt (IfPart i) semicolon) rest) fs = ((g : Ground)
    × Has (sight target kinds es []) i g) × IsTypedTo target kinds es rest fs

-- A script has some typing: there are kinds of its uses and types of what it binds that fit all its statements.
-- `target` says what each name means.
abbrev pub HasTyping : Targets → Script → Type 0
HasTyping target script = (kinds : Places) × (es : List Entry) × IsTypedTo target kinds [] script es

-- the first n statements of a script
abbrev pub first_of : ℕ → Script → Script
first_of zero script = none
first_of (suc n) none = none
first_of (suc n) (more s rest) = more s (first_of n rest)

-- how many statements a script has
abbrev pub statement_count : Script → ℕ
statement_count none = 0
statement_count (more s rest) = 1 + statement_count rest

-- types clash in statement n of a script, counted from 1, and not before: the first n - 1 statements have a typing, and
-- the first n have none
pub record IsClash (script : Script) (n : ℕ) : Type 0 where
  pub first : 0 < n
  pub last : n ≤ statement_count script
  pub before : HasTyping (target_in (meanings_of script)) (first_of (n - 1) script)
  pub none : HasTyping (target_in (meanings_of script)) (first_of n script) → ⊥
