-- What the statements of a script have come to, and that the solutions of a substitution are exactly their typings.
use Rattle.std.specs.Prelude.{◌≡◌, ◌≢◌, ℕ, List, [], ◌∷◌, map, Some, ⊤}
use Rattle.std.specs.List.{flat_map}
use Rattle.script_grammar.specs.Tree.{Tree, ADef, AStmt, Script, none, more}
use Rattle.type_terms.specs.Ground.{Assignment}
use Rattle.type_terms.specs.Table.{Table, Solves}
use Rattle.type_terms.specs.Term.{Term, kind_meaning}
use Rattle.typing_rules.specs.declared.uses.KindOf.TheVariants.{Fixed}
use Rattle.typing_rules.specs.declared.uses.Use.{Use}
use Rattle.typing_rules.specs.Scoping.{Meaning, Scope, with_statement}
use Rattle.typing_rules.specs.Scripts.{Entry, IsTypedTo, Places, Targets, def_token}
use Rattle.type_instances.specs.Schemes.{Scheme}
use Rattle.type_steps.specs.Environment.{AreKnownOver, AreUsesOver, EachTakes, Found, Known, TextUse, entries_under, function, settled_use, texts_under, value}
use Rattle.type_steps.specs.Counts.{scheme_count, text_count}
use Rattle.type_steps.specs.Defs.{IsTypingOf}

-- What inference has left of a statement: a value by the token of its name, with its type and the uses of names in it
-- (`bound`); a def with the uses in its text (`defined`); or the uses of a call or an `if` that runs (`ran`).
pub data Done : Type 0 where
  bound : ℕ → Term → List Found → Done
  defined : Tree ADef → List TextUse → Done
  ran : List Found → Done

-- ---- what is known behind statements, the newest first

-- the bindings known behind a statement: what the statement left, if it binds a value or a def, before those known so
-- far
abbrev pub known_with : Done → List Known → List Known
known_with (bound t u fs) ks = value t u ∷ ks
known_with (defined d us) ks = function d us ∷ ks
known_with (ran fs) ks = ks

-- what is known behind statements that left these, where ks was known before
abbrev pub known_after : List Known → List Done → List Known
known_after ks [] = ks
known_after ks (x ∷ xs) = known_after (known_with x ks) xs

-- what is known behind statements that left these, with nothing before
abbrev pub known_of : List Done → List Known
known_of xs = known_after [] xs

-- the def d is new among the known bindings: no def of these has its name at the same token
abbrev pub IsNewDef : List Known → Tree ADef → Type 0
IsNewDef [] d = ⊤
IsNewDef (value t u ∷ ks) d = IsNewDef ks d
IsNewDef (function e us ∷ ks) d = (def_token e ≢ def_token d) × IsNewDef ks d

-- no two defs among the known bindings have their names at one token, so that a token names one def
abbrev pub AreApart : List Known → Type 0
AreApart [] = ⊤
AreApart (value t u ∷ ks) = AreApart ks
AreApart (function d us ∷ ks) = IsNewDef ks d × AreApart ks

-- ---- the uses of statements

-- the uses of names that a statement has left outside of defs; none where it is a def, whose uses stay in its text
abbrev pub founds_of : Done → List Found
founds_of (bound t u fs) = fs
founds_of (defined d us) = []
founds_of (ran fs) = fs

-- a use that inference has found, as the scoping rules tell it: its token, and what the name there means
abbrev pub found_said : Found → Meaning
found_said f = (f.at, Some f.target)

-- a use in the text of a def, as the scoping rules tell it: its token, and what the name there means
abbrev pub text_said : TextUse → Meaning
text_said u = (u.at, Some u.target)

-- a use that inference has found, with its kinds once the variables have their values by the assignment a
abbrev pub found_use : Assignment → Found → Use
found_use a f = record { at = f.at; target = f.target; kinds = map (λ k. Fixed (kind_meaning a k)) f.kinds }

-- the uses of names that a statement has left, once the variables have their values by the assignment a
abbrev pub uses_in : Assignment → Done → List Use
uses_in a (bound t u fs) = map (found_use a) fs
uses_in a (defined d us) = map (settled_use a) us
uses_in a (ran fs) = map (found_use a) fs

-- all uses of names that statements have left, in order, once the variables have their values by the assignment a
abbrev pub uses_under : Assignment → List Done → List Use
uses_under a xs = flat_map (uses_in a) xs

-- ---- scripts that go on

-- a script with the statement s added at its end
abbrev pub with_last : Script → Tree AStmt → Script
with_last none s = more s none
with_last (more q rest) s = more q (with_last rest s)

-- the scope behind a script that begins in the scope sc: sc with the names that its statements bind
abbrev pub scope_after : Scope → Script → Scope
scope_after sc none = sc
scope_after sc (more s rest) = scope_after (with_statement s sc) rest

-- ---- the typings of statements

-- The uses of names that statements left outside of defs have their kinds at their places in `kinds`, once the
-- variables have their values by the assignment a. The bindings ks are known before the first of these statements.
abbrev pub AreTaken : Assignment → Places → List Known → List Done → Type 0
AreTaken a kinds ks [] = ⊤
AreTaken a kinds ks (x ∷ xs) = EachTakes (texts_under a ks) kinds a (founds_of x)
    × AreTaken a kinds (known_with x ks) xs

-- the kinds of all uses outside of defs have only variables of the substitution
abbrev pub AreFoundsOver : Table → List Done → Type 0
AreFoundsOver s [] = ⊤
AreFoundsOver s (x ∷ xs) = AreUsesOver s (founds_of x) × AreFoundsOver s xs

-- The def d is known by a general type, whose instances are its typings at the solutions of the substitution s. us are
-- the uses in its text, which has as many kinds open for each call as the general type has. The bindings ks are known
-- before it, and `targets` says what names mean.
pub record IsDefKnown (s : Table) (targets : Targets) (ks : List Known) (d : Tree ADef) (us : List TextUse) : Type 0
  where
    pub general : Scheme
    pub typing : IsTypingOf s targets ks d general us
    pub numbered : text_count us ≡ Some (scheme_count general)

-- each def among the known bindings ks is known by a general type, where only the bindings before it are known; s is
-- the substitution, and `targets` says what names mean
abbrev pub AreDefsKnown : Table → Targets → List Known → Type 0
AreDefsKnown s targets [] = ⊤
AreDefsKnown s targets (value t u ∷ ks) = AreDefsKnown s targets ks
AreDefsKnown s targets (function d us ∷ ks) = IsDefKnown s targets ks d us × AreDefsKnown s targets ks

-- Inference is right on a script: its typings are exactly the solutions of the substitution s, and there is one. xs is
-- what its statements have left; the uses in it have their kinds at their places in `kinds`. `targets` says what names
-- mean.
pub record AreTypings (s : Table) (targets : Targets) (script : Script) (xs : List Done) : Type 0 where
  pub some : (a : Assignment) × Solves a s
  pub over : AreKnownOver s (known_of xs)
  pub uses_over : AreFoundsOver s xs
  pub defs : AreDefsKnown s targets (known_of xs)
  pub sound : (a : Assignment) → Solves a s → (kinds : Places) → AreTaken a kinds [] xs
      → IsTypedTo targets kinds [] script (entries_under a (known_of xs))
  pub complete : (kinds : Places) (es : List Entry) → IsTypedTo targets kinds [] script es →
      (a : Assignment) × Solves a s × AreTaken a kinds [] xs × (entries_under a (known_of xs) ≡ es)

-- the script has no typing at all, whatever kinds stand at the places of its uses; `targets` says what its names mean
abbrev pub HasNoTypings : Targets → Script → Type 0
HasNoTypings targets script = (kinds : Places) (es : List Entry) → IsTypedTo targets kinds [] script es → ⊥
