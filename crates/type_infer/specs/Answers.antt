-- What is answered of a def.
use Rattle.std.specs.Prelude.{◌≡◌, ℕ, List, ◌∷◌, map, length, Option, Some, None}
use Rattle.script_grammar.specs.View.{view_def}
use Rattle.script_grammar.specs.declared.tree.Def.{Def}
use Rattle.type_terms.specs.Agrees.{Follows}
use Rattle.type_terms.specs.Ground.{Assignment}
use Rattle.type_terms.specs.Table.{Solves, Table}
use Rattle.typing_rules.specs.Scripts.{Targets, def_token, params_of}
use Rattle.type_instances.specs.Schemes.{scheme_of}
use Rattle.general_types.specs.Holding.{HeldVariables}
use Rattle.name_scope.specs.Seen.{seen_parameter}
use Rattle.type_steps.specs.Environment.{Known, TextUse, function}
use Rattle.expression_types.specs.Seen.{text_use}
use Rattle.expression_types.specs.declared.environment.KnownDef.{KnownDef}
use Rattle.expression_types.specs.declared.environment.Names.{Names}
use Rattle.expression_types.specs.Order.{Said, said_at}
use Rattle.type_steps.specs.Counts.{scheme_count, text_count}
use Rattle.type_steps.specs.Defs.{HasNoTyping, HoldsBefore, IsTypingOf, KeepsTypings}

-- the uses of names in a def's text, as the rules of typing speak of them
abbrev pub text_of : KnownDef → List TextUse
text_of d = map text_use d.uses.items

-- what is told of a use in a def's text: its token, what the name means, and how many kinds it has
abbrev pub said_in : TextUse → Said
said_in u = (u.at, Some u.target, Some (length u.kinds))

-- The uses us are those of the names at the tokens ts, in order; ns says what each name means and how many kinds it
-- has.
abbrev pub AreSaidAs : Names → List ℕ → List TextUse → Type 0
AreSaidAs ns ts us = map said_in us ≡ map (said_at ns) ts

-- The def d was typed, from substitution s to s': t has its general type and the uses in its text, which give its
-- typings. Typings of the statements `before` are lost only where d has none. The types of values hold the variables h
-- now; `targets` says what names mean.
pub record IsTypedDef (s s' : Table) (targets : Targets) (before : List Known) (d : Def) (h : HeldVariables)
    (t : KnownDef) : Type 0 where
  pub def : t.def.now ≡ d
  pub at : t.at ≡ def_token (view_def d)
  pub params : map seen_parameter t.params.items ≡ params_of (view_def d)
  pub follows : Follows s s'
  pub complete : KeepsTypings s s' targets before (view_def d)
  pub typing : IsTypingOf s' targets before (view_def d) (scheme_of t.general) (text_of t)
  pub held : HoldsBefore s' (function (view_def d) (text_of t) ∷ before) h

-- The open kinds of the def d are numbered well: the numbers in its text go from 0 in the order of first mention, and
-- there are as many as its general type has. The substitution s has a solution.
pub record IsNumberedDef (s : Table) (d : KnownDef) : Type 0 where
  pub some : (a : Assignment) × Solves a s
  pub numbered : text_count (text_of d) ≡ Some (scheme_count (scheme_of d.general))

-- What the answer on the def d means: its general type and uses, or `None`, which says that it has no typing. The
-- substitutions are s and s', `targets` says what names mean, and `before` is what is bound. The types of values hold
-- the variables h afterwards.
abbrev pub IsDefTyped : Table → Table → Targets → List Known → Def → HeldVariables → Option KnownDef → Type 0
IsDefTyped s s' targets before d h None = HasNoTyping s targets before (view_def d)
IsDefTyped s s' targets before d h (Some t) = IsTypedDef s s' targets before d h t
