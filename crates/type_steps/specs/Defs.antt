-- What inference says of one def: its general type and the uses in its text give, under the solutions of the
-- substitution, exactly its typings.
use Rattle.std.specs.Prelude.{◌≡◌, List, [], ◌∷◌, map}
use Rattle.liq_base.specs.declared.memory.Kind.{Kind}
use Rattle.script_grammar.specs.Tree.{Tree, ADef}
use Rattle.type_terms.specs.Agrees.{Agrees}
use Rattle.type_terms.specs.Ground.{Ground, Assignment}
use Rattle.type_terms.specs.Table.{Table, Solves}
use Rattle.type_terms.specs.Term.{Term}
use Rattle.typing_rules.specs.Scripts.{HasSome, Places, Targets, sight}
use Rattle.typing_rules.specs.Typing.{DefHas}
use Rattle.type_instances.specs.Schemes.{Scheme, IsInstance, IsSchemeOver}
use Rattle.general_types.specs.Holding.{HeldVariables, IsHeldBy, SameTypes}
use Rattle.type_steps.specs.Environment.{CallTakes, Env, IsTextOver, Known, TextTakes, TextUse, entries_under, function, settled_use, texts_under, value}

-- what an expression outside of defs sees: the meanings of names and what statements have bound
abbrev pub outside : Targets → List Known → Env
outside targets before = record { targets = targets; before = before; inner = [] }

-- the types of the values that statements have bound, the newest first
abbrev pub terms_before : List Known → List Term
terms_before [] = []
terms_before (value t u ∷ ks) = u ∷ terms_before ks
terms_before (function d us ∷ ks) = terms_before ks

-- h are exactly the variables that the types of the bound values (`before`) hold, so that a def's type may not be
-- generalised over them. The texts of the defs hold no others: where two solutions of s give the values the same types,
-- the texts have the same uses.
pub record HoldsBefore (s : Table) (before : List Known) (h : HeldVariables) : Type 0 where
  pub held : IsHeldBy s (terms_before before) h
  pub texts : (a b : Assignment) → Solves a s → Solves b s → SameTypes (terms_before before) a b
      → texts_under a before ≡ texts_under b before

-- The uses us in a def's text have their kinds at their places in `kinds`, once the variables have their values by the
-- assignment a. `opens` has the kinds that a call gives for those over which the def's type is general; `before` are
-- the bindings known before it.
abbrev pub IsTextTaken : Assignment → Places → List Known → List Kind → List TextUse → Type 0
IsTextTaken a kinds before opens us = TextTakes (CallTakes (texts_under a before) kinds) kinds [] opens
    (map (settled_use a) us)

-- At each solution of the substitution s the typings of the def d are the instances of its general type g, with kinds
-- at the places as the uses us in its text say. `before` are the bindings known before it, and `targets` says what
-- names mean.
pub record IsTypingOf (s : Table) (targets : Targets) (before : List Known) (d : Tree ADef) (g : Scheme)
    (us : List TextUse) : Type 0 where
  pub over : IsSchemeOver s g
  pub text_over : IsTextOver s us
  pub sound : (a : Assignment) → Solves a s → (kinds : Places) (ts : List Ground) (r : Ground) (opens : List Kind)
      → IsInstance g a ts r opens → IsTextTaken a kinds before opens us →
      DefHas (sight targets kinds (entries_under a before) []) d ts r
  pub complete : (a : Assignment) → Solves a s → (kinds : Places) (ts : List Ground) (r : Ground)
      → DefHas (sight targets kinds (entries_under a before) []) d ts r →
      (opens : List Kind) × IsInstance g a ts r opens × IsTextTaken a kinds before opens us

-- From the substitution s to s' no typing of the def d is lost: each solution of s at which it has one agrees with a
-- solution of s' on the variables of s. `before` are the bindings known before it, and `targets` says what names mean.
abbrev pub KeepsTypings : Table → Table → Targets → List Known → Tree ADef → Type 0
KeepsTypings s s' targets before d = (a : Assignment) → Solves a s → HasSome targets (entries_under a before) d
    → (b : Assignment) × Solves b s' × Agrees s a b

-- the def d has no typing at any solution of the substitution s, given the names' meanings and the bindings before it
abbrev pub HasNoTyping : Table → Targets → List Known → Tree ADef → Type 0
HasNoTyping s targets before d = (a : Assignment) → Solves a s → HasSome targets (entries_under a before) d → ⊥
