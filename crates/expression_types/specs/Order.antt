-- The uses in the text of a value, in the order of the tokens.
use Rattle.std.specs.Prelude.{◌≡◌, ℕ, List, [], ◌∷◌, ◌++◌, map, length, Bool, true, false, Option, Some, None, option_map, ⊤}
use Rattle.script_grammar.specs.Tree.{Sort, Tree, none, more, Stmt, BindPart, DefPart, CallPart, IfPart, Bind, Def, Inner, Optional, Plain, Expr, And, Not, Alone, Compared, Sum, Added, Product, Multiplied, Named, Called, Chosen, Paren, Tuple, Listed, NamedCall, Arg, If}
use Rattle.typing_rules.specs.declared.uses.Target.{Target}
use Rattle.typing_rules.specs.declared.uses.Target.TheVariants as target
use Rattle.typing_rules.specs.Table.{signature}
use Rattle.type_instances.specs.Schemes.{open_numbers, scheme_of}
use Rattle.type_steps.specs.Environment.{Found}
use Rattle.expression_types.specs.Seen.{def_seen, env_of}
use Rattle.expression_types.specs.declared.environment.KnownDef.{KnownDef}
use Rattle.expression_types.specs.declared.environment.Names.{Names}

-- the tokens of all names that the text of a tree uses, in the order of the text; a name that is bound there isn't
-- used
abbrev pub tokens_used : {s : Sort} → Tree s → List ℕ
tokens_used none = []
tokens_used (more x xs) = tokens_used x ++ tokens_used xs
tokens_used (Stmt part semicolon) = tokens_used part
tokens_used (BindPart b) = tokens_used b
tokens_used (DefPart d) = tokens_used d
tokens_used (CallPart c) = tokens_used c
tokens_used (IfPart i) = tokens_used i
tokens_used (Bind at name f) = tokens_used f
tokens_used (Def at name ps equals is e) = tokens_used ps ++ tokens_used is ++ tokens_used e
tokens_used (Inner b semicolon) = tokens_used b
tokens_used (Optional at name d) = tokens_used d
tokens_used (Plain e) = tokens_used e
tokens_used (Expr first rest) = tokens_used first ++ tokens_used rest
tokens_used (And first rest) = tokens_used first ++ tokens_used rest
tokens_used (Not negated inner) = tokens_used inner
tokens_used (Alone left) = tokens_used left
tokens_used (Compared left at o right) = tokens_used left ++ tokens_used right
tokens_used (Sum first rest) = tokens_used first ++ tokens_used rest
tokens_used (Added at minus p) = tokens_used p
tokens_used (Product first rest) = tokens_used first ++ tokens_used rest
tokens_used (Multiplied at divide p) = tokens_used p
tokens_used (Named at name) = at ∷ []
tokens_used (Called c) = tokens_used c
tokens_used (Chosen i) = tokens_used i
tokens_used (Paren f) = tokens_used f
tokens_used (Tuple at f g rest) = tokens_used f ++ tokens_used g ++ tokens_used rest
tokens_used (Listed at parts) = tokens_used parts
tokens_used (NamedCall at name args) = at ∷ tokens_used args
tokens_used (Arg at label f) = tokens_used f
tokens_used (If at c t e) = tokens_used c ++ tokens_used t ++ tokens_used e
tokens_used t = []

-- what inference says of a use of a name: its token, what the name means, and how many open kinds that has
abbrev pub Said : Type 0
Said = ℕ × Option Target × Option ℕ

-- a use that was found: its token, what it means, and how many kinds it has
abbrev pub said_of : Found → Said
said_of f = (f.at, Some f.target, Some (length f.kinds))

-- how many kinds a def leaves open: the kind variables over which its type is generalised, so that each call chooses
-- them anew
abbrev pub open_kinds : KnownDef → ℕ
open_kinds d = length (open_numbers 0 (scheme_of d.general).kinds)

-- how many open kinds a target has: a parameter or a value none, a def those of its general type, and a builtin those
-- of its row
abbrev pub kinds_count : List KnownDef → Option Target → Option ℕ
kinds_count ds None = None
kinds_count ds (Some (target.Slot t)) = Some 0
kinds_count ds (Some (target.Def t)) = option_map open_kinds (def_seen t ds)
kinds_count ds (Some (target.Builtin b)) = Some (signature b).kinds

-- what is to be said of the use of a name at token t, by the names that an expression sees: what it means, and how
-- many open kinds that has
abbrev pub said_at : Names → ℕ → Said
said_at ns t = (t, (env_of ns).targets t, kinds_count ns.defs.now ((env_of ns).targets t))

-- the list of uses grew by those of the names at these tokens, in this order, each with what its name means and as
-- many kinds as that has
abbrev pub AreAdded : Names → List ℕ → List Found → List Found → Type 0
AreAdded ns ts old new = map said_of new ≡ map said_of old ++ map (said_at ns) ts

-- where typing has an answer, the list of uses grew by those of the names at these tokens; nothing is said without
-- one
abbrev pub AreAddedIf : {A : Type 0} → Names → List ℕ → List Found → List Found → Option A → Type 0
AreAddedIf ns ts old new None = ⊤
AreAddedIf ns ts old new (Some n) = AreAdded ns ts old new

-- where typing answers true, the list of uses grew by those of the names at these tokens; nothing is said where it
-- answers false
abbrev pub AreAddedWhere : Names → List ℕ → List Found → List Found → Bool → Type 0
AreAddedWhere ns ts old new false = ⊤
AreAddedWhere ns ts old new true = AreAdded ns ts old new
