-- Which statements are settings: a call of the builtin `set` that holds no other call.
use Rattle.std.specs.Prelude.{List, Option, Some, None, Bool, true, false, not, ◌||◌, ◌&&◌}
use Rattle.script_grammar.specs.Tree.{Sort, Tree, APart, none, more, BindPart, DefPart, CallPart, IfPart, Plain, Expr, And, Not, Alone, Compared, Sum, Added, Product, Multiplied, Called, Chosen, Paren, Tuple, Listed, NamedCall, Arg, If}
use Rattle.typing_rules.specs.declared.uses.Use.{Use}
use Rattle.typing_rules.specs.declared.uses.Builtin.{Builtin}
use Rattle.typing_rules.specs.declared.uses.Builtin.TheVariants as builtin
use Rattle.typing_rules.specs.declared.uses.Target.{Target}
use Rattle.typing_rules.specs.declared.uses.Target.TheVariants as target
use Rattle.typing_rules.specs.Kinds.{target_said}
use Rattle.typing_rules.specs.Uses.{use_at}

-- whether a tree has a call in it, whether or not evaluation comes to it
abbrev pub holds_call : {s : Sort} → Tree s → Bool
holds_call none = false
holds_call (more t ts) = holds_call t || holds_call ts
holds_call (Plain e) = holds_call e
holds_call (Expr first rest) = holds_call first || holds_call rest
holds_call (And first rest) = holds_call first || holds_call rest
holds_call (Not negated inner) = holds_call inner
holds_call (Alone left) = holds_call left
holds_call (Compared left at o right) = holds_call left || holds_call right
holds_call (Sum first rest) = holds_call first || holds_call rest
holds_call (Added at minus p) = holds_call p
holds_call (Product first rest) = holds_call first || holds_call rest
holds_call (Multiplied at divide p) = holds_call p
holds_call (Called c) = true
holds_call (Chosen i) = holds_call i
holds_call (If at c t e) = holds_call c || (holds_call t || holds_call e)
holds_call (Paren f) = holds_call f
holds_call (Tuple at f g rest) = holds_call f || (holds_call g || holds_call rest)
holds_call (Listed at parts) = holds_call parts
holds_call (Arg at label f) = holds_call f
-- numbers, texts, names, predicates, formats
holds_call t = false

-- whether a builtin is `set`, by whose calls a script makes its settings
abbrev pub is_set : Builtin → Bool
is_set builtin.Set = true
is_set b = false

-- whether a name, by what it stands for, means the builtin `set`
abbrev pub means_set : Option Target → Bool
means_set (Some (target.Builtin b)) = is_set b
means_set (Some (target.Def t)) = false
means_set (Some (target.Slot t)) = false
means_set None = false

-- whether a statement is a setting: a call of the builtin `set` in whose arguments nothing is called
abbrev pub is_setting : List Use → Tree APart → Bool
is_setting uses (CallPart (NamedCall at name args)) = means_set (target_said (use_at at uses)) && not (holds_call args)
is_setting uses (BindPart b) = false
is_setting uses (DefPart d) = false
is_setting uses (IfPart i) = false
