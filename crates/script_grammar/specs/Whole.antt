-- When a program's tree is one of the grammar: each list in it is as long as the grammar wants.
use Rattle.std.specs.List.{All}
use Rattle.script_grammar.specs.Tree.{Sort, Tree, Many, none, more}
use Rattle.script_grammar.specs.View.{view_pands, view_pnots, view_fulls}
use Rattle.script_grammar.specs.declared.tree.Full.{Full}
use Rattle.script_grammar.specs.declared.tree.Full.TheVariants as full
use Rattle.script_grammar.specs.declared.tree.Expr as expr
use Rattle.script_grammar.specs.declared.tree.And as and_
use Rattle.script_grammar.specs.declared.tree.Not as not_
use Rattle.script_grammar.specs.declared.tree.Compare as compare
use Rattle.script_grammar.specs.declared.tree.Compared as compared
use Rattle.script_grammar.specs.declared.tree.Sum as sum
use Rattle.script_grammar.specs.declared.tree.Added as added
use Rattle.script_grammar.specs.declared.tree.Product as product
use Rattle.script_grammar.specs.declared.tree.Multiplied as multiplied
use Rattle.script_grammar.specs.declared.tree.Operand as operand
use Rattle.script_grammar.specs.declared.tree.Call as call
use Rattle.script_grammar.specs.declared.tree.Arg as arg
use Rattle.script_grammar.specs.declared.tree.If as if_
use Rattle.script_grammar.specs.declared.tree.Bind as bind
use Rattle.script_grammar.specs.declared.tree.Inner as inner
use Rattle.script_grammar.specs.declared.tree.ParamForm.{ParamForm}
use Rattle.script_grammar.specs.declared.tree.ParamForm.TheVariants as form
use Rattle.script_grammar.specs.declared.tree.Param as param
use Rattle.script_grammar.specs.declared.tree.Def as def
use Rattle.script_grammar.specs.declared.tree.StmtPart.{StmtPart}
use Rattle.script_grammar.specs.declared.tree.StmtPart.TheVariants as part
use Rattle.script_grammar.specs.declared.tree.Stmt as stmt
use Rattle.script_grammar.specs.declared.tree.Script as script
use Rattle.script_grammar.specs.declared.predicate.POr as por
use Rattle.script_grammar.specs.declared.predicate.PAnd as pand
use Rattle.script_grammar.specs.declared.predicate.PNot as pnot
use Rattle.script_grammar.specs.declared.predicate.PAtom as patom

-- a list of trees has at least one part, as the grammar wants of a predicate's parts
abbrev pub HasPart : {s : Sort} → Tree (Many s) → Type 0
HasPart none = ⊥
HasPart (more x xs) = Unit {0}

-- a list of trees has at least two parts, as the grammar wants of a tuple
abbrev pub HasTwo : {s : Sort} → Tree (Many s) → Type 0
HasTwo none = ⊥
HasTwo (more x xs) = HasPart xs

-- each list of parts in a predicate, joined by `or` or by `and`, has at least one part, at all depths
abbrev mutual
  pub IsWholePOr : por.POr → Type 0
  IsWholePOr (por.POr' shape parts) = HasPart (view_pands parts) × AreWholePAnds parts

  pub AreWholePAnds : {m : _} → por.Row_of-PAnd m → Type 0
  AreWholePAnds por.end_of-PAnd = Unit {0}
  AreWholePAnds (por.more_of-PAnd p rest) = IsWholePAnd p × AreWholePAnds rest

  pub IsWholePAnd : pand.PAnd → Type 0
  IsWholePAnd (pand.PAnd' shape parts) = HasPart (view_pnots parts) × AreWholePNots parts

  pub AreWholePNots : {m : _} → pand.Row_of-PNot m → Type 0
  AreWholePNots pand.end_of-PNot = Unit {0}
  AreWholePNots (pand.more_of-PNot negated atom rest) = IsWholePAtom atom × AreWholePNots rest

  pub IsWholePAtom : patom.PAtom → Type 0
  IsWholePAtom (patom.Paren' p inside) = IsWholePOr inside
  IsWholePAtom atom = Unit {0}

-- each list of parts in a predicate's atom, behind `not` or not, has at least one part
abbrev pub IsWholePNot : pnot.PNot → Type 0
IsWholePNot n = IsWholePAtom n.atom

-- each list in a value is as long as the grammar wants, at all depths: a tuple has at least two parts, and each list
-- of a predicate's parts at least one
abbrev mutual
  pub IsWholeFull : Full → Type 0
  IsWholeFull (full.Minus at n) = Unit {0}
  IsWholeFull (full.Plain e) = IsWholeExpr e

  pub IsWholeExpr : expr.Expr → Type 0
  IsWholeExpr (expr.Expr' first shape rest) = IsWholeAnd first × AreWholeAnds rest

  pub AreWholeAnds : {m : _} → expr.Row_of-And m → Type 0
  AreWholeAnds expr.end_of-And = Unit {0}
  AreWholeAnds (expr.more_of-And a rest) = IsWholeAnd a × AreWholeAnds rest

  pub IsWholeAnd : and_.And → Type 0
  IsWholeAnd (and_.And' n shape rest) = IsWholeNot n × AreWholeNots rest

  pub AreWholeNots : {m : _} → and_.Row_of-Not m → Type 0
  AreWholeNots and_.end_of-Not = Unit {0}
  AreWholeNots (and_.more_of-Not n rest) = IsWholeNot n × AreWholeNots rest

  pub IsWholeNot : not_.Not → Type 0
  IsWholeNot (not_.Not' negated inner) = IsWholeCompare inner

  pub IsWholeCompare : compare.Compare → Type 0
  IsWholeCompare (compare.Compare' left compare.None') = IsWholeSum left
  IsWholeCompare (compare.Compare' left (compare.Some' (compared.Compared' at o right))) = IsWholeSum left
      × IsWholeSum right

  pub IsWholeSum : sum.Sum → Type 0
  IsWholeSum (sum.Sum' first shape rest) = IsWholeProduct first × AreWholeAddends rest

  pub AreWholeAddends : {m : _} → sum.Row_of-Added m → Type 0
  AreWholeAddends sum.end_of-Added = Unit {0}
  AreWholeAddends (sum.more_of-Added a rest) = IsWholeAdded a × AreWholeAddends rest

  pub IsWholeAdded : added.Added → Type 0
  IsWholeAdded (added.Added' at minus p) = IsWholeProduct p

  pub IsWholeProduct : product.Product → Type 0
  IsWholeProduct (product.Product' first shape rest) = IsWholeOperand first × AreWholeFactors rest

  pub AreWholeFactors : {m : _} → product.Row_of-Multiplied m → Type 0
  AreWholeFactors product.end_of-Multiplied = Unit {0}
  AreWholeFactors (product.more_of-Multiplied at divide p rest) = IsWholeOperand p × AreWholeFactors rest

  pub IsWholeOperand : operand.Operand → Type 0
  IsWholeOperand (operand.Call c) = IsWholeCall c
  IsWholeOperand (operand.If' at p condition q then_part r else_part) = IsWholeFull condition × IsWholeFull then_part
      × IsWholeFull else_part
  IsWholeOperand (operand.Paren' p f) = IsWholeFull f
  IsWholeOperand (operand.Tuple' at shape parts) = HasTwo (view_fulls parts) × AreWholeFulls parts
  IsWholeOperand (operand.List' at shape parts) = AreWholeFulls parts
  IsWholeOperand (operand.Braces at pred) = IsWholePOr pred
  IsWholeOperand p = Unit {0}

  pub AreWholeFulls : {m : _} → operand.Row_of-Full m → Type 0
  AreWholeFulls operand.end_of-Full = Unit {0}
  AreWholeFulls (operand.more_of-Full f rest) = IsWholeFull f × AreWholeFulls rest

  pub IsWholeCall : call.Call → Type 0
  IsWholeCall (call.Call' at name shape args) = AreWholeArgs args

  pub AreWholeArgs : {m : _} → call.Row_of-Arg m → Type 0
  AreWholeArgs call.end_of-Arg = Unit {0}
  AreWholeArgs (call.more_of-Arg at name f rest) = IsWholeFull f × AreWholeArgs rest

-- an operand behind `*` or `/` is one of the grammar: each list within it, at all depths, has as many parts as the
-- grammar wants
abbrev pub IsWholeMultiplied : multiplied.Multiplied → Type 0
IsWholeMultiplied m = IsWholeOperand m.operand

-- an argument of a call is one of the grammar: each list within it, at all depths, has as many parts as the grammar
-- wants
abbrev pub IsWholeArg : arg.Arg → Type 0
IsWholeArg a = IsWholeFull a.value

-- an `if` is one of the grammar: each list within it, at all depths, has as many parts as the grammar wants
abbrev pub IsWholeIf : if_.If → Type 0
IsWholeIf i = IsWholeFull i.condition.value × IsWholeFull i.then_part.value × IsWholeFull i.else_part.value

-- a binding is one of the grammar: each list within it, at all depths, has as many parts as the grammar wants
abbrev pub IsWholeBind : bind.Bind → Type 0
IsWholeBind b = IsWholeFull b.value

-- a binding in the body of a def is one of the grammar: each list within it, at all depths, has as many parts as the
-- grammar wants
abbrev pub IsWholeInner : inner.Inner → Type 0
IsWholeInner i = IsWholeBind i.bind

-- a parameter's default value, if it has one, is one of the grammar: each list within it, at all depths, has as many
-- parts as the grammar wants
abbrev pub IsWholeForm : ParamForm → Type 0
IsWholeForm form.Plain = Unit {0}
IsWholeForm form.Labelled = Unit {0}
IsWholeForm (form.Optional f) = IsWholeFull f

-- a parameter of a def is one of the grammar: each list within it, at all depths, has as many parts as the grammar
-- wants
abbrev pub IsWholeParam : param.Param → Type 0
IsWholeParam p = IsWholeForm p.form

-- a def is one of the grammar: each list within it, at all depths, has as many parts as the grammar wants
abbrev pub IsWholeDef : def.Def → Type 0
IsWholeDef d = All IsWholeParam d.params.items × All IsWholeInner d.inner.items × IsWholeExpr d.result

-- a statement without its `;` is one of the grammar: each list within it, at all depths, has as many parts as the
-- grammar wants
abbrev pub IsWholePart : StmtPart → Type 0
IsWholePart (part.Bind b) = IsWholeBind b
IsWholePart (part.Def d) = IsWholeDef d
IsWholePart (part.Call c) = IsWholeCall c
IsWholePart (part.If i) = IsWholeIf i

-- a statement is one of the grammar: each list within it, at all depths, has as many parts as the grammar wants
abbrev pub IsWholeStmt : stmt.Stmt → Type 0
IsWholeStmt s = IsWholePart s.part

-- a script whose lists are all as long as the grammar wants, so its tree is one of the grammar
abbrev pub IsWhole : script.Script → Type 0
IsWhole s = All IsWholeStmt s.statements.items
