-- The tree that a program's tree stands for.
use Rattle.std.specs.Prelude.{ℕ, map, List, [], ◌∷◌, false}
use Rattle.script_grammar.specs.Tree.{Sort, Tree, AStmt, APart, ABind, ADef, AnInner, AParam, AFull, AnExpr, AnAnd, ANot, ACompare, ASum, AnAdded, AProduct, AMultiplied, AnOperand, ACall, AnArg, AnIf, APOr, APAnd, APNot, APAtom, Many, none, more, Stmt, BindPart, DefPart, CallPart, IfPart, Bind, Def, Inner, Param, Labelled, Optional, Negative, Plain, Expr, And, Not, Alone, Compared, Sum, Added, Product, Multiplied, Constant, Quoted, Truth, Named, Called, Chosen, Nothing, Paren, Tuple, Listed, Braces, PlaceFormat, NamedCall, Arg, If, POr, PAnd, PNot, TrueAtom, FalseAtom, Mark, IntervalAtom, Grouped, Script}
use Rattle.script_grammar.specs.declared.tree.Full.{Full}
use Rattle.script_grammar.specs.declared.tree.Full.TheVariants as full
use Rattle.script_grammar.specs.declared.tree.Expr as expr
use Rattle.script_grammar.specs.declared.tree.And as and_
use Rattle.script_grammar.specs.declared.tree.Not as not_
use Rattle.script_grammar.specs.declared.tree.Compare as compare
use Rattle.script_grammar.specs.declared.tree.Compared as compared
use Rattle.script_grammar.specs.declared.tree.Sum as sum
use Rattle.script_grammar.specs.declared.tree.Added as added
use Rattle.script_grammar.specs.declared.tree.Product as product
use Rattle.script_grammar.specs.declared.tree.Multiplied as multiplied
use Rattle.script_grammar.specs.declared.tree.Operand as operand
use Rattle.script_grammar.specs.declared.tree.Call as call
use Rattle.script_grammar.specs.declared.tree.Arg as arg
use Rattle.script_grammar.specs.declared.tree.If as if_
use Rattle.script_grammar.specs.declared.tree.Bind as bind
use Rattle.script_grammar.specs.declared.tree.Inner as inner
use Rattle.script_grammar.specs.declared.tree.ParamForm.{ParamForm}
use Rattle.script_grammar.specs.declared.tree.ParamForm.TheVariants as form
use Rattle.script_grammar.specs.declared.tree.Param as param
use Rattle.script_grammar.specs.declared.tree.Def as def
use Rattle.script_grammar.specs.declared.tree.StmtPart.{StmtPart}
use Rattle.script_grammar.specs.declared.tree.StmtPart.TheVariants as part
use Rattle.script_grammar.specs.declared.tree.Stmt as stmt
use Rattle.script_grammar.specs.declared.tree.Script as script
use Rattle.script_grammar.specs.declared.predicate.POr as por
use Rattle.script_grammar.specs.declared.predicate.PAnd as pand
use Rattle.script_grammar.specs.declared.predicate.PNot as pnot
use Rattle.script_grammar.specs.declared.predicate.PAtom as patom

-- a list of trees, as the one tree that the grammar has for a list
abbrev pub listed : {s : Sort} → List (Tree s) → Tree (Many s)
listed [] = none
listed (t ∷ ts) = more t (listed ts)

-- Parts joined by `and`. No part at all, which no tree of the grammar has, stands for `true`, which it means.
abbrev pub pand_of : Tree (Many APNot) → Tree APAnd
pand_of none = PAnd (PNot false TrueAtom) none
pand_of (more p rest) = PAnd p rest

-- Parts joined by `or`. No part at all, which no tree of the grammar has, stands for `false`, which it means.
abbrev pub por_of : Tree (Many APAnd) → Tree APOr
por_of none = POr (PAnd (PNot false FalseAtom) none) none
por_of (more p rest) = POr p rest

-- The tree of values in parentheses, of which the first token has index `at`. No value at all is the unit `()`, one
-- value is a value in parentheses, and two or more are a tuple.
abbrev pub tuple_of : ℕ → Tree (Many AFull) → Tree AnOperand
tuple_of at none = Nothing at
tuple_of at (more f none) = Paren f
tuple_of at (more f (more g rest)) = Tuple at f g rest

-- the tree of the grammar that a predicate of the program stands for, and those of its parts joined by `or` and by
-- `and`, and of its atoms
abbrev mutual
  pub view_por : por.POr → Tree APOr
  view_por (por.POr' shape parts) = por_of (view_pands parts)

  pub view_pands : {m : _} → por.Row_of-PAnd m → Tree (Many APAnd)
  view_pands por.end_of-PAnd = none
  view_pands (por.more_of-PAnd p rest) = more (view_pand p) (view_pands rest)

  pub view_pand : pand.PAnd → Tree APAnd
  view_pand (pand.PAnd' shape parts) = pand_of (view_pnots parts)

  pub view_pnots : {m : _} → pand.Row_of-PNot m → Tree (Many APNot)
  view_pnots pand.end_of-PNot = none
  view_pnots (pand.more_of-PNot negated atom rest) = more (PNot negated (view_patom atom)) (view_pnots rest)

  pub view_patom : patom.PAtom → Tree APAtom
  view_patom patom.True = TrueAtom
  view_patom patom.False = FalseAtom
  view_patom (patom.At t) = Mark t
  view_patom (patom.Between a b) = IntervalAtom a b
  view_patom (patom.Paren' p inside) = Grouped (view_por inside)

-- turns an atom of a predicate, behind `not` or not, in the form that the program holds, into its tree of the grammar
-- of scripts, of which the rules speak
abbrev pub view_pnot : pnot.PNot → Tree APNot
view_pnot n = PNot n.negated (view_patom n.atom)

-- the tree of the grammar that a value of the program stands for, and that of each level below it: parts joined by
-- `or` and `and`, comparisons, sums, products, operands, calls and arguments
abbrev mutual
  pub view_full : Full → Tree AFull
  view_full (full.Minus at n) = Negative at n
  view_full (full.Plain e) = Plain (view_expr e)

  pub view_expr : expr.Expr → Tree AnExpr
  view_expr (expr.Expr' first shape rest) = Expr (view_and first) (view_ands rest)

  pub view_ands : {m : _} → expr.Row_of-And m → Tree (Many AnAnd)
  view_ands expr.end_of-And = none
  view_ands (expr.more_of-And a rest) = more (view_and a) (view_ands rest)

  pub view_and : and_.And → Tree AnAnd
  view_and (and_.And' n shape rest) = And (view_not n) (view_nots rest)

  pub view_nots : {m : _} → and_.Row_of-Not m → Tree (Many ANot)
  view_nots and_.end_of-Not = none
  view_nots (and_.more_of-Not n rest) = more (view_not n) (view_nots rest)

  pub view_not : not_.Not → Tree ANot
  view_not (not_.Not' negated inner) = Not negated (view_compare inner)

  pub view_compare : compare.Compare → Tree ACompare
  view_compare (compare.Compare' left compare.None') = Alone (view_sum left)
  view_compare (compare.Compare' left (compare.Some' (compared.Compared' at o right))) = Compared (view_sum left) at o
      (view_sum right)

  pub view_sum : sum.Sum → Tree ASum
  view_sum (sum.Sum' first shape rest) = Sum (view_product first) (view_addends rest)

  pub view_addends : {m : _} → sum.Row_of-Added m → Tree (Many AnAdded)
  view_addends sum.end_of-Added = none
  view_addends (sum.more_of-Added a rest) = more (view_added a) (view_addends rest)

  pub view_added : added.Added → Tree AnAdded
  view_added (added.Added' at minus p) = Added at minus (view_product p)

  pub view_product : product.Product → Tree AProduct
  view_product (product.Product' first shape rest) = Product (view_operand first) (view_factors rest)

  pub view_factors : {m : _} → product.Row_of-Multiplied m → Tree (Many AMultiplied)
  view_factors product.end_of-Multiplied = none
  view_factors (product.more_of-Multiplied at divide p rest) = more (Multiplied at divide (view_operand p))
      (view_factors rest)

  pub view_operand : operand.Operand → Tree AnOperand
  view_operand (operand.Literal at value) = Constant at value
  view_operand (operand.Str at text) = Quoted at text
  view_operand (operand.Bool at value) = Truth at value
  view_operand (operand.Name at name) = Named at name
  view_operand (operand.Call c) = Called (view_call c)
  view_operand (operand.If' at p condition q then_part r else_part) = Chosen
      (If at (view_full condition) (view_full then_part) (view_full else_part))
  view_operand (operand.Unit at) = Nothing at
  view_operand (operand.Paren' p f) = Paren (view_full f)
  view_operand (operand.Tuple' at shape parts) = tuple_of at (view_fulls parts)
  view_operand (operand.List' at shape parts) = Listed at (view_fulls parts)
  view_operand (operand.Braces at pred) = Braces at (view_por pred)
  view_operand (operand.Wav at size) = PlaceFormat at size

  pub view_fulls : {m : _} → operand.Row_of-Full m → Tree (Many AFull)
  view_fulls operand.end_of-Full = none
  view_fulls (operand.more_of-Full f rest) = more (view_full f) (view_fulls rest)

  pub view_call : call.Call → Tree ACall
  view_call (call.Call' at name shape args) = NamedCall at name (view_args args)

  pub view_args : {m : _} → call.Row_of-Arg m → Tree (Many AnArg)
  view_args call.end_of-Arg = none
  view_args (call.more_of-Arg at name f rest) = more (Arg at name (view_full f)) (view_args rest)

-- turns an operand behind `*` or `/`, in the form that the program holds, into its tree of the grammar of scripts, of
-- which the rules speak
abbrev pub view_multiplied : multiplied.Multiplied → Tree AMultiplied
view_multiplied m = Multiplied m.at m.divide (view_operand m.operand)

-- turns an argument of a call, with its label or without, in the form that the program holds, into its tree of the
-- grammar of scripts, of which the rules speak
abbrev pub view_arg : arg.Arg → Tree AnArg
view_arg a = Arg a.at a.label (view_full a.value)

-- turns an `if` with its three values, in the form that the program holds, into its tree of the grammar of scripts, of
-- which the rules speak
abbrev pub view_if : if_.If → Tree AnIf
view_if i = If i.at (view_full i.condition.value) (view_full i.then_part.value) (view_full i.else_part.value)

-- turns a binding of a name to a value, in the form that the program holds, into its tree of the grammar of scripts, of
-- which the rules speak
abbrev pub view_bind : bind.Bind → Tree ABind
view_bind b = Bind b.at b.name (view_full b.value)

-- turns a binding in the body of a def, in the form that the program holds, into its tree of the grammar of scripts, of
-- which the rules speak
abbrev pub view_inner : inner.Inner → Tree AnInner
view_inner i = Inner (view_bind i.bind) i.semicolon

-- The tree of the grammar for a parameter of a def, which is plain, labelled or optional. `at` is the index of the
-- token of its name.
abbrev pub param_of : ℕ → List ℕ → ParamForm → Tree AParam
param_of at name form.Plain = Param at name
param_of at name form.Labelled = Labelled at name
param_of at name (form.Optional f) = Optional at name (view_full f)

-- turns a parameter of a def, in the form that the program holds, into its tree of the grammar of scripts, of which the
-- rules speak
abbrev pub view_param : param.Param → Tree AParam
view_param p = param_of p.at p.name p.form

-- turns a def, with its parameters, bindings and result, in the form that the program holds, into its tree of the
-- grammar of scripts, of which the rules speak
abbrev pub view_def : def.Def → Tree ADef
view_def d = Def d.at d.name (listed (map view_param d.params.items)) d.equals (listed (map view_inner d.inner.items))
    (view_expr d.result)

-- turns a statement without its `;`, in the form that the program holds, into its tree of the grammar of scripts, of
-- which the rules speak
abbrev pub view_part : StmtPart → Tree APart
view_part (part.Bind b) = BindPart (view_bind b)
view_part (part.Def d) = DefPart (view_def d)
view_part (part.Call c) = CallPart (view_call c)
view_part (part.If i) = IfPart (view_if i)

-- turns a statement of a script, in the form that the program holds, into its tree of the grammar of scripts, of which
-- the rules speak
abbrev pub view_stmt : stmt.Stmt → Tree AStmt
view_stmt s = Stmt (view_part s.part) s.semicolon

-- turns a script, its statements in order, in the form that the program holds, into its tree of the grammar of scripts,
-- of which the rules speak
abbrev pub view_script : script.Script → Script
view_script s = listed (map view_stmt s.statements.items)
