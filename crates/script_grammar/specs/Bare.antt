-- A tree without its places: each number at is 0. Two trees are equal but for their fields at where their bare trees
-- are equal.
use Rattle.script_grammar.specs.Tree.{Sort, Tree, none, more, Stmt, BindPart, DefPart, CallPart, IfPart, Bind, Def, Inner, Param, Labelled, Optional, Negative, Plain, Expr, And, Not, Alone, Compared, Sum, Added, Product, Multiplied, Constant, Quoted, Truth, Named, Called, Chosen, Nothing, Paren, Tuple, Listed, Braces, PlaceFormat, NamedCall, Arg, If, POr, PAnd, PNot, TrueAtom, FalseAtom, Mark, IntervalAtom, Grouped}

-- a tree without its places: with 0 for each field `at`, which is the index of a token
abbrev pub bare : {s : Sort} → Tree s → Tree s
bare none = none
bare (more x xs) = more (bare x) (bare xs)
bare (Stmt part semicolon) = Stmt (bare part) semicolon
bare (BindPart b) = BindPart (bare b)
bare (DefPart d) = DefPart (bare d)
bare (CallPart c) = CallPart (bare c)
bare (IfPart i) = IfPart (bare i)
bare (Bind at name value) = Bind 0 name (bare value)
bare (Def at name params equals inner result) = Def 0 name (bare params) equals (bare inner) (bare result)
bare (Inner bind semicolon) = Inner (bare bind) semicolon
bare (Param at name) = Param 0 name
bare (Labelled at name) = Labelled 0 name
bare (Optional at name value) = Optional 0 name (bare value)
bare (Negative at number) = Negative 0 number
bare (Plain e) = Plain (bare e)
bare (Expr first rest) = Expr (bare first) (bare rest)
bare (And first rest) = And (bare first) (bare rest)
bare (Not negated inner) = Not negated (bare inner)
bare (Alone left) = Alone (bare left)
bare (Compared left at op right) = Compared (bare left) 0 op (bare right)
bare (Sum first rest) = Sum (bare first) (bare rest)
bare (Added at minus product) = Added 0 minus (bare product)
bare (Product first rest) = Product (bare first) (bare rest)
bare (Multiplied at divide operand) = Multiplied 0 divide (bare operand)
bare (Constant at value) = Constant 0 value
bare (Quoted at text) = Quoted 0 text
bare (Truth at value) = Truth 0 value
bare (Named at name) = Named 0 name
bare (Called c) = Called (bare c)
bare (Chosen i) = Chosen (bare i)
bare (Nothing at) = Nothing 0
bare (Paren f) = Paren (bare f)
bare (Tuple at f g rest) = Tuple 0 (bare f) (bare g) (bare rest)
bare (Listed at parts) = Listed 0 (bare parts)
bare (Braces at pred) = Braces 0 (bare pred)
bare (PlaceFormat at size) = PlaceFormat 0 size
bare (NamedCall at name args) = NamedCall 0 name (bare args)
bare (Arg at label value) = Arg 0 label (bare value)
bare (If at c t e) = If 0 (bare c) (bare t) (bare e)
bare (POr first rest) = POr (bare first) (bare rest)
bare (PAnd first rest) = PAnd (bare first) (bare rest)
bare (PNot negated atom) = PNot negated (bare atom)
bare TrueAtom = TrueAtom
bare FalseAtom = FalseAtom
bare (Mark a) = Mark a
bare (IntervalAtom a b) = IntervalAtom a b
bare (Grouped p) = Grouped (bare p)
