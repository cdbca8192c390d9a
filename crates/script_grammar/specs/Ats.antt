-- The fields at of a tree, each before those of the trees below it, and these from left to right.
use Rattle.std.specs.Prelude.{ℕ, List, [], ◌∷◌, ◌++◌}
use Rattle.script_grammar.specs.Tree.{Sort, Tree, none, more, Stmt, BindPart, DefPart, CallPart, IfPart, Bind, Def, Inner, Param, Labelled, Optional, Negative, Plain, Expr, And, Not, Alone, Compared, Sum, Added, Product, Multiplied, Constant, Quoted, Truth, Named, Called, Chosen, Nothing, Paren, Tuple, Listed, Braces, PlaceFormat, NamedCall, Arg, If, POr, PAnd, PNot, TrueAtom, FalseAtom, Mark, IntervalAtom, Grouped}

-- the places that a tree tells: its fields `at`, which are indices of tokens; each stands before those of the trees
-- below it, and these from left to right
abbrev pub ats : {s : Sort} → Tree s → List ℕ
ats none = []
ats (more x xs) = ats x ++ ats xs
ats (Stmt part semicolon) = ats part
ats (BindPart b) = ats b
ats (DefPart d) = ats d
ats (CallPart c) = ats c
ats (IfPart c) = ats c
ats (Bind at name value) = at ∷ ats value
ats (Def at name params equals inner result) = at ∷ (ats params ++ (ats inner ++ ats result))
ats (Inner bind semicolon) = ats bind
ats (Param at name) = at ∷ []
ats (Labelled at name) = at ∷ []
ats (Optional at name value) = at ∷ ats value
ats (Negative at number) = at ∷ []
ats (Plain e) = ats e
ats (Expr first rest) = ats first ++ ats rest
ats (And first rest) = ats first ++ ats rest
ats (Not negated inner) = ats inner
ats (Alone left) = ats left
ats (Compared left at o right) = at ∷ (ats left ++ ats right)
ats (Sum first rest) = ats first ++ ats rest
ats (Added at minus product) = at ∷ ats product
ats (Product first rest) = ats first ++ ats rest
ats (Multiplied at divide operand) = at ∷ ats operand
ats (Constant at value) = at ∷ []
ats (Quoted at text) = at ∷ []
ats (Truth at value) = at ∷ []
ats (Named at name) = at ∷ []
ats (Called c) = ats c
ats (Chosen c) = ats c
ats (Nothing at) = at ∷ []
ats (Paren f) = ats f
ats (Tuple at f g rest) = at ∷ (ats f ++ (ats g ++ ats rest))
ats (Listed at parts) = at ∷ ats parts
ats (Braces at pred) = at ∷ []
ats (PlaceFormat at size) = at ∷ []
ats (NamedCall at name args) = at ∷ ats args
ats (Arg at name value) = at ∷ ats value
ats (If at c t e) = at ∷ (ats c ++ (ats t ++ ats e))
-- a predicate has no such field
ats (POr first rest) = []
ats (PAnd first rest) = []
ats (PNot negated atom) = []
ats TrueAtom = []
ats FalseAtom = []
ats (Mark a) = []
ats (IntervalAtom a b) = []
ats (Grouped p) = []
