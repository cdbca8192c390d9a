-- When each number at in a tree is the index of its token, where the index of the tree's first token is i.
use Rattle.std.specs.Prelude.{◌≡◌, ℕ, ◌+◌, length}
use Rattle.script_lex.specs.declared.token.TokenKind.TheVariants.{Keyword, Symbol}
use Rattle.script_lex.specs.declared.token.Keyword.TheVariants as word
use Rattle.script_lex.specs.declared.token.Symbol.TheVariants as sign
use Rattle.script_grammar.specs.Tree.{Sort, Tree, Many, none, more, Stmt, BindPart, DefPart, CallPart, IfPart, Bind, Def, Inner, Param, Labelled, Optional, Negative, Plain, Expr, And, Not, Alone, Compared, Sum, Added, Product, Multiplied, Constant, Quoted, Truth, Named, Called, Chosen, Nothing, Paren, Tuple, Listed, Braces, PlaceFormat, NamedCall, Arg, If, POr, PAnd, PNot, TrueAtom, FalseAtom, Mark, IntervalAtom, Grouped}
use Rattle.script_grammar.specs.Spelling.{spell, with_commas, token_if, label}

-- Each field `at` of a tree is the index of the right token, if the tree's first token has index i. So for a list
-- whose trees follow each other; for one with a token before each tree (IsBehind); and with commas between (IsApart).
abbrev mutual
  pub IsPlaced : {s : Sort} → ℕ → Tree s → Type 0
  IsPlaced i none = Unit {0}
  IsPlaced i (more x xs) = IsPlaced i x × IsPlaced (i + length (spell x)) xs
  IsPlaced i (Stmt part semicolon) = IsPlaced i part
  IsPlaced i (BindPart b) = IsPlaced i b
  IsPlaced i (DefPart d) = IsPlaced i d
  IsPlaced i (CallPart c) = IsPlaced i c
  IsPlaced i (IfPart c) = IsPlaced i c
  -- Name "=" value
  IsPlaced i (Bind at name value) = (at ≡ i) × IsPlaced (i + 2) value
  -- "def" NameOpen params ")" "="? inner result "end"
  IsPlaced i (Def at name params equals inner result) =
      (at ≡ i + 1) × IsApart (i + 2) params
      × IsPlaced (i + 3 + length (with_commas params) + length (token_if (Symbol sign.Assign) equals)) inner
      × IsPlaced (i + 3 + length (with_commas params) + length (token_if (Symbol sign.Assign) equals) + length
      (spell inner)) result
  IsPlaced i (Inner bind semicolon) = IsPlaced i bind
  IsPlaced i (Param at name) = at ≡ i
  IsPlaced i (Labelled at name) = at ≡ i + 1
  IsPlaced i (Optional at name value) = (at ≡ i + 1) × IsPlaced (i + 3) value
  IsPlaced i (Negative at number) = at ≡ i
  IsPlaced i (Plain e) = IsPlaced i e
  IsPlaced i (Expr first rest) = IsPlaced i first × IsBehind (i + length (spell first)) rest
  IsPlaced i (And first rest) = IsPlaced i first × IsBehind (i + length (spell first)) rest
  IsPlaced i (Not negated inner) = IsPlaced (i + length (token_if (Keyword word.Not) negated)) inner
  IsPlaced i (Alone left) = IsPlaced i left
  IsPlaced i (Compared left at o right) = IsPlaced i left × (at ≡ i + length (spell left))
      × IsPlaced (i + length (spell left) + 1) right
  IsPlaced i (Sum first rest) = IsPlaced i first × IsPlaced (i + length (spell first)) rest
  IsPlaced i (Added at minus product) = (at ≡ i) × IsPlaced (i + 1) product
  IsPlaced i (Product first rest) = IsPlaced i first × IsPlaced (i + length (spell first)) rest
  IsPlaced i (Multiplied at divide operand) = (at ≡ i) × IsPlaced (i + 1) operand
  IsPlaced i (Constant at value) = at ≡ i
  IsPlaced i (Quoted at text) = at ≡ i
  IsPlaced i (Truth at value) = at ≡ i
  IsPlaced i (Named at name) = at ≡ i
  IsPlaced i (Called c) = IsPlaced i c
  IsPlaced i (Chosen c) = IsPlaced i c
  IsPlaced i (Nothing at) = at ≡ i
  IsPlaced i (Paren f) = IsPlaced (i + 1) f
  IsPlaced i (Tuple at f g rest) = (at ≡ i) × IsPlaced (i + 1) f × IsPlaced (i + 1 + length (spell f) + 1) g
      × IsBehind (i + 1 + length (spell f) + 1 + length (spell g)) rest
  IsPlaced i (Listed at parts) = (at ≡ i) × IsApart (i + 1) parts
  IsPlaced i (Braces at pred) = at ≡ i
  IsPlaced i (PlaceFormat at size) = at ≡ i
  IsPlaced i (NamedCall at name args) = (at ≡ i) × IsApart (i + 1) args
  IsPlaced i (Arg at name value) = (at ≡ i) × IsPlaced (i + length (label name)) value
  -- "if" condition "then" value "else" value "end"
  IsPlaced i (If at c t e) = (at ≡ i) × IsPlaced (i + 1) c × IsPlaced (i + 2 + length (spell c)) t
      × IsPlaced (i + 3 + length (spell c) + length (spell t)) e
  -- a predicate has no such number
  IsPlaced i (POr first rest) = Unit {0}
  IsPlaced i (PAnd first rest) = Unit {0}
  IsPlaced i (PNot negated atom) = Unit {0}
  IsPlaced i TrueAtom = Unit {0}
  IsPlaced i FalseAtom = Unit {0}
  IsPlaced i (Mark a) = Unit {0}
  IsPlaced i (IntervalAtom a b) = Unit {0}
  IsPlaced i (Grouped p) = Unit {0}

  pub IsBehind : {s : Sort} → ℕ → Tree (Many s) → Type 0
  IsBehind i none = Unit {0}
  IsBehind i (more x xs) = IsPlaced (i + 1) x × IsBehind (i + 1 + length (spell x)) xs

  pub IsApart : {s : Sort} → ℕ → Tree (Many s) → Type 0
  IsApart i none = Unit {0}
  IsApart i (more x xs) = IsPlaced i x × IsBehind (i + length (spell x)) xs
