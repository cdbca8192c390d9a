-- Kinds of tokens, by name.
use Rattle.std.specs.Prelude.{Bool, true, false, Option, Some, None}
use Rattle.script_lex.specs.declared.token.TokenKind.{TokenKind}
use Rattle.script_lex.specs.declared.token.TokenKind.TheVariants.{Keyword, Symbol}
use Rattle.script_lex.specs.declared.token.Keyword.TheVariants as word
use Rattle.script_lex.specs.declared.token.Symbol.TheVariants as sign
use Rattle.script_grammar.specs.declared.tree.CompareOp.{CompareOp}
use Rattle.script_grammar.specs.declared.tree.CompareOp.TheVariants as op

-- whether a token of a script is the keyword `end`
abbrev pub is_end : TokenKind → Bool
is_end (Keyword word.End) = true
is_end k = false

-- whether a token of a script is the keyword `then`
abbrev pub is_then : TokenKind → Bool
is_then (Keyword word.Then) = true
is_then k = false

-- whether a token of a script is the keyword `else`
abbrev pub is_else : TokenKind → Bool
is_else (Keyword word.Else) = true
is_else k = false

-- whether a token of a script is the keyword `or`
abbrev pub is_or : TokenKind → Bool
is_or (Keyword word.Or) = true
is_or k = false

-- whether a token of a script is the keyword `and`
abbrev pub is_and : TokenKind → Bool
is_and (Keyword word.And) = true
is_and k = false

-- whether a token of a script is the keyword `not`
abbrev pub is_not : TokenKind → Bool
is_not (Keyword word.Not) = true
is_not k = false

-- whether a token of a script is the symbol `=`, which binds
abbrev pub is_assign : TokenKind → Bool
is_assign (Symbol sign.Assign) = true
is_assign k = false

-- whether a token of a script is a comma
abbrev pub is_comma : TokenKind → Bool
is_comma (Symbol sign.Comma) = true
is_comma k = false

-- whether a token of a script is a semicolon
abbrev pub is_semicolon : TokenKind → Bool
is_semicolon (Symbol sign.Semicolon) = true
is_semicolon k = false

-- whether a token of a script is an opening parenthesis `(`
abbrev pub is_open_round : TokenKind → Bool
is_open_round (Symbol sign.OpenRound) = true
is_open_round k = false

-- whether a token of a script is a closing parenthesis `)`
abbrev pub is_close_round : TokenKind → Bool
is_close_round (Symbol sign.CloseRound) = true
is_close_round k = false

-- whether a token of a script is a closing square bracket `]`
abbrev pub is_close_square : TokenKind → Bool
is_close_square (Symbol sign.CloseSquare) = true
is_close_square k = false

-- whether a token of a script is a closing curly bracket `}`
abbrev pub is_close_curly : TokenKind → Bool
is_close_curly (Symbol sign.CloseCurly) = true
is_close_curly k = false

-- whether a token of a script is the symbol `-`
abbrev pub is_minus : TokenKind → Bool
is_minus (Symbol sign.Minus) = true
is_minus k = false

-- whether a token is an operator of a sum: `+` or `-`
abbrev pub is_added : TokenKind → Bool
is_added (Symbol sign.Plus) = true
is_added (Symbol sign.Minus) = true
is_added k = false

-- whether a token is an operator of a product: `*` or `/`
abbrev pub is_multiplied : TokenKind → Bool
is_multiplied (Symbol sign.Star) = true
is_multiplied (Symbol sign.Slash) = true
is_multiplied k = false

-- the test of tokens that each one passes: a script's statements go on as long as any token is left
abbrev pub is_any : TokenKind → Bool
is_any k = true

-- the comparing operator that a token is, if it is one
abbrev pub op_of : TokenKind → Option CompareOp
op_of (Symbol sign.Equal) = Some op.Equal
op_of (Symbol sign.Differs) = Some op.Differs
op_of (Symbol sign.Less) = Some op.Less
op_of (Symbol sign.AtMost) = Some op.AtMost
op_of (Symbol sign.Greater) = Some op.Greater
op_of (Symbol sign.AtLeast) = Some op.AtLeast
op_of k = None
