-- Which tokens the parser asks for, in the words of the grammar.
use Rattle.std.specs.Prelude.{Bool, true, false}
use Rattle.script_lex.specs.declared.token.TokenKind.{TokenKind}
use Rattle.script_lex.specs.declared.token.TokenKind.TheVariants.{Name, NameOpen, Keyword}
use Rattle.script_lex.specs.declared.token.Keyword.TheVariants as word
use Rattle.parse_base.specs.declared.token.Class.{Class}
use Rattle.parse_base.specs.declared.token.Class.TheVariants as class
use Rattle.script_grammar.specs.Kinds.{is_added, is_and, is_any, is_assign, is_close_curly, is_close_round, is_close_square, is_comma, is_else, is_end, is_multiplied, is_not, is_open_round, is_or, is_semicolon, is_then}

-- whether a token is a name
abbrev pub is_name : TokenKind → Bool
is_name (Name n) = true
is_name k = false

-- whether a token is a name with "(" behind it
abbrev pub is_open_name : TokenKind → Bool
is_open_name (NameOpen n) = true
is_open_name k = false

-- whether a token is the keyword `def`
abbrev pub is_def : TokenKind → Bool
is_def (Keyword word.Def) = true
is_def k = false

-- whether a token is the keyword `if`
abbrev pub is_if : TokenKind → Bool
is_if (Keyword word.If) = true
is_if k = false

-- whether a token is in this class, that is, one for which the parser asks
abbrev pub is_in : Class → TokenKind → Bool
is_in class.Any = is_any
is_in class.Name = is_name
is_in class.OpenName = is_open_name
is_in class.Assign = is_assign
is_in class.Comma = is_comma
is_in class.Semicolon = is_semicolon
is_in class.OpenRound = is_open_round
is_in class.CloseRound = is_close_round
is_in class.CloseSquare = is_close_square
is_in class.CloseCurly = is_close_curly
is_in class.Added = is_added
is_in class.Multiplied = is_multiplied
is_in class.Def = is_def
is_in class.End = is_end
is_in class.If = is_if
is_in class.Then = is_then
is_in class.Else = is_else
is_in class.Or = is_or
is_in class.And = is_and
is_in class.Not = is_not
