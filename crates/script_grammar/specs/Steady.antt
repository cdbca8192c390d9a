-- The words of the law that a fault is steady.
use Rattle.std.specs.Prelude.{List, [], ◌∷◌, Option, Some, None}
use Rattle.script_lex.specs.declared.token.TokenKind.{TokenKind}

-- the next token of a list, if one is left
abbrev pub peek : List TokenKind → Option TokenKind
peek [] = None
peek (k ∷ w) = Some k
