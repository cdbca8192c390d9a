-- The keywords and the symbols.
use Rattle.std.specs.Prelude.{ℕ, List, codes, ◌==◌, Option, Some, None, if◌then◌else◌}
use Rattle.std.specs.Str.{bytes_eq}
use Rattle.script_lex.specs.declared.token.Keyword.{Keyword}
use Rattle.script_lex.specs.declared.token.Keyword.TheVariants.{Def, End, If, Then, Else, True, False, And, Or, Not}
use Rattle.script_lex.specs.declared.token.Symbol.{Symbol}
use Rattle.script_lex.specs.declared.token.Symbol.TheVariants as symbols

-- the keyword that a word is, if it is one
unfoldable pub keyword_of : List ℕ → Option Keyword
keyword_of word =
    if bytes_eq word (codes "def") then Some Def
    else (if bytes_eq word (codes "end") then Some End
    else (if bytes_eq word (codes "if") then Some If
    else (if bytes_eq word (codes "then") then Some Then
    else (if bytes_eq word (codes "else") then Some Else
    else (if bytes_eq word (codes "true") then Some True
    else (if bytes_eq word (codes "false") then Some False
    else (if bytes_eq word (codes "and") then Some And
    else (if bytes_eq word (codes "or") then Some Or
    else (if bytes_eq word (codes "not") then Some Not
    else None)))))))))

-- how an operator, a bracket or a separator is written
abbrev pub symbol_text : Symbol → List ℕ
symbol_text symbols.Assign = codes "="
symbol_text symbols.Equal = codes "=="
symbol_text symbols.Differs = codes "!="
symbol_text symbols.Less = codes "<"
symbol_text symbols.AtMost = codes "<="
symbol_text symbols.Greater = codes ">"
symbol_text symbols.AtLeast = codes ">="
symbol_text symbols.Plus = codes "+"
symbol_text symbols.Minus = codes "-"
symbol_text symbols.Star = codes "*"
symbol_text symbols.Slash = codes "/"
symbol_text symbols.OpenRound = codes "("
symbol_text symbols.CloseRound = codes ")"
symbol_text symbols.OpenSquare = codes "["
symbol_text symbols.CloseSquare = codes "]"
symbol_text symbols.OpenCurly = codes "{"
symbol_text symbols.CloseCurly = codes "}"
symbol_text symbols.Comma = codes ","
symbol_text symbols.Semicolon = codes ";"
symbol_text symbols.Tilde = codes "~"

-- the symbol of one byte
unfoldable pub symbol_of : ℕ → Option Symbol
symbol_of b =
    if b == 61 then Some symbols.Assign
    else (if b == 60 then Some symbols.Less
    else (if b == 62 then Some symbols.Greater
    else (if b == 43 then Some symbols.Plus
    else (if b == 45 then Some symbols.Minus
    else (if b == 42 then Some symbols.Star
    else (if b == 47 then Some symbols.Slash
    else (if b == 40 then Some symbols.OpenRound
    else (if b == 41 then Some symbols.CloseRound
    else (if b == 91 then Some symbols.OpenSquare
    else (if b == 93 then Some symbols.CloseSquare
    else (if b == 123 then Some symbols.OpenCurly
    else (if b == 125 then Some symbols.CloseCurly
    else (if b == 44 then Some symbols.Comma
    else (if b == 59 then Some symbols.Semicolon
    else (if b == 126 then Some symbols.Tilde
    else None)))))))))))))))

-- the symbol of a byte and `=`
unfoldable pub symbol_with_equals : ℕ → Option Symbol
symbol_with_equals b =
    if b == 61 then Some symbols.Equal
    else (if b == 33 then Some symbols.Differs
    else (if b == 60 then Some symbols.AtMost
    else (if b == 62 then Some symbols.AtLeast
    else None)))
