-- The calls of a statement, by its tokens.
use Rattle.std.specs.Prelude.{◌≡◌, ℕ, ◌-◌, Bool, true, false, List, [], ◌∷◌, ◌++◌, length, take, drop, Option, Some, None, slice_get}
use Rattle.script_lex.specs.declared.token.Symbol.{Symbol}
use Rattle.script_lex.specs.declared.token.Symbol.TheVariants.{OpenRound, OpenSquare, OpenCurly, CloseRound, CloseSquare, CloseCurly}
use Rattle.script_lex.specs.declared.token.Token.{Token}
use Rattle.script_lex.specs.declared.token.TokenKind.{TokenKind}
use Rattle.script_lex.specs.declared.token.TokenKind.TheVariants as kind
use Rattle.where_lines.specs.Clashes.{Clashes}
use Rattle.where_lines.specs.declared.calls.Bracket.{Bracket}
use Rattle.where_lines.specs.declared.calls.Bracket.TheVariants as bracket
use Rattle.where_lines.specs.declared.calls.Role.{Role}
use Rattle.where_lines.specs.declared.calls.Role.TheVariants.{OpensCall, Opens, Closes, Neither}

-- the bytes of a text from byte `from` on, up to and without byte `to`
abbrev pub part : List ℕ → ℕ → ℕ → List ℕ
part text from to = take (to - from) (drop from text)

-- whether a symbol opens or closes a bracket
abbrev pub symbol_role : Symbol → Role
symbol_role OpenRound = Opens
symbol_role OpenSquare = Opens
symbol_role OpenCurly = Opens
symbol_role CloseRound = Closes
symbol_role CloseSquare = Closes
symbol_role CloseCurly = Closes
symbol_role s = Neither

-- what a token does to the brackets that stand open: it opens that of a call, opens another, closes one, or neither
abbrev pub role_of : TokenKind → Role
role_of (kind.NameOpen name) = OpensCall
role_of (kind.Symbol s) = symbol_role s
role_of k = Neither

-- What is known once some tokens of a statement were read. `texts` are the calls whose bracket is closed, each whole,
-- none within another, and a line for each. `brackets` are those that still stand open, the newest last.
pub record Closed : Type 0 where
  pub texts : List ℕ
  pub brackets : List Bracket

-- the bracket that was opened last, if one stands open
abbrev pub newest : List Bracket → Option Bracket
newest brackets = slice_get brackets (length brackets - 1)

-- The texts of closed calls, a line for each, once a bracket is closed just before byte `end` of the script `text`. If
-- it opened a call, the call's own text takes the place of those of its arguments. These stand behind the first
-- `others` bytes of `texts`.
abbrev pub with_closed : List ℕ → (end : ℕ) → List ℕ → Option Bracket → List ℕ
with_closed text end texts (Some (bracket.Call start others)) = take others texts ++ part text start end ++ (10 ∷ [])
with_closed text end texts (Some bracket.Other) = texts
with_closed text end texts None = texts

-- The texts of the calls that are closed, after one token more, which has this role for brackets. `texts` and
-- `brackets` are the closed calls and the open brackets before it, and `text` is the script.
abbrev pub texts_behind : List ℕ → Token → Role → List ℕ → List Bracket → List ℕ
texts_behind text token OpensCall texts brackets = texts
texts_behind text token Opens texts brackets = texts
texts_behind text token Closes texts brackets = with_closed text token.end texts (newest brackets)
texts_behind text token Neither texts brackets = texts

-- The brackets that stand open, the newest last, after one token more, which has this role. Of a call it is kept where
-- the call begins, and how many bytes of `texts`, the calls closed so far, stand before those of its arguments.
abbrev pub brackets_behind : Token → Role → List ℕ → List Bracket → List Bracket
brackets_behind token OpensCall texts brackets = brackets ++ bracket.Call token.start (length texts) ∷ []
brackets_behind token Opens texts brackets = brackets ++ bracket.Other ∷ []
brackets_behind token Closes texts brackets = take (length brackets - 1) brackets
brackets_behind token Neither texts brackets = brackets

-- what is known of a statement's calls after one token more: the closed calls and the open brackets, from those before
-- it; `text` is the script
abbrev pub behind : List ℕ → Closed → Token → Closed
behind text s token = record {
  texts = texts_behind text token (role_of token.kind) s.texts s.brackets;
  brackets = brackets_behind token (role_of token.kind) s.texts s.brackets;
}

-- the closed calls and the open brackets of a statement after these tokens more, from those known before; `text` is the
-- script
unfoldable pub calls_from : List ℕ → Closed → List Token → Closed
calls_from text s [] = s
calls_from text s (token ∷ tokens) = calls_from text (behind text s token) tokens

-- the calls that are closed among some tokens of the script `text`, and the brackets that still stand open behind them
abbrev pub calls_of : List ℕ → List Token → Closed
calls_of text tokens = calls_from text (record { texts = []; brackets = [] }) tokens

-- The call that begins at byte `at` is the one with which the types of a statement clash. `front` is the script before
-- the statement. With it and the calls closed before this one nothing clashes; it does once this call takes the place
-- of its arguments.
pub record IsCaller (text front : List ℕ) (tokens : List Token) (at : ℕ) : Type 0 where
  -- the call's last token
  pub number : ℕ
  pub last : Token
  pub last_is : slice_get tokens number ≡ Some last
  pub others : ℕ
  pub is_open : newest (calls_of text (take number tokens)).brackets ≡ Some (bracket.Call at others)
  pub before : Clashes (front ++ (calls_of text (take number tokens)).texts) false
  pub with_it : Clashes (front ++ (take others (calls_of text (take number tokens)).texts ++ part text at last.end)) true
