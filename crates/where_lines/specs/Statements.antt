-- A statement whose types clash, and the call in it.
use Rattle.std.specs.Prelude.{◌≡◌, ◌≢◌, ◌⊎◌, ℕ, ◌+◌, Bool, true, false, List, [], ◌∷◌, length, take, drop, Option, Some, None, if◌then◌else◌}
use Rattle.script_lex.specs.Tokens.{AreTokens}
use Rattle.script_lex.specs.declared.token.Keyword.{Keyword}
use Rattle.script_lex.specs.declared.token.Keyword.TheVariants.{Def}
use Rattle.script_lex.specs.declared.token.Token.{Token}
use Rattle.script_lex.specs.declared.token.TokenKind.{TokenKind}
use Rattle.script_lex.specs.declared.token.TokenKind.TheVariants as kind
use Rattle.script_grammar.specs.Tree.{Script}
use Rattle.script_grammar.specs.Spelling.{spelling}
use Rattle.script_grammar.specs.Placed.{IsPlaced}
use Rattle.parse_base.specs.Gives.{kinds}
use Rattle.script_parse.specs.Answer.{IsShallow}
use Rattle.script_places.specs.Starts.{start, first_token}
use Rattle.where_lines.specs.Calls.{IsCaller}

-- the byte at which the token of this number begins, if a number is given, and otherwise the end of the script, whose
-- length is `total`
abbrev pub begins_at : ℕ → List Token → Option ℕ → ℕ
begins_at total tokens (Some first) = start total tokens first
begins_at total tokens None = total

-- the byte at which statement `number` of a script begins; if there is no such statement, the end of the text
abbrev pub beginning : List ℕ → List Token → Script → ℕ → ℕ
beginning text tokens script number = begins_at (length text) tokens (first_token script number)

-- the bytes of a script before statement `number`; if there is no such statement, all of them
abbrev pub before : List ℕ → List Token → Script → ℕ → List ℕ
before text tokens script number = take (beginning text tokens script number) text

-- the number of a token, if one is given, and otherwise how many tokens there are
abbrev pub or_all : List Token → Option ℕ → ℕ
or_all tokens (Some first) = first
or_all tokens None = length tokens

-- the number of the first token of statement `number`; if there is no such statement, how many tokens there are
abbrev pub first_of : List Token → Script → ℕ → ℕ
first_of tokens script number = or_all tokens (first_token script number)

-- the tokens of statement `number` of a script, from its first one up to the first one of the next
abbrev pub tokens_of : List Token → Script → ℕ → List Token
tokens_of tokens script number = drop (first_of tokens script number)
    (take (first_of tokens script (number + 1)) tokens)

-- whether a keyword is `def`
abbrev pub is_def_word : Keyword → Bool
is_def_word Def = true
is_def_word word = false

-- whether a token is the word `def`
abbrev pub is_def : TokenKind → Bool
is_def (kind.Keyword word) = is_def_word word
is_def k = false

-- whether the tokens of a statement begin with the word `def`, so that the statement is a def
abbrev pub begins_def : List Token → Bool
begins_def [] = false
begins_def (token ∷ tokens) = is_def token.kind

-- Those of a statement's tokens that may hold calls. Of a def these stand behind `def` and its name, whose bracket
-- opens no call.
abbrev pub calling : List Token → List Token
calling tokens = if begins_def tokens then drop 2 tokens else tokens

-- Byte `at` may be shown for statement `number` of the script, whose types clash. It is where the statement begins, or
-- where the call in it begins with which the clash arises.
abbrev pub IsShown : List ℕ → List Token → Script → ℕ → ℕ → Type 0
IsShown text tokens script number at = (at ≡ beginning text tokens script number)
    ⊎ IsCaller text (before text tokens script number) (calling (tokens_of tokens script number)) at

-- The script `text` has a statement of this number, and byte `at` may be shown for a clash of its types. It is where
-- the statement begins, or where the call in it begins with which the clash arises.
pub record IsInStatement (text : List ℕ) (number at : ℕ) : Type 0 where
  pub tokens : List Token
  pub are_tokens : AreTokens text tokens
  pub script : Script
  pub spelled : spelling script ≡ kinds tokens
  pub placed : IsPlaced 0 script
  pub shallow : IsShallow (kinds tokens)
  pub there : first_token script number ≢ None
  pub shown : IsShown text tokens script number at
