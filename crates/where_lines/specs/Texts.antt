-- The first token of a script that is a text.
use Rattle.std.specs.Prelude.{◌≡◌, ℕ, Bool, false, List, [], ◌∷◌, Option, Some, None, if◌then◌else◌}
use Rattle.std.specs.Str.{bytes_eq}
use Rattle.script_lex.specs.Tokens.{AreTokens}
use Rattle.script_lex.specs.declared.token.Token.{Token}
use Rattle.script_lex.specs.declared.token.TokenKind.{TokenKind}
use Rattle.script_lex.specs.declared.token.TokenKind.TheVariants as kind

-- whether a token is a quoted text that stands for the bytes `name`
abbrev pub is_text : List ℕ → TokenKind → Bool
is_text name (kind.Str text) = bytes_eq text name
is_text name k = false

-- the byte at which the first of these tokens begins that is a quoted text with the bytes `name`; None if there is none
abbrev pub text_among : List ℕ → List Token → Option ℕ
text_among name [] = None
text_among name (token ∷ tokens) = if is_text name token.kind then Some token.start else text_among name tokens

-- in the script `text` the first quoted text with the bytes `name` begins at byte `at`
pub record IsTextAt (text name : List ℕ) (at : ℕ) : Type 0 where
  pub tokens : List Token
  pub are_tokens : AreTokens text tokens
  pub first : text_among name tokens ≡ Some at
