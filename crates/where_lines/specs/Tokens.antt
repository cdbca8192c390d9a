-- Where a token begins.
use Rattle.std.specs.Prelude.{◌≡◌, ℕ, List, length}
use Rattle.script_lex.specs.Tokens.{AreTokens}
use Rattle.script_lex.specs.declared.token.Token.{Token}
use Rattle.script_places.specs.Starts.{start}

-- byte `at` is where token k of a text begins
pub record IsTokenAt (text : List ℕ) (k at : ℕ) : Type 0 where
  pub tokens : List Token
  pub are_tokens : AreTokens text tokens
  pub begins : at ≡ start (length text) tokens k
