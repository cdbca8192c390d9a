-- The places at which tokens are no script: where syntax ends, and where brackets nest too deep.
use Rattle.std.specs.Prelude.{◌≡◌, ℕ, ◌+◌, ◌<◌, ◌≤◌, List, ◌++◌, length, take, count_by, Bool, true, false}
use Rattle.liq_base.specs.declared.limits.TheConstants.{MAX_NESTING}
use Rattle.script_lex.specs.declared.token.TokenKind.{TokenKind}
use Rattle.script_lex.specs.declared.token.TokenKind.TheVariants.{NameOpen, Keyword, Symbol}
use Rattle.script_lex.specs.declared.token.Keyword.TheVariants as word
use Rattle.script_lex.specs.declared.token.Symbol.TheVariants as sign
use Rattle.script_grammar.specs.Tree.{Script}
use Rattle.script_grammar.specs.Spelling.{spelling}

-- these tokens are the first tokens of some script, or all of its tokens
abbrev pub Begins : List TokenKind → Type 0
Begins front = (s : Script) × (others : List TokenKind) × (spelling s ≡ front ++ others)

-- The token k at which syntax ends: some script begins with the tokens before it, and none with those up to it. Where
-- k is the end of the tokens, more of them are missing.
pub record IsSyntaxPlace (tokens : List TokenKind) (k : ℕ) : Type 0 where
  pub within : k ≤ length tokens
  pub begun : Begins (take k tokens)
  pub no_more : k < length tokens → Begins (take (k + 1) tokens) → ⊥
  pub no_script : (s : Script) → spelling s ≡ tokens → ⊥

-- whether a token begins one more level of nesting: an opening bracket, a name with one, `if` or `def`
abbrev pub opens : TokenKind → Bool
opens (NameOpen name) = true
opens (Symbol sign.OpenRound) = true
opens (Symbol sign.OpenSquare) = true
opens (Symbol sign.OpenCurly) = true
opens (Keyword word.If) = true
opens (Keyword word.Def) = true
opens k = false

-- whether a token ends a level of nesting: a closing bracket, or `end`
abbrev pub closes : TokenKind → Bool
closes (Symbol sign.CloseRound) = true
closes (Symbol sign.CloseSquare) = true
closes (Symbol sign.CloseCurly) = true
closes (Keyword word.End) = true
closes k = false

-- The nesting at token k is more than is allowed: of the tokens 0 to k, those that open a level are more than
-- MAX_NESTING above those that close one.
abbrev pub IsDeepAt : List TokenKind → ℕ → Type 0
IsDeepAt tokens k = count_by closes (take (k + 1) tokens) + MAX_NESTING < count_by opens (take (k + 1) tokens)

-- token k is the first one at which brackets nest deeper than they may
pub record IsDepthPlace (tokens : List TokenKind) (k : ℕ) : Type 0 where
  pub within : k < length tokens
  pub here : IsDeepAt tokens k
  pub first : (j : ℕ) → j < k → IsDeepAt tokens j → ⊥
