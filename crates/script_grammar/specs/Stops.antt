-- Where reading stops, and what stands before.
use Rattle.std.specs.Prelude.{◌≡◌, ℕ, List, ◌++◌, length}
use Rattle.script_lex.specs.declared.token.TokenKind.{TokenKind}

-- Where reading of the tokens w stops with k of them left, none of those before was wrong: they are the beginning of
-- the spelling (`sp`) of some tree.
pub record Begun {T : Type 0} (sp : T → List TokenKind) (w : List TokenKind) (k : ℕ) : Type 0 where
  pub before : List TokenKind
  pub after : List TokenKind
  pub parts : w ≡ before ++ after
  pub left : k ≡ length after
  pub tree : T
  pub others : List TokenKind
  pub begins : sp tree ≡ before ++ others
