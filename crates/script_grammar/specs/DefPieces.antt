-- The spelling of a def, in two pieces.
use Rattle.std.specs.Prelude.{ℕ, List, [], ◌∷◌, ◌++◌}
use Rattle.script_lex.specs.declared.token.TokenKind.{TokenKind}
use Rattle.script_lex.specs.declared.token.TokenKind.TheVariants.{NameOpen, Keyword, Symbol}
use Rattle.script_lex.specs.declared.token.Keyword.TheVariants as word
use Rattle.script_lex.specs.declared.token.Symbol.TheVariants as sign
use Rattle.script_grammar.specs.Tree.{Tree, AParam, AnInner, AnExpr}
use Rattle.script_grammar.specs.Spelling.{spell}
use Rattle.script_grammar.specs.Pieces.{each, between_commas}

-- the tokens that spell the head of a def: from the word `def` and its name to the bracket behind its parameters
abbrev pub def_head : List ℕ → List (Tree AParam) → List TokenKind
def_head name params = Keyword word.Def ∷ NameOpen name ∷ (between_commas params ++ (Symbol sign.CloseRound ∷ []))

-- the tokens that spell the body of a def: its bindings `inner`, its result `value` and the word `end`
abbrev pub def_body : List (Tree AnInner) → Tree AnExpr → List TokenKind
def_body inner value = each inner ++ (spell value ++ (Keyword word.End ∷ []))
