-- The one spelling of each tree, as a list of kinds of tokens: a line for each production.
use Rattle.std.specs.Prelude.{ℕ, ℤ, List, [], ◌∷◌, ◌++◌, Bool, true, false, Option, Some, None}
use Rattle.script_lex.specs.declared.token.TokenKind.{TokenKind}
use Rattle.script_lex.specs.declared.token.TokenKind.TheVariants.{Name, NameOpen, Int, Number, Str, Time, Keyword, Wav, Symbol}
use Rattle.script_lex.specs.declared.token.Keyword.TheVariants as word
use Rattle.script_lex.specs.declared.token.Symbol.TheVariants as sign
use Rattle.script_grammar.specs.declared.tree.Literal.{Literal}
use Rattle.script_grammar.specs.declared.tree.Literal.TheVariants as literal
use Rattle.script_grammar.specs.declared.tree.CompareOp.{CompareOp}
use Rattle.script_grammar.specs.declared.tree.CompareOp.TheVariants as op
use Rattle.script_grammar.specs.Tree.{Sort, Tree, Many, none, more, Stmt, BindPart, DefPart, CallPart, IfPart, Bind, Def, Inner, Param, Labelled, Optional, Negative, Plain, Expr, And, Not, Alone, Compared, Sum, Added, Product, Multiplied, Constant, Quoted, Truth, Named, Called, Chosen, Nothing, Paren, Tuple, Listed, Braces, PlaceFormat, NamedCall, Arg, If, POr, PAnd, PNot, TrueAtom, FalseAtom, Mark, IntervalAtom, Grouped, Script}

-- the token that spells a number, with a point or without
abbrev pub literal_token : Literal → TokenKind
literal_token (literal.Int n) = Int n
literal_token (literal.Number d) = Number d

-- the token that spells a truth value: the keyword `true` or `false`
abbrev pub truth_token : Bool → TokenKind
truth_token true = Keyword word.True
truth_token false = Keyword word.False

-- the symbol that spells a comparing operator, such as `==` or `<`
abbrev pub op_token : CompareOp → TokenKind
op_token op.Equal = Symbol sign.Equal
op_token op.Differs = Symbol sign.Differs
op_token op.Less = Symbol sign.Less
op_token op.AtMost = Symbol sign.AtMost
op_token op.Greater = Symbol sign.Greater
op_token op.AtLeast = Symbol sign.AtLeast

-- the operator of a sum as a token: `-` for true, and `+` for false
abbrev pub added_token : Bool → TokenKind
added_token true = Symbol sign.Minus
added_token false = Symbol sign.Plus

-- the operator of a product as a token: `/` for true, and `*` for false
abbrev pub multiplied_token : Bool → TokenKind
multiplied_token true = Symbol sign.Slash
multiplied_token false = Symbol sign.Star

-- the tokens for a part that may be missing: the token k if it is there (true), and otherwise none
abbrev pub token_if : TokenKind → Bool → List TokenKind
token_if k true = k ∷ []
token_if k false = []

-- the tokens of an argument's label, a name and `=`, if it has one
abbrev pub label : Option (List ℕ) → List TokenKind
label (Some name) = Name name ∷ Symbol sign.Assign ∷ []
label None = []

-- the name of the one option that %wav takes, as bytes: samplesize
abbrev pub option_name : List ℕ
option_name = 115 ∷ 97 ∷ 109 ∷ 112 ∷ 108 ∷ 101 ∷ 115 ∷ 105 ∷ 122 ∷ 101 ∷ []

-- the tokens of the format `%wav`, with its option `(samplesize = size)` if it has one
abbrev pub wav_tokens : Option ℤ → List TokenKind
wav_tokens None = Wav ∷ []
wav_tokens (Some size) = Wav ∷ Symbol sign.OpenRound ∷ Name option_name ∷ Symbol sign.Assign ∷ Int size
    ∷ Symbol sign.CloseRound ∷ []

-- The tokens that spell a tree, or a list of trees one after another; those of a list with the token k before each
-- tree (each_after), and with commas between (with_commas).
abbrev mutual
  pub spell : {s : Sort} → Tree s → List TokenKind
  spell none = []
  spell (more x xs) = spell x ++ spell xs
  spell (Stmt part semicolon) = spell part ++ token_if (Symbol sign.Semicolon) semicolon
  spell (BindPart b) = spell b
  spell (DefPart d) = spell d
  spell (CallPart c) = spell c
  spell (IfPart i) = spell i
  spell (Bind at name value) = Name name ∷ Symbol sign.Assign ∷ spell value
  spell (Def at name params equals inner result) = Keyword word.Def ∷ NameOpen name
      ∷ (with_commas params ++ (Symbol sign.CloseRound
      ∷ (token_if (Symbol sign.Assign) equals ++ (spell inner ++ (spell result ++ (Keyword word.End ∷ []))))))
  spell (Inner bind semicolon) = spell bind ++ token_if (Symbol sign.Semicolon) semicolon
  spell (Param at name) = Name name ∷ []
  spell (Labelled at name) = Symbol sign.Tilde ∷ Name name ∷ []
  spell (Optional at name value) = Symbol sign.Tilde ∷ Name name ∷ Symbol sign.Assign ∷ spell value
  spell (Negative at number) = Symbol sign.Minus ∷ literal_token number ∷ []
  spell (Plain e) = spell e
  spell (Expr first rest) = spell first ++ each_after (Keyword word.Or) rest
  spell (And first rest) = spell first ++ each_after (Keyword word.And) rest
  spell (Not negated inner) = token_if (Keyword word.Not) negated ++ spell inner
  spell (Alone left) = spell left
  spell (Compared left at o right) = spell left ++ (op_token o ∷ spell right)
  spell (Sum first rest) = spell first ++ spell rest
  spell (Added at minus product) = added_token minus ∷ spell product
  spell (Product first rest) = spell first ++ spell rest
  spell (Multiplied at divide operand) = multiplied_token divide ∷ spell operand
  spell (Constant at value) = literal_token value ∷ []
  spell (Quoted at text) = Str text ∷ []
  spell (Truth at value) = truth_token value ∷ []
  spell (Named at name) = Name name ∷ []
  spell (Called c) = spell c
  spell (Chosen i) = spell i
  spell (Nothing at) = Symbol sign.OpenRound ∷ Symbol sign.CloseRound ∷ []
  spell (Paren f) = Symbol sign.OpenRound ∷ (spell f ++ (Symbol sign.CloseRound ∷ []))
  spell (Tuple at f g rest) = Symbol sign.OpenRound
      ∷ (spell f ++ (Symbol sign.Comma ∷ (spell g ++ (each_after (Symbol sign.Comma) rest
      ++ (Symbol sign.CloseRound ∷ [])))))
  spell (Listed at parts) = Symbol sign.OpenSquare ∷ (with_commas parts ++ (Symbol sign.CloseSquare ∷ []))
  spell (Braces at pred) = Symbol sign.OpenCurly ∷ (spell pred ++ (Symbol sign.CloseCurly ∷ []))
  spell (PlaceFormat at size) = wav_tokens size
  spell (NamedCall at name args) = NameOpen name ∷ (with_commas args ++ (Symbol sign.CloseRound ∷ []))
  spell (Arg at name value) = label name ++ spell value
  spell (If at c t e) = Keyword word.If ∷ (spell c ++ (Keyword word.Then
      ∷ (spell t ++ (Keyword word.Else ∷ (spell e ++ (Keyword word.End ∷ []))))))
  spell (POr first rest) = spell first ++ each_after (Keyword word.Or) rest
  spell (PAnd first rest) = spell first ++ each_after (Keyword word.And) rest
  spell (PNot negated atom) = token_if (Keyword word.Not) negated ++ spell atom
  spell TrueAtom = Keyword word.True ∷ []
  spell FalseAtom = Keyword word.False ∷ []
  spell (Mark a) = Time a ∷ []
  spell (IntervalAtom a b) = Time a ∷ Symbol sign.Minus ∷ Time b ∷ []
  spell (Grouped p) = Symbol sign.OpenRound ∷ (spell p ++ (Symbol sign.CloseRound ∷ []))

  pub each_after : {s : Sort} → TokenKind → Tree (Many s) → List TokenKind
  each_after k none = []
  each_after k (more x xs) = k ∷ (spell x ++ each_after k xs)

  pub with_commas : {s : Sort} → Tree (Many s) → List TokenKind
  with_commas none = []
  with_commas (more x xs) = spell x ++ each_after (Symbol sign.Comma) xs

-- the one list of tokens that spells a script
abbrev pub spelling : Script → List TokenKind
spelling s = spell s
