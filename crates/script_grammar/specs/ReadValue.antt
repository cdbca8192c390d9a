-- How a value is read. A reader of Full stands for the recursion, and stamp makes a field at of the number of tokens
-- that are left. Where a value is loose, a `(` may stand behind it: then `%wav` takes its option only if all of
-- `(samplesize =` stands there.
use Rattle.std.specs.Prelude.{ℕ, ℤ, zero, suc, List, [], ◌∷◌, length, Bool, true, false, Option, Some, None, Ok, Err, bytes_eq}
use Rattle.script_lex.specs.declared.token.TokenKind.TheVariants.{Name, NameOpen, Int, Number, Str, Keyword, Wav, Symbol}
use Rattle.script_lex.specs.declared.token.TokenKind.{TokenKind}
use Rattle.script_lex.specs.declared.token.Keyword.TheVariants as word
use Rattle.script_lex.specs.declared.token.Symbol.TheVariants as sign
use Rattle.script_grammar.specs.declared.tree.Literal.{Literal}
use Rattle.script_grammar.specs.declared.tree.Literal.TheVariants as literal
use Rattle.script_grammar.specs.declared.tree.CompareOp.{CompareOp}
use Rattle.script_grammar.specs.Tree.{Tree, Many, none, more, AFull, AnExpr, AnAnd, ANot, ACompare, ASum, AnAdded, AProduct, AMultiplied, AnOperand, ACall, AnArg, AnIf, Negative, Plain, Expr, And, Not, Alone, Compared, Sum, Added, Product, Multiplied, Constant, Quoted, Truth, Named, Called, Chosen, Nothing, Paren, Tuple, Listed, Braces, PlaceFormat, NamedCall, Arg, If}
use Rattle.script_grammar.specs.Spelling.{option_name}
use Rattle.script_grammar.specs.Read.{Reader, ◌>>=◌, made, both, next, expect, perhaps, many, chain, closed}
use Rattle.script_grammar.specs.Kinds.{is_or, is_and, is_not, is_assign, is_comma, is_close_round, is_close_square, is_close_curly, is_open_round, is_then, is_else, is_end, is_added, is_multiplied, op_of}
use Rattle.script_grammar.specs.ReadPredicate.{por}

-- whether the next tokens are a name and `=`, with which a binding begins
abbrev pub binds : List TokenKind → Bool
binds (Name x ∷ r) = next is_assign r
binds w = false

-- whether the next token is the name `samplesize`, of the one option of %wav
abbrev pub opens_name : List TokenKind → Bool
opens_name (Name x ∷ r) = bytes_eq x option_name
opens_name w = false

-- whether the next tokens are `(samplesize =`, with which the option of %wav begins
abbrev pub optional : List TokenKind → Bool
optional (Symbol sign.OpenRound ∷ r) =
    elim (opens_name r) [
      | true ↦ binds r
      | false ↦ false
    ]
optional w = false

-- Whether `%wav` has its option where these tokens are left. If a `(` may stand behind it for another reason too
-- (true), only if they begin with `(samplesize =`. Otherwise (false) it has it if a `(` is next.
abbrev pub takes_option : Bool → List TokenKind → Bool
takes_option true w = optional w
takes_option false w = next is_open_round w

-- a number
unfoldable pub digits : Reader Literal
digits (Int n ∷ r) = Ok (literal.Int n, r)
digits (Number d ∷ r) = Ok (literal.Number d, r)
digits w = Err (length w)

-- a number without a point
unfoldable pub whole_number : Reader ℤ
whole_number (Int n ∷ r) = Ok (n, r)
whole_number w = Err (length w)

-- the name of the option of %wav
unfoldable pub the_name : Reader (Unit {0})
the_name (Name x ∷ r) =
    elim (bytes_eq x option_name) [
      | true ↦ Ok (tt, r)
      | false ↦ Err (suc (length r))
    ]
the_name w = Err (length w)

-- the option of %wav, in its parentheses
unfoldable pub size : Reader ℤ
size w = both (expect is_open_round)
    (both the_name (both (expect is_assign) (both whole_number (expect is_close_round)))) w >>= made (λ x. x.1.1.1.0)

-- the option behind %wav, if it takes one
unfoldable pub wav : Bool → Reader (Option ℤ)
wav loose w =
    elim (takes_option loose w) [
      | true ↦ (size w >>= made Some)
      | false ↦ Ok (None, w)
    ]

-- an argument, with its label or without
unfoldable pub arg : (ℕ → ℕ) → Reader (Tree AFull) → Reader (Tree AnArg)
arg stamp full (Name n ∷ Symbol sign.Assign ∷ r) = full r >>= made (Arg (stamp (suc (suc (length r)))) (Some n))
arg stamp full w = full w >>= made (Arg (stamp (length w)) None)

-- arguments with commas between, and the closing bracket
unfoldable pub args : (ℕ → ℕ) → Reader (Tree AFull) → Reader (Tree (Many AnArg))
args stamp full w = closed is_comma is_close_round (arg stamp full) w

-- The tree of what stands in parentheses, of which the first token has index `at`: the one value f, or a tuple of f and
-- others
abbrev pub round_of : ℕ → Tree AFull → Tree (Many AFull) → Tree AnOperand
round_of at f none = Paren f
round_of at f (more g rest) = Tuple at f g rest

-- The tree of what stands in parentheses, of which the first token has index `at`: the unit `()` for no value, one
-- value, or a tuple of more
abbrev pub round_or_unit : ℕ → Tree (Many AFull) → Tree AnOperand
round_or_unit at none = Nothing at
round_or_unit at (more f rest) = round_of at f rest

-- an `if`, from that word to its `end`
unfoldable pub choice : (ℕ → ℕ) → Reader (Tree AFull) → Reader (Tree AnIf)
choice stamp full (Keyword word.If
    ∷ r) = both full (both (expect is_then) (both full (both (expect is_else) (both full (expect is_end))))) r >>= made
    (λ x. If (stamp (suc (length r))) x.0 x.1.1.0 x.1.1.1.1.0)
choice stamp full w = Err (length w)

-- a call, from its name to its closing bracket
unfoldable pub call : (ℕ → ℕ) → Reader (Tree AFull) → Reader (Tree ACall)
call stamp full (NameOpen n ∷ r) = args stamp full r >>= made (NamedCall (stamp (suc (length r))) n)
call stamp full w = Err (length w)

-- an operand, by its first token
unfoldable pub operand : Bool → (ℕ → ℕ) → Reader (Tree AFull) → Reader (Tree AnOperand)
operand loose stamp full (Int n ∷ r) = Ok (Constant (stamp (suc (length r))) (literal.Int n), r)
operand loose stamp full (Number d ∷ r) = Ok (Constant (stamp (suc (length r))) (literal.Number d), r)
operand loose stamp full (Str x ∷ r) = Ok (Quoted (stamp (suc (length r))) x, r)
operand loose stamp full (Keyword word.True ∷ r) = Ok (Truth (stamp (suc (length r))) true, r)
operand loose stamp full (Keyword word.False ∷ r) = Ok (Truth (stamp (suc (length r))) false, r)
operand loose stamp full (Name x ∷ r) = Ok (Named (stamp (suc (length r))) x, r)
operand loose stamp full (NameOpen x
    ∷ r) = args stamp full r >>= made (λ y. Called (NamedCall (stamp (suc (length r))) x y))
operand loose stamp full (Keyword word.If ∷ r) = choice stamp full (Keyword word.If ∷ r) >>= made Chosen
operand loose stamp full (Symbol sign.OpenRound
    ∷ r) = closed is_comma is_close_round full r >>= made (round_or_unit (stamp (suc (length r))))
operand loose stamp full (Symbol sign.OpenSquare
    ∷ r) = closed is_comma is_close_square full r >>= made (Listed (stamp (suc (length r))))
operand loose stamp full (Symbol sign.OpenCurly
    ∷ r) = both por (expect is_close_curly) r >>= made (λ x. Braces (stamp (suc (length r))) x.0)
operand loose stamp full (Wav ∷ r) = wav loose r >>= made (PlaceFormat (stamp (suc (length r))))
operand loose stamp full w = Err (length w)

-- `*` or `/`, and the operand behind it
unfoldable pub multiplied : Bool → (ℕ → ℕ) → Reader (Tree AFull) → Reader (Tree AMultiplied)
multiplied loose stamp full (Symbol sign.Star
    ∷ r) = operand loose stamp full r >>= made (Multiplied (stamp (suc (length r))) false)
multiplied loose stamp full (Symbol sign.Slash
    ∷ r) = operand loose stamp full r >>= made (Multiplied (stamp (suc (length r))) true)
multiplied loose stamp full w = Err (length w)

-- operands with `*` and `/` between
unfoldable pub product : Bool → (ℕ → ℕ) → Reader (Tree AFull) → Reader (Tree AProduct)
product loose stamp full w = both (operand loose stamp full) (many (next is_multiplied) (multiplied loose stamp full)) w
    >>= made (λ x. Product x.0 x.1)

-- `+` or `-`, and the product behind it
unfoldable pub added : Bool → (ℕ → ℕ) → Reader (Tree AFull) → Reader (Tree AnAdded)
added loose stamp full (Symbol sign.Plus
    ∷ r) = product loose stamp full r >>= made (Added (stamp (suc (length r))) false)
added loose stamp full (Symbol sign.Minus
    ∷ r) = product loose stamp full r >>= made (Added (stamp (suc (length r))) true)
added loose stamp full w = Err (length w)

-- products with `+` and `-` between
unfoldable pub sum : Bool → (ℕ → ℕ) → Reader (Tree AFull) → Reader (Tree ASum)
sum loose stamp full w = both (product loose stamp full) (many (next is_added) (added loose stamp full)) w >>= made
    (λ x. Sum x.0 x.1)

-- the comparing operator that the next token is, if it is one; nothing is read
abbrev pub next_op : List TokenKind → Option CompareOp
next_op [] = None
next_op (k ∷ r) = op_of k

-- Reads on from a sum `left`: it stands alone, or it is compared by the operator that is next, with the sum behind
-- that. `full` reads a value, and `stamp` makes the index of a token of the number of tokens that are left. `loose`
-- says that a `(` may stand behind the value for another reason than %wav.
abbrev pub behind_op : Bool → (ℕ → ℕ) → Reader (Tree AFull) → Tree ASum → Option CompareOp → Reader (Tree ACompare)
behind_op loose stamp full left None w = Ok (Alone left, w)
behind_op loose stamp full left (Some op) [] = Err 0
behind_op loose stamp full left (Some op) (k
    ∷ r) = sum loose stamp full r >>= made (Compared left (stamp (suc (length r))) op)

-- a sum, perhaps compared with another
unfoldable pub compare : Bool → (ℕ → ℕ) → Reader (Tree AFull) → Reader (Tree ACompare)
compare loose stamp full w = sum loose stamp full w >>= λ x. behind_op loose stamp full x.0 (next_op x.1) x.1

-- a comparison, perhaps behind `not`
unfoldable pub not_ : Bool → (ℕ → ℕ) → Reader (Tree AFull) → Reader (Tree ANot)
not_ loose stamp full w = both (perhaps is_not) (compare loose stamp full) w >>= made (λ x. Not x.0 x.1)

-- parts with `and` between
unfoldable pub and_ : Bool → (ℕ → ℕ) → Reader (Tree AFull) → Reader (Tree AnAnd)
and_ loose stamp full w = chain is_and (not_ loose stamp full) w >>= made (λ x. And x.0 x.1)

-- an expression: parts with `or` between
unfoldable pub expr : Bool → (ℕ → ℕ) → Reader (Tree AFull) → Reader (Tree AnExpr)
expr loose stamp full w = chain is_or (and_ loose stamp full) w >>= made (λ x. Expr x.0 x.1)

-- a value: "-" and a number, or an expression; `full` reads the values in it
unfoldable pub full_step : Bool → (ℕ → ℕ) → Reader (Tree AFull) → Reader (Tree AFull)
full_step loose stamp full (Symbol sign.Minus ∷ r) = digits r >>= made (Negative (stamp (suc (length r))))
full_step loose stamp full w = expr loose stamp full w >>= made Plain

-- a value in which fewer than n others nest, one in the other
unfoldable pub full_by : ℕ → (ℕ → ℕ) → Reader (Tree AFull)
full_by zero stamp w = Err (length w)
full_by (suc n) stamp w = full_step false stamp (full_by n stamp) w
