-- What the functions of the descent read, where no definition of the grammar has a name for it.
use Rattle.std.specs.Prelude.{◌≡◌, ℕ, List, [], ◌∷◌, ◌++◌, length, Bool, true, false, Option, Some, None, Result, Ok, Err}
use Rattle.std.specs.Borrow.{Bor}
use Rattle.script_lex.specs.declared.token.Token.{Token}
use Rattle.script_lex.specs.declared.token.TokenKind.{TokenKind}
use Rattle.script_lex.specs.declared.token.TokenKind.TheVariants.{Name, NameOpen, Keyword, Symbol}
use Rattle.script_lex.specs.declared.token.Keyword.TheVariants as word
use Rattle.script_lex.specs.declared.token.Symbol.TheVariants as sign
use Rattle.parse_base.specs.declared.fault.Fault.{Fault}
use Rattle.parse_base.specs.declared.fault.Fault.TheVariants as faults
use Rattle.parse_base.specs.Gives.{kinds, Fails}
use Rattle.script_grammar.specs.Lone.{lone as lone_expr}
use Rattle.script_grammar.specs.Tree.{Sort, Tree, Many, more, AFull, AnExpr, ANot, ACompare, AnOperand, ACall, AnArg, AnIf, Plain, Not, Braces, Listed, NamedCall, Arg, If}
use Rattle.script_grammar.specs.Read.{Read, Reader, ◌>>=◌, made, both, expect, chain}
use Rattle.script_grammar.specs.Kinds.{is_close_curly, is_then, is_else, is_end}
use Rattle.script_grammar.specs.ReadPredicate.{por}
use Rattle.script_grammar.specs.ReadValue.{expr, round_or_unit}

-- whether an operand that begins with this token has values within it, as a call, an `if` or brackets have
abbrev pub holds_values : TokenKind → Bool
holds_values (NameOpen name) = true
holds_values (Keyword word.If) = true
holds_values (Symbol sign.OpenRound) = true
holds_values (Symbol sign.OpenSquare) = true
holds_values k = false

-- the reader of values that refuses each token, for operands that have no value within them
abbrev pub no_value : Reader (Tree AFull)
no_value w = Err (length w)

-- a predicate and the closing `}` behind it, as an operand; `at` is the index of the `{` before it
abbrev pub braces_at : ℕ → Reader (Tree AnOperand)
braces_at at w = both por (expect is_close_curly) w >>= made (λ x. Braces at x.0)

-- reads one item or several by the reader `item`, where each two have a token between them that `comma` accepts
abbrev pub chained : {s : Sort} → (TokenKind → Bool) → Reader (Tree s) → Reader (Tree (Many s))
chained comma item w = chain comma item w >>= made (λ x. more x.0 x.1)

-- the operand of the values that were read in round brackets: unit, a value in brackets, or a tuple; `at` is the index
-- of the first bracket
abbrev pub as_round : ℕ → Read (Tree (Many AFull)) → Read (Tree AnOperand)
as_round at read = read >>= made (round_or_unit at)

-- the operand, a list, of the values that were read in square brackets; `at` is the index of the first bracket
abbrev pub as_list : ℕ → Read (Tree (Many AFull)) → Read (Tree AnOperand)
as_list at read = read >>= made (Listed at)

-- the call of the name `name` with the arguments that were read; `at` is the index of its first token
abbrev pub as_call : ℕ → List ℕ → Read (Tree (Many AnArg)) → Read (Tree ACall)
as_call at name read = read >>= made (NamedCall at name)

-- The fault may be the cause for which a reading (`read`) gives nothing: it is the reading's own syntax fault, or
-- memory was refused, which may happen to each reading.
abbrev pub IsFaultOf : {X : Type 0} → Result X Fault → Fault → Type 0
IsFaultOf read faults.Memory = Unit {0}
IsFaultOf read (faults.Syntax left) = read ≡ Err (faults.Syntax left)

-- A reading put its item behind those in `old`, which gives `new`; `view` gives the grammar's tree of an item. The
-- grammar's reading (`read`) gives the tree of this item and leaves the same tokens. A fault is that of the grammar's
-- reading, or memory was refused.
abbrev pub Pushes : {X Y : Type 0} → (X → Y) → List X → List X → Result (Bor (List Token)) Fault → Read Y → Type 0
Pushes {X = X} view old new (Ok rest) read = (x : X) × (new ≡ old ++ x ∷ []) × (read ≡ Ok (view x, kinds rest.now))
Pushes view old new (Err e) read = Fails e read

-- reads an `if` from its `else` on: the keyword `else`, a value by the reader `full`, and the keyword `end`
abbrev pub otherwise : Reader (Tree AFull) → Reader (Unit {0} × (Tree AFull × Unit {0}))
otherwise full w = both (expect is_else) (both full (expect is_end)) w

-- reads an `if` from its `then` on: the keyword `then`, a value by the reader `full`, and all from its `else` on
abbrev pub branches : Reader (Tree AFull) → Reader (Unit {0} × (Tree AFull × (Unit {0} × (Tree AFull × Unit {0}))))
branches full w = both (expect is_then) (both full (otherwise full)) w

-- what the grammar's reader gives for an `if` from its `else` on, where the value there is f; unit stands for each
-- keyword
abbrev pub seen_otherwise : Tree AFull → Unit {0} × (Tree AFull × Unit {0})
seen_otherwise f = (tt, (f, tt))

-- what the grammar's reader gives for an `if` from its `then` on, where its two values are f and g; unit stands for
-- each keyword
abbrev pub seen_branches : Tree AFull → Tree AFull → Unit {0} × (Tree AFull × (Unit {0} × (Tree AFull × Unit {0})))
seen_branches f g = (tt, (f, seen_otherwise g))

-- reads an `if` from its condition on: the condition and the values of both branches, all by the reader `full`; `at` is
-- the index of its first token
abbrev pub chosen : ℕ → Reader (Tree AFull) → Reader (Tree AnIf)
chosen at full w = both full (branches full) w >>= made (λ x. If at x.0 x.1.1.0 x.1.1.1.1.0)

-- the expression that was read, made a value that does not begin with a minus sign
abbrev pub as_plain : Read (Tree AnExpr) → Read (Tree AFull)
as_plain read = read >>= made Plain

-- Reads a value that does not begin with a minus sign: an expression. `full` reads the values within it, and `stamp`
-- gives the index of a token by how many are left. If it is `loose`, a `(` may stand behind it.
abbrev pub plain : Bool → (ℕ → ℕ) → Reader (Tree AFull) → Reader (Tree AFull)
plain loose stamp full w = as_plain (expr loose stamp full w)

-- whether a token is an operator that stands between two operands, as `or`, `+` or `<=`
abbrev pub is_operator : TokenKind → Bool
is_operator (Keyword word.Or) = true
is_operator (Keyword word.And) = true
is_operator (Symbol sign.Plus) = true
is_operator (Symbol sign.Minus) = true
is_operator (Symbol sign.Star) = true
is_operator (Symbol sign.Slash) = true
is_operator (Symbol sign.Equal) = true
is_operator (Symbol sign.Differs) = true
is_operator (Symbol sign.Less) = true
is_operator (Symbol sign.AtMost) = true
is_operator (Symbol sign.Greater) = true
is_operator (Symbol sign.AtLeast) = true
is_operator k = false

-- whether a value that begins with these tokens begins with its first operand: neither with `-` nor with `not`
abbrev pub is_bare : List TokenKind → Bool
is_bare (Symbol sign.Minus ∷ r) = false
is_bare (Keyword word.Not ∷ r) = false
is_bare w = true

-- the tree of a value that is one operand and has no operator, with a `not` before it where it is negated
abbrev pub lone : Bool → Tree AnOperand → Tree AFull
lone negated p = Plain (lone_expr negated p)

-- the pair of `first`, which was read before, and of what was read now, or the fault of the reading now
abbrev pub paired : {A B : Type 0} → A → Read B → Read (A × B)
paired first read = read >>= λ y. Ok ((first, y.0), y.1)

-- the comparison that was read, as an operand of `and`: negated where a `not` stood before it (`negated`)
abbrev pub behind_not : Bool → Read (Tree ACompare) → Read (Tree ANot)
behind_not negated read = paired negated read >>= made (λ x. Not x.0 x.1)

-- the label of an argument, if it begins with a name and `=`, and the tokens behind these; else no label and all
-- tokens
abbrev pub label_of : List TokenKind → Option (List ℕ) × List TokenKind
label_of (Name n ∷ Symbol sign.Assign ∷ r) = (Some n, r)
label_of w = (None, w)

-- the argument with this label, if any, and with the value that was read; `at` is the index of its first token
abbrev pub as_argument : ℕ → Option (List ℕ) → Read (Tree AFull) → Read (Tree AnArg)
as_argument at label read = read >>= made (Arg at label)

-- reads an argument from its value on, which the reader `full` reads, once its label, if any, was read; `at` is the
-- index of the argument's first token
abbrev pub labelled : ℕ → Option (List ℕ) → Reader (Tree AFull) → Reader (Tree AnArg)
labelled at label full w = as_argument at label (full w)

-- reads the sign by which a sum goes on: true for `-`, false for `+`; any other token is a fault
abbrev pub sum_sign : Reader Bool
sum_sign (Symbol sign.Plus ∷ r) = Ok (false, r)
sum_sign (Symbol sign.Minus ∷ r) = Ok (true, r)
sum_sign w = Err (length w)

-- reads the sign by which a product goes on: true for `/`, false for `*`; any other token is a fault
abbrev pub product_sign : Reader Bool
product_sign (Symbol sign.Star ∷ r) = Ok (false, r)
product_sign (Symbol sign.Slash ∷ r) = Ok (true, r)
product_sign w = Err (length w)
