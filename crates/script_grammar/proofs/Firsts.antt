-- How the spelling of a tree begins, and what may stand behind it.
use Rattle.std.proofs.Common.{◌≡◌, ℕ, ◌<◌, List, [], ◌∷◌, ◌++◌, Bool, true, false, Some, None, refl, sym, subst, append_assoc, arith}
use Rattle.script_lex.specs.declared.token.TokenKind.{TokenKind}
use Rattle.script_lex.specs.declared.token.TokenKind.TheVariants.{Name, NameOpen, Int, Number, Str, Keyword, Wav, Symbol}
use Rattle.script_lex.specs.declared.token.Keyword.TheVariants as word
use Rattle.script_lex.specs.declared.token.Symbol.TheVariants as sign
use Rattle.script_grammar.specs.declared.tree.Literal.TheVariants as literal
use Rattle.script_grammar.specs.declared.tree.CompareOp.{CompareOp}
use Rattle.script_grammar.specs.declared.tree.CompareOp.TheVariants as op
use Rattle.script_grammar.specs.Tree.{Tree, Many, none, more, AFull, AnExpr, AnAnd, ANot, ACompare, ASum, AnAdded, AProduct, AMultiplied, AnOperand, Negative, Plain, Expr, And, Not, Alone, Compared, Sum, Added, Product, Multiplied, Constant, Quoted, Truth, Named, Called, Chosen, Nothing, Paren, Tuple, Listed, Braces, PlaceFormat, NamedCall, If}
use Rattle.script_grammar.specs.Spelling.{spell, each_after, op_token, literal_token}
use Rattle.script_grammar.specs.Read.{next}
use Rattle.script_grammar.specs.Kinds.{is_or, is_and, is_not, is_assign, is_semicolon, is_open_round, is_close_round, is_close_square, is_added, is_multiplied, is_minus}
use Rattle.script_grammar.specs.ReadValue.{binds, opens_name, optional, takes_option, next_op}

-- ---- no "=" stands behind a part of a value, if none stands behind the value

factors_no : (ts : Tree (Many AMultiplied)) (u : List TokenKind) → next is_assign u ≡ false → next is_assign (spell ts ++ u) ≡ false
factors_no none u e = e
factors_no (more (Multiplied at true p) ts) u e = refl
factors_no (more (Multiplied at false p) ts) u e = refl

addends_no : (ts : Tree (Many AnAdded)) (u : List TokenKind) → next is_assign u ≡ false → next is_assign (spell ts ++ u) ≡ false
addends_no none u e = e
addends_no (more (Added at true p) ts) u e = refl
addends_no (more (Added at false p) ts) u e = refl

op_no : (o : CompareOp) → is_assign (op_token o) ≡ false
op_no op.Equal = refl
op_no op.Differs = refl
op_no op.Less = refl
op_no op.AtMost = refl
op_no op.Greater = refl
op_no op.AtLeast = refl

ands_no : (ts : Tree (Many AnAnd)) (u : List TokenKind) → next is_assign u ≡ false → next is_assign (each_after (Keyword word.Or) ts ++ u) ≡ false
ands_no none u e = e
ands_no (more t ts) u e = refl

nots_no : (ts : Tree (Many ANot)) (u : List TokenKind) → next is_assign u ≡ false → next is_assign (each_after (Keyword word.And) ts ++ u) ≡ false
nots_no none u e = e
nots_no (more t ts) u e = refl

-- ---- what is known of each operand before no "=" is known of each value

module _ (Q : List TokenKind → Type 0) (operands : (p : Tree AnOperand) (v : List TokenKind) → next is_assign v ≡ false → Q (spell p ++ v)) where
  product_first : (t : Tree AProduct) (u : List TokenKind) → next is_assign u ≡ false → Q (spell t ++ u)
  product_first (Product p rest) u e = subst Q (sym (append_assoc (spell p) (spell rest) u)) (operands p (spell rest ++ u) (factors_no rest u e))

  sum_first : (t : Tree ASum) (u : List TokenKind) → next is_assign u ≡ false → Q (spell t ++ u)
  sum_first (Sum p rest) u e = subst Q (sym (append_assoc (spell p) (spell rest) u)) (product_first p (spell rest ++ u) (addends_no rest u e))

  pub compare_first : (t : Tree ACompare) (u : List TokenKind) → next is_assign u ≡ false → Q (spell t ++ u)
  compare_first (Alone s) u e = sum_first s u e
  compare_first (Compared s at o r) u e = subst Q (sym (append_assoc (spell s) (op_token o ∷ spell r) u)) (sum_first s (op_token o ∷ (spell r ++ u)) (op_no o))

  module _ (nots : (v : List TokenKind) → Q (Keyword word.Not ∷ v)) where
    not_first : (t : Tree ANot) (u : List TokenKind) → next is_assign u ≡ false → Q (spell t ++ u)
    not_first (Not true c) u e = nots (spell c ++ u)
    not_first (Not false c) u e = compare_first c u e

    and_first : (t : Tree AnAnd) (u : List TokenKind) → next is_assign u ≡ false → Q (spell t ++ u)
    and_first (And n rest) u e = subst Q (sym (append_assoc (spell n) (each_after (Keyword word.And) rest) u)) (not_first n (each_after (Keyword word.And) rest ++ u) (nots_no rest u e))

    pub expr_first : (t : Tree AnExpr) (u : List TokenKind) → next is_assign u ≡ false → Q (spell t ++ u)
    expr_first (Expr n rest) u e = subst Q (sym (append_assoc (spell n) (each_after (Keyword word.Or) rest) u)) (and_first n (each_after (Keyword word.Or) rest ++ u) (ands_no rest u e))

    pub full_first : ((v : List TokenKind) → Q (Symbol sign.Minus ∷ v)) → (t : Tree AFull) (u : List TokenKind) → next is_assign u ≡ false → Q (spell t ++ u)
    full_first minus (Negative at x) u e = minus (literal_token x ∷ u)
    full_first minus (Plain x) u e = expr_first x u e

-- ---- a name and "=" begin no value before no "="

operand_binds : (p : Tree AnOperand) (v : List TokenKind) → next is_assign v ≡ false → binds (spell p ++ v) ≡ false
operand_binds (Constant at (literal.Int x)) v e = refl
operand_binds (Constant at (literal.Number x)) v e = refl
operand_binds (Quoted at x) v e = refl
operand_binds (Truth at true) v e = refl
operand_binds (Truth at false) v e = refl
operand_binds (Named at x) v e = e
operand_binds (Called (NamedCall at x ts)) v e = refl
operand_binds (Chosen (If at c t f)) v e = refl
operand_binds (Nothing at) v e = refl
operand_binds (Paren f) v e = refl
operand_binds (Tuple at f g rest) v e = refl
operand_binds (Listed at ts) v e = refl
operand_binds (Braces at p) v e = refl
operand_binds (PlaceFormat at None) v e = refl
operand_binds (PlaceFormat at (Some x)) v e = refl

pub expr_binds : (t : Tree AnExpr) (u : List TokenKind) → next is_assign u ≡ false → binds (spell t ++ u) ≡ false
expr_binds = expr_first (λ w. binds w ≡ false) operand_binds (λ v. refl)

pub full_binds : (t : Tree AFull) (u : List TokenKind) → next is_assign u ≡ false → binds (spell t ++ u) ≡ false
full_binds = full_first (λ w. binds w ≡ false) operand_binds (λ v. refl) (λ v. refl)

-- ---- the first token

-- tokens that an operand begins with
abbrev begins_operand : TokenKind → Bool
begins_operand (Int x) = true
begins_operand (Number x) = true
begins_operand (Str x) = true
begins_operand (Name x) = true
begins_operand (NameOpen x) = true
begins_operand (Keyword word.True) = true
begins_operand (Keyword word.False) = true
begins_operand (Keyword word.If) = true
begins_operand (Symbol sign.OpenRound) = true
begins_operand (Symbol sign.OpenSquare) = true
begins_operand (Symbol sign.OpenCurly) = true
begins_operand Wav = true
begins_operand k = false

operand_begins : (p : Tree AnOperand) (v : List TokenKind) → next is_assign v ≡ false → next begins_operand (spell p ++ v) ≡ true
operand_begins (Constant at (literal.Int x)) v e = refl
operand_begins (Constant at (literal.Number x)) v e = refl
operand_begins (Quoted at x) v e = refl
operand_begins (Truth at true) v e = refl
operand_begins (Truth at false) v e = refl
operand_begins (Named at x) v e = refl
operand_begins (Called (NamedCall at x ts)) v e = refl
operand_begins (Chosen (If at c t f)) v e = refl
operand_begins (Nothing at) v e = refl
operand_begins (Paren f) v e = refl
operand_begins (Tuple at f g rest) v e = refl
operand_begins (Listed at ts) v e = refl
operand_begins (Braces at p) v e = refl
operand_begins (PlaceFormat at None) v e = refl
operand_begins (PlaceFormat at (Some x)) v e = refl

-- a token that is none of the first tokens of operands is not the first of one
module _ (is : TokenKind → Bool) (other : (k : TokenKind) → begins_operand k ≡ true → is k ≡ false) where
  not_next : (w : List TokenKind) → next begins_operand w ≡ true → next is w ≡ false
  not_next [] e = absurd cc
  not_next (k ∷ w) e = other k e

  operand_not : (p : Tree AnOperand) (v : List TokenKind) → next is_assign v ≡ false → next is (spell p ++ v) ≡ false
  operand_not p v e = not_next (spell p ++ v) (operand_begins p v e)

no_not : (k : TokenKind) → begins_operand k ≡ true → is_not k ≡ false
no_not (Keyword word.Not) e = absurd cc
no_not k e = refl

no_close_round : (k : TokenKind) → begins_operand k ≡ true → is_close_round k ≡ false
no_close_round (Symbol sign.CloseRound) e = absurd cc
no_close_round k e = refl

no_close_square : (k : TokenKind) → begins_operand k ≡ true → is_close_square k ≡ false
no_close_square (Symbol sign.CloseSquare) e = absurd cc
no_close_square k e = refl

no_minus : (k : TokenKind) → begins_operand k ≡ true → is_minus k ≡ false
no_minus (Symbol sign.Minus) e = absurd cc
no_minus k e = refl

no_equals : (k : TokenKind) → begins_operand k ≡ true → is_assign k ≡ false
no_equals (Symbol sign.Assign) e = absurd cc
no_equals k e = refl

no_semicolon : (k : TokenKind) → begins_operand k ≡ true → is_semicolon k ≡ false
no_semicolon (Symbol sign.Semicolon) e = absurd cc
no_semicolon k e = refl

pub compare_no_not : (t : Tree ACompare) (u : List TokenKind) → next is_assign u ≡ false → next is_not (spell t ++ u) ≡ false
compare_no_not = compare_first (λ w. next is_not w ≡ false) (operand_not is_not no_not)

pub expr_no_minus : (t : Tree AnExpr) (u : List TokenKind) → next is_assign u ≡ false → next is_minus (spell t ++ u) ≡ false
expr_no_minus = expr_first (λ w. next is_minus w ≡ false) (operand_not is_minus no_minus) (λ v. refl)

pub expr_no_assign : (t : Tree AnExpr) (u : List TokenKind) → next is_assign u ≡ false → next is_assign (spell t ++ u) ≡ false
expr_no_assign = expr_first (λ w. next is_assign w ≡ false) (operand_not is_assign no_equals) (λ v. refl)

pub expr_no_semicolon : (t : Tree AnExpr) (u : List TokenKind) → next is_assign u ≡ false → next is_semicolon (spell t ++ u) ≡ false
expr_no_semicolon = expr_first (λ w. next is_semicolon w ≡ false) (operand_not is_semicolon no_semicolon) (λ v. refl)

pub full_no_round : (t : Tree AFull) (u : List TokenKind) → next is_assign u ≡ false → next is_close_round (spell t ++ u) ≡ false
full_no_round = full_first (λ w. next is_close_round w ≡ false) (operand_not is_close_round no_close_round) (λ v. refl) (λ v. refl)

pub full_no_square : (t : Tree AFull) (u : List TokenKind) → next is_assign u ≡ false → next is_close_square (spell t ++ u) ≡ false
full_no_square = full_first (λ w. next is_close_square w ≡ false) (operand_not is_close_square no_close_square) (λ v. refl) (λ v. refl)

-- ---- what may stand behind

-- how strongly a token binds to what stands before it
abbrev pub power : TokenKind → ℕ
power (Keyword word.Or) = 1
power (Keyword word.And) = 2
power (Symbol sign.Equal) = 3
power (Symbol sign.Differs) = 3
power (Symbol sign.Less) = 3
power (Symbol sign.AtMost) = 3
power (Symbol sign.Greater) = 3
power (Symbol sign.AtLeast) = 3
power (Symbol sign.Plus) = 4
power (Symbol sign.Minus) = 4
power (Symbol sign.Star) = 5
power (Symbol sign.Slash) = 5
power (Symbol sign.Assign) = 6
power k = 0

abbrev pub strength : List TokenKind → ℕ
strength [] = 0
strength (k ∷ w) = power k

-- nothing that stands behind belongs to a value of this level
abbrev pub Ends : Bool → ℕ → List TokenKind → Type 0
Ends loose level u = (strength u < level) × (takes_option loose u ≡ false)

optional_round : (u : List TokenKind) → next is_open_round u ≡ false → optional u ≡ false
optional_round [] e = refl
optional_round (Symbol sign.OpenRound ∷ u) e = absurd cc
optional_round (k ∷ u) e = refl

pub no_option : (loose : Bool) (u : List TokenKind) → next is_open_round u ≡ false → takes_option loose u ≡ false
no_option true u e = optional_round u e
no_option false u e = e

pub no_op : (u : List TokenKind) → strength u < 3 → next_op u ≡ None
no_op [] lt = refl
no_op (Symbol sign.Equal ∷ u) lt = absurd (omega (arith, lt))
no_op (Symbol sign.Differs ∷ u) lt = absurd (omega (arith, lt))
no_op (Symbol sign.Less ∷ u) lt = absurd (omega (arith, lt))
no_op (Symbol sign.AtMost ∷ u) lt = absurd (omega (arith, lt))
no_op (Symbol sign.Greater ∷ u) lt = absurd (omega (arith, lt))
no_op (Symbol sign.AtLeast ∷ u) lt = absurd (omega (arith, lt))
no_op (k ∷ u) lt = refl

pub stop_or : (u : List TokenKind) → strength u < 1 → next is_or u ≡ false
stop_or [] lt = refl
stop_or (Keyword word.Or ∷ u) lt = absurd (omega (arith, lt))
stop_or (k ∷ u) lt = refl

pub stop_and : (u : List TokenKind) → strength u < 2 → next is_and u ≡ false
stop_and [] lt = refl
stop_and (Keyword word.And ∷ u) lt = absurd (omega (arith, lt))
stop_and (k ∷ u) lt = refl

pub stop_added : (u : List TokenKind) → strength u < 4 → next is_added u ≡ false
stop_added [] lt = refl
stop_added (Symbol sign.Plus ∷ u) lt = absurd (omega (arith, lt))
stop_added (Symbol sign.Minus ∷ u) lt = absurd (omega (arith, lt))
stop_added (k ∷ u) lt = refl

pub stop_minus : (u : List TokenKind) → strength u < 4 → next is_minus u ≡ false
stop_minus [] lt = refl
stop_minus (Symbol sign.Minus ∷ u) lt = absurd (omega (arith, lt))
stop_minus (k ∷ u) lt = refl

pub stop_multiplied : (u : List TokenKind) → strength u < 5 → next is_multiplied u ≡ false
stop_multiplied [] lt = refl
stop_multiplied (Symbol sign.Star ∷ u) lt = absurd (omega (arith, lt))
stop_multiplied (Symbol sign.Slash ∷ u) lt = absurd (omega (arith, lt))
stop_multiplied (k ∷ u) lt = refl

pub stop_assign : (u : List TokenKind) → strength u < 6 → next is_assign u ≡ false
stop_assign [] lt = refl
stop_assign (Symbol sign.Assign ∷ u) lt = absurd (omega (arith, lt))
stop_assign (k ∷ u) lt = refl

weak : (k : TokenKind) → begins_operand k ≡ true → power k ≡ 0
weak (Int x) e = refl
weak (Number x) e = refl
weak (Str x) e = refl
weak (Name x) e = refl
weak (NameOpen x) e = refl
weak (Keyword word.True) e = refl
weak (Keyword word.False) e = refl
weak (Keyword word.If) e = refl
weak (Symbol sign.OpenRound) e = refl
weak (Symbol sign.OpenSquare) e = refl
weak (Symbol sign.OpenCurly) e = refl
weak Wav e = refl
weak k e = absurd cc

weak_next : (w : List TokenKind) → next begins_operand w ≡ true → strength w ≡ 0
weak_next [] e = absurd cc
weak_next (k ∷ w) e = weak k e

pub expr_weak : (t : Tree AnExpr) (u : List TokenKind) → next is_assign u ≡ false → strength (spell t ++ u) ≡ 0
expr_weak = expr_first (λ w. strength w ≡ 0) (λ p v e. weak_next (spell p ++ v) (operand_begins p v e)) (λ v. refl)

-- ---- a value in parentheses is no option

name_or : (a b : Bool) → b ≡ false → elim a [ true ↦ b | false ↦ false ] ≡ false
name_or true b e = e
name_or false b e = refl

by_name : (w : List TokenKind) → binds w ≡ false → optional (Symbol sign.OpenRound ∷ w) ≡ false
by_name w e = name_or (opens_name w) (binds w) e

operand_optional : (p : Tree AnOperand) (v : List TokenKind) → next is_assign v ≡ false → optional (spell p ++ v) ≡ false
operand_optional (Constant at (literal.Int x)) v e = refl
operand_optional (Constant at (literal.Number x)) v e = refl
operand_optional (Quoted at x) v e = refl
operand_optional (Truth at true) v e = refl
operand_optional (Truth at false) v e = refl
operand_optional (Named at x) v e = refl
operand_optional (Called (NamedCall at x ts)) v e = refl
operand_optional (Chosen (If at c t f)) v e = refl
operand_optional (Nothing at) v e = refl
operand_optional (Paren f) v e = by_name ((spell f ++ (Symbol sign.CloseRound ∷ [])) ++ v) (subst (λ (w : List TokenKind). binds w ≡ false) (sym (append_assoc (spell f) (Symbol sign.CloseRound ∷ []) v)) (full_binds f (Symbol sign.CloseRound ∷ v) refl))
operand_optional (Tuple at f g rest) v e =
    let more_parts = spell g ++ (each_after (Symbol sign.Comma) rest ++ (Symbol sign.CloseRound ∷ [])) in
    by_name ((spell f ++ (Symbol sign.Comma ∷ more_parts)) ++ v) (subst (λ (w : List TokenKind). binds w ≡ false) (sym (append_assoc (spell f) (Symbol sign.Comma ∷ more_parts) v)) (full_binds f (Symbol sign.Comma ∷ (more_parts ++ v)) refl))
operand_optional (Listed at ts) v e = refl
operand_optional (Braces at p) v e = refl
operand_optional (PlaceFormat at None) v e = refl
operand_optional (PlaceFormat at (Some x)) v e = refl

pub expr_optional : (t : Tree AnExpr) (u : List TokenKind) → next is_assign u ≡ false → optional (spell t ++ u) ≡ false
expr_optional = expr_first (λ w. optional w ≡ false) operand_optional (λ v. refl)
