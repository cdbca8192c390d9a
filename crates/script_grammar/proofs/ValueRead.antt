-- Each value is read from its spelling.
use Rattle.std.proofs.Common.{◌≡◌, ℕ, ℤ, zero, suc, ◌<◌, List, [], ◌∷◌, ◌++◌, length, Bool, true, false, Option, Some, None, Ok, refl, sym, ap, subst, ◌∙◌, append_assoc, arith}
use Rattle.std.proofs.lemmas.List.{append-nil, length-append}
use Rattle.script_lex.specs.declared.token.TokenKind.{TokenKind}
use Rattle.script_lex.specs.declared.token.TokenKind.TheVariants.{Name, Int, Keyword, Symbol}
use Rattle.script_lex.specs.declared.token.Keyword.TheVariants as word
use Rattle.script_lex.specs.declared.token.Symbol.TheVariants as sign
use Rattle.script_grammar.specs.declared.tree.Literal.TheVariants as literal
use Rattle.script_grammar.specs.declared.tree.CompareOp.{CompareOp}
use Rattle.script_grammar.specs.declared.tree.CompareOp.TheVariants as op
use Rattle.script_grammar.specs.Tree.{Tree, Many, none, more, AFull, AnExpr, AnAnd, ANot, ACompare, ASum, AnAdded, AProduct, AMultiplied, AnOperand, ACall, AnArg, AnIf, Negative, Plain, Expr, And, Not, Alone, Compared, Sum, Added, Product, Multiplied, Constant, Quoted, Truth, Named, Called, Chosen, Nothing, Paren, Tuple, Listed, Braces, PlaceFormat, NamedCall, Arg, If}
use Rattle.script_grammar.specs.Spelling.{spell, each_after, with_commas, op_token, option_name}
use Rattle.script_grammar.specs.Bare.{bare}
use Rattle.script_grammar.specs.Read.{Read, Reader, ◌>>=◌, made, both, next, expect, many, closed}
use Rattle.script_grammar.specs.Kinds.{is_or, is_and, is_not, is_minus, is_assign, is_comma, is_close_round, is_close_square, is_close_curly, is_then, is_else, is_end, is_added, is_multiplied, op_of}
use Rattle.script_grammar.specs.ReadPredicate.{por}
use Rattle.script_grammar.specs.ReadScript.{no_place}
use Rattle.script_grammar.specs.ReadValue.{binds, takes_option, digits, whole_number, the_name, size, wav, arg, args, round_or_unit, choice, call, operand, multiplied, product, added, sum, next_op, behind_op, compare, not_, and_, expr, full_step, full_by}
use Rattle.script_grammar.proofs.Rules.{Reads, Anything, same, lift, pair_sp, pair_pl, both_reads, expect_reads, perhaps_reads, many_reads, chain_reads, closed_reads}
use Rattle.script_grammar.proofs.Firsts.{Ends, no_option, no_op, stop_or, stop_and, stop_added, stop_multiplied, stop_assign, compare_no_not, expr_no_minus, full_binds, full_no_round, full_no_square}
use Rattle.script_grammar.proofs.PredicateRead.{por_reads}

-- ---- the option of %wav

wav_none : (loose : Bool) (u : List TokenKind) → takes_option loose u ≡ false → wav loose u ≡ Ok (None, u)
unfolding wav
wav_none loose u e = rw (e, wav) refl

wav_some : (loose : Bool) (x : ℤ) (u : List TokenKind) → wav loose (Symbol sign.OpenRound ∷ Name option_name ∷ Symbol sign.Assign ∷ Int x ∷ Symbol sign.CloseRound ∷ u) ≡ Ok (Some x, u)
unfolding wav size the_name whole_number
wav_some true x u = refl
wav_some false x u = refl

-- ---- comparing operators

op_is : (o : CompareOp) → op_of (op_token o) ≡ Some o
op_is op.Equal = refl
op_is op.Differs = refl
op_is op.Less = refl
op_is op.AtMost = refl
op_is op.Greater = refl
op_is op.AtLeast = refl

op_ends : (loose : Bool) (o : CompareOp) (u : List TokenKind) → Ends loose 4 (op_token o ∷ u)
op_ends loose op.Equal u = (omega arith, no_option loose (op_token op.Equal ∷ u) refl)
op_ends loose op.Differs u = (omega arith, no_option loose (op_token op.Differs ∷ u) refl)
op_ends loose op.Less u = (omega arith, no_option loose (op_token op.Less ∷ u) refl)
op_ends loose op.AtMost u = (omega arith, no_option loose (op_token op.AtMost ∷ u) refl)
op_ends loose op.Greater u = (omega arith, no_option loose (op_token op.Greater ∷ u) refl)
op_ends loose op.AtLeast u = (omega arith, no_option loose (op_token op.AtLeast ∷ u) refl)

multiplied_ends : (loose : Bool) (t : Tree AMultiplied) (u : List TokenKind) → Ends loose 6 (spell t ++ u)
multiplied_ends loose (Multiplied at true p) u = (omega arith, no_option loose (Symbol sign.Slash ∷ (spell p ++ u)) refl)
multiplied_ends loose (Multiplied at false p) u = (omega arith, no_option loose (Symbol sign.Star ∷ (spell p ++ u)) refl)

multiplied_starts : (t : Tree AMultiplied) (u : List TokenKind) → next is_multiplied (spell t ++ u) ≡ true
multiplied_starts (Multiplied at true p) u = refl
multiplied_starts (Multiplied at false p) u = refl

multiplied_long : (t : Tree AMultiplied) → 0 < length (spell t)
multiplied_long (Multiplied at true p) = omega arith
multiplied_long (Multiplied at false p) = omega arith

factors_end : (loose : Bool) (ts : Tree (Many AMultiplied)) (u : List TokenKind) → Ends loose 6 u → Ends loose 6 (spell ts ++ u)
factors_end loose none u e = e
factors_end loose (more t ts) u e = subst (Ends loose 6) (sym (append_assoc (spell t) (spell ts) u)) (multiplied_ends loose t (spell ts ++ u))

added_ends : (loose : Bool) (t : Tree AnAdded) (u : List TokenKind) → Ends loose 5 (spell t ++ u)
added_ends loose (Added at true p) u = (omega arith, no_option loose (Symbol sign.Minus ∷ (spell p ++ u)) refl)
added_ends loose (Added at false p) u = (omega arith, no_option loose (Symbol sign.Plus ∷ (spell p ++ u)) refl)

added_starts : (t : Tree AnAdded) (u : List TokenKind) → next is_added (spell t ++ u) ≡ true
added_starts (Added at true p) u = refl
added_starts (Added at false p) u = refl

added_long : (t : Tree AnAdded) → 0 < length (spell t)
added_long (Added at true p) = omega arith
added_long (Added at false p) = omega arith

addends_end : (loose : Bool) (ts : Tree (Many AnAdded)) (u : List TokenKind) → Ends loose 5 u → Ends loose 5 (spell ts ++ u)
addends_end loose none u e = e
addends_end loose (more t ts) u e = subst (Ends loose 5) (sym (append_assoc (spell t) (spell ts) u)) (added_ends loose t (spell ts ++ u))

arg_plain : (full : Reader (Tree AFull)) (w : List TokenKind) → binds w ≡ false → arg no_place full w ≡ (full w >>= made (Arg 0 None))
unfolding arg
arg_plain full (Name x ∷ Symbol sign.Assign ∷ r) e = absurd cc
arg_plain full w e = refl

step_plain : (loose : Bool) (full : Reader (Tree AFull)) (w : List TokenKind) → next is_minus w ≡ false → full_step loose no_place full w ≡ (expr loose no_place full w >>= made Plain)
unfolding full_step
step_plain loose full (Symbol sign.Minus ∷ r) e = absurd cc
step_plain loose full w e = refl

arg_no_round : (t : Tree AnArg) (u : List TokenKind) → next is_assign u ≡ false → next is_close_round (spell t ++ u) ≡ false
arg_no_round (Arg at (Some x) f) u e = refl
arg_no_round (Arg at None f) u e = full_no_round f u e

module _ (full : Reader (Tree AFull)) (n : ℕ) (lf : Reads full spell bare (Ends false 1) n) where
  -- ---- arguments and calls

  arg_again : (t : Tree AnArg) (u : List TokenKind) → Ends false 1 u → length (spell t ++ u) < n → arg no_place full (spell t ++ u) ≡ Ok (bare t, u)
  unfolding arg
  arg_again (Arg at (Some x) f) u e short = lift (lf.again f u e (omega arith)) (Arg 0 (Some x))
  arg_again (Arg at None f) u e short = arg_plain full (spell f ++ u) (full_binds f u (stop_assign u (omega (arith, e.0)))) ∙ lift (lf.again f u e short) (Arg 0 None)

  args_reads : Reads (closed is_comma is_close_round (arg no_place full)) (λ (ts : Tree (Many AnArg)). with_commas ts ++ (Symbol sign.CloseRound ∷ [])) bare Anything n
  args_reads = closed_reads is_close_round (Symbol sign.CloseRound) refl refl refl (arg no_place full) (Ends false 1) n (record { again = arg_again }) (λ u. (omega arith, refl)) (λ u. (omega arith, refl)) arg_no_round

  call_again : (t : Tree ACall) (u : List TokenKind) → Anything u → length (spell t ++ u) < suc n → call no_place full (spell t ++ u) ≡ Ok (bare t, u)
  unfolding call args
  call_again (NamedCall at x ts) u e short = lift (args_reads.again ts u tt (omega arith)) (NamedCall 0 x)

  pub call_reads : Reads (call no_place full) spell bare Anything (suc n)
  call_reads = record { again = call_again }

  -- ---- if

  choice_parts : Reads (both full (both (expect is_then) (both full (both (expect is_else) (both full (expect is_end)))))) (pair_sp spell (pair_sp (λ (x : Unit {0}). Keyword word.Then ∷ []) (pair_sp spell (pair_sp (λ (x : Unit {0}). Keyword word.Else ∷ []) (pair_sp spell (λ (x : Unit {0}). Keyword word.End ∷ [])))))) (pair_pl bare (pair_pl same (pair_pl bare (pair_pl same (pair_pl bare same))))) Anything n
  choice_parts = both_reads lf (both_reads (expect_reads is_then (Keyword word.Then) refl) (both_reads lf (both_reads (expect_reads is_else (Keyword word.Else) refl) (both_reads lf (expect_reads is_end (Keyword word.End) refl) (λ b u e. (omega arith, refl))) (λ b u e. tt)) (λ b u e. (omega arith, refl))) (λ b u e. tt)) (λ b u e. (omega arith, refl))

  choice_again : (t : Tree AnIf) (u : List TokenKind) → Anything u → length (spell t ++ u) < suc n → choice no_place full (spell t ++ u) ≡ Ok (bare t, u)
  unfolding choice
  choice_again (If at c t f) u e short = lift (choice_parts.again (c, (tt, (t, (tt, (f, tt))))) u tt (omega arith)) (λ x. If 0 x.0 x.1.1.0 x.1.1.1.1.0)

  pub choice_reads : Reads (choice no_place full) spell bare Anything (suc n)
  choice_reads = record { again = choice_again }

  -- ---- brackets

  rounds_reads : Reads (closed is_comma is_close_round full) (λ (ts : Tree (Many AFull)). with_commas ts ++ (Symbol sign.CloseRound ∷ [])) bare Anything n
  rounds_reads = closed_reads is_close_round (Symbol sign.CloseRound) refl refl refl full (Ends false 1) n lf (λ u. (omega arith, refl)) (λ u. (omega arith, refl)) full_no_round

  squares_reads : Reads (closed is_comma is_close_square full) (λ (ts : Tree (Many AFull)). with_commas ts ++ (Symbol sign.CloseSquare ∷ [])) bare Anything n
  squares_reads = closed_reads is_close_square (Symbol sign.CloseSquare) refl refl refl full (Ends false 1) n lf (λ u. (omega arith, refl)) (λ u. (omega arith, refl)) full_no_square

  braces_reads : Reads (both por (expect is_close_curly)) (pair_sp spell (λ (x : Unit {0}). Symbol sign.CloseCurly ∷ [])) (pair_pl bare same) Anything n
  braces_reads = both_reads (por_reads n) (expect_reads is_close_curly (Symbol sign.CloseCurly) refl) (λ b u e. omega arith)

  module _ (loose : Bool) where
    round_again : (ts : Tree (Many AFull)) (w u : List TokenKind) → w ≡ with_commas ts ++ (Symbol sign.CloseRound ∷ []) → length (w ++ u) < n → operand loose no_place full (Symbol sign.OpenRound ∷ (w ++ u)) ≡ Ok (round_or_unit 0 (bare ts), u)
    unfolding operand
    round_again ts w u e short =
        let short' : length ((with_commas ts ++ (Symbol sign.CloseRound ∷ [])) ++ u) < n = subst (λ (z : List TokenKind). length (z ++ u) < n) e short in
        ap (λ (z : List TokenKind). operand loose no_place full (Symbol sign.OpenRound ∷ (z ++ u))) e ∙ lift (rounds_reads.again ts u tt short') (round_or_unit 0)

    operand_again : (t : Tree AnOperand) (u : List TokenKind) → Ends loose 6 u → length (spell t ++ u) < suc n → operand loose no_place full (spell t ++ u) ≡ Ok (bare t, u)
    unfolding operand args
    operand_again (Constant at (literal.Int x)) u e short = refl
    operand_again (Constant at (literal.Number x)) u e short = refl
    operand_again (Quoted at x) u e short = refl
    operand_again (Truth at true) u e short = refl
    operand_again (Truth at false) u e short = refl
    operand_again (Named at x) u e short = refl
    operand_again (Called (NamedCall at x ts)) u e short = lift (args_reads.again ts u tt (omega arith)) (λ y. Called (NamedCall 0 x y))
    operand_again (Chosen (If at c t f)) u e short = lift (choice_again (If at c t f) u tt short) Chosen
    operand_again (Nothing at) u e short = round_again none (Symbol sign.CloseRound ∷ []) u refl (omega arith)
    operand_again (Paren f) u e short = round_again (more f none) (spell f ++ (Symbol sign.CloseRound ∷ [])) u (ap (λ (z : List TokenKind). z ++ (Symbol sign.CloseRound ∷ [])) (sym (append-nil (spell f)))) (omega arith)
    operand_again (Tuple at f g rest) u e short =
        let b = each_after (Symbol sign.Comma) rest in
        let k = Symbol sign.CloseRound ∷ [] in
        round_again (more f (more g rest)) (spell f ++ (Symbol sign.Comma ∷ (spell g ++ (b ++ k)))) u (sym (append_assoc (spell f) (Symbol sign.Comma ∷ (spell g ++ b)) k ∙ ap (λ (z : List TokenKind). spell f ++ (Symbol sign.Comma ∷ z)) (append_assoc (spell g) b k))) (omega arith)
    operand_again (Listed at ts) u e short = lift (squares_reads.again ts u tt (omega arith)) (Listed 0)
    operand_again (Braces at p) u e short = lift (braces_reads.again (p, tt) u tt (omega arith)) (λ x. Braces 0 x.0)
    operand_again (PlaceFormat at None) u e short = lift (wav_none loose u e.1) (PlaceFormat 0)
    operand_again (PlaceFormat at (Some x)) u e short = lift (wav_some loose x u) (PlaceFormat 0)

    operand_reads : Reads (operand loose no_place full) spell bare (Ends loose 6) (suc n)
    operand_reads = record { again = operand_again }

    -- ---- products, sums, comparisons

    multiplied_again : (t : Tree AMultiplied) (u : List TokenKind) → Ends loose 6 u → length (spell t ++ u) < suc n → multiplied loose no_place full (spell t ++ u) ≡ Ok (bare t, u)
    unfolding multiplied
    multiplied_again (Multiplied at true p) u e short = lift (operand_again p u e (omega arith)) (Multiplied 0 true)
    multiplied_again (Multiplied at false p) u e short = lift (operand_again p u e (omega arith)) (Multiplied 0 false)

    factors_reads : Reads (many (next is_multiplied) (multiplied loose no_place full)) (λ (ts : Tree (Many AMultiplied)). spell ts) bare (λ u. Ends loose 6 u × (next is_multiplied u ≡ false)) (suc n)
    factors_reads = many_reads (next is_multiplied) (multiplied loose no_place full) spell (Ends loose 6) (suc n) (record { again = multiplied_again }) (λ (ts : Tree (Many AMultiplied)). spell ts) refl (λ t ts. refl) multiplied_starts (multiplied_ends loose) multiplied_long

    product_again : (t : Tree AProduct) (u : List TokenKind) → Ends loose 5 u → length (spell t ++ u) < suc n → product loose no_place full (spell t ++ u) ≡ Ok (bare t, u)
    unfolding product
    product_again (Product p rest) u e short = lift ((both_reads operand_reads factors_reads (λ ts u e. factors_end loose ts u e.0)).again (p, rest) u ((omega (arith, e.0), e.1), stop_multiplied u e.0) short) (λ x. Product x.0 x.1)

    product_reads : Reads (product loose no_place full) spell bare (Ends loose 5) (suc n)
    product_reads = record { again = product_again }

    added_again : (t : Tree AnAdded) (u : List TokenKind) → Ends loose 5 u → length (spell t ++ u) < suc n → added loose no_place full (spell t ++ u) ≡ Ok (bare t, u)
    unfolding added
    added_again (Added at true p) u e short = lift (product_again p u e (omega arith)) (Added 0 true)
    added_again (Added at false p) u e short = lift (product_again p u e (omega arith)) (Added 0 false)

    addends_reads : Reads (many (next is_added) (added loose no_place full)) (λ (ts : Tree (Many AnAdded)). spell ts) bare (λ u. Ends loose 5 u × (next is_added u ≡ false)) (suc n)
    addends_reads = many_reads (next is_added) (added loose no_place full) spell (Ends loose 5) (suc n) (record { again = added_again }) (λ (ts : Tree (Many AnAdded)). spell ts) refl (λ t ts. refl) added_starts (added_ends loose) added_long

    sum_again : (t : Tree ASum) (u : List TokenKind) → Ends loose 4 u → length (spell t ++ u) < suc n → sum loose no_place full (spell t ++ u) ≡ Ok (bare t, u)
    unfolding sum
    sum_again (Sum p rest) u e short = lift ((both_reads product_reads addends_reads (λ ts u e. addends_end loose ts u e.0)).again (p, rest) u ((omega (arith, e.0), e.1), stop_added u e.0) short) (λ x. Sum x.0 x.1)

    compare_again : (t : Tree ACompare) (u : List TokenKind) → Ends loose 3 u → length (spell t ++ u) < suc n → compare loose no_place full (spell t ++ u) ≡ Ok (bare t, u)
    unfolding compare
    compare_again (Alone s) u e short =
        ap (λ (r : Read (Tree ASum)). r >>= λ x. behind_op loose no_place full x.0 (next_op x.1) x.1) (sum_again s u (omega (arith, e.0), e.1) short)
        ∙ ap (λ (o : Option CompareOp). behind_op loose no_place full (bare s) o u) (no_op u e.0)
    compare_again (Compared s at o r) u e short =
        let regroup : (spell s ++ (op_token o ∷ spell r)) ++ u ≡ spell s ++ (op_token o ∷ (spell r ++ u)) = append_assoc (spell s) (op_token o ∷ spell r) u in
        let short' : length (spell s ++ (op_token o ∷ (spell r ++ u))) < suc n = subst (λ (z : List TokenKind). length z < suc n) regroup short in
        let short'' : length (spell r ++ u) < suc n = omega (arith, length-append (spell s) (op_token o ∷ (spell r ++ u))) in
        ap (compare loose no_place full) regroup
        ∙ ap (λ (r : Read (Tree ASum)). r >>= λ x. behind_op loose no_place full x.0 (next_op x.1) x.1) (sum_again s (op_token o ∷ (spell r ++ u)) (op_ends loose o (spell r ++ u)) short')
        ∙ ap (λ (p : Option CompareOp). behind_op loose no_place full (bare s) p (op_token o ∷ (spell r ++ u))) (op_is o)
        ∙ lift (sum_again r u (omega (arith, e.0), e.1) short'') (Compared (bare s) 0 o)

    compare_reads : Reads (compare loose no_place full) spell bare (Ends loose 3) (suc n)
    compare_reads = record { again = compare_again }

    -- ---- and so on up to values in full

    not_again : (t : Tree ANot) (u : List TokenKind) → Ends loose 3 u → length (spell t ++ u) < suc n → not_ loose no_place full (spell t ++ u) ≡ Ok (bare t, u)
    unfolding not_
    not_again (Not negated c) u e short = lift ((both_reads (perhaps_reads is_not (Keyword word.Not) refl) compare_reads (λ c u e. compare_no_not c u (stop_assign u (omega (arith, e.0))))).again (negated, c) u e short) (λ x. Not x.0 x.1)

    not_reads : Reads (not_ loose no_place full) spell bare (Ends loose 3) (suc n)
    not_reads = record { again = not_again }

    and_again : (t : Tree AnAnd) (u : List TokenKind) → Ends loose 2 u → length (spell t ++ u) < suc n → and_ loose no_place full (spell t ++ u) ≡ Ok (bare t, u)
    unfolding and_
    and_again (And first rest) u e short = lift ((chain_reads is_and (Keyword word.And) refl (not_ loose no_place full) (Ends loose 3) (suc n) not_reads (λ u. (omega arith, no_option loose (Keyword word.And ∷ u) refl))).again (first, rest) u ((omega (arith, e.0), e.1), stop_and u e.0) short) (λ x. And x.0 x.1)

    and_reads : Reads (and_ loose no_place full) spell bare (Ends loose 2) (suc n)
    and_reads = record { again = and_again }

    expr_again : (t : Tree AnExpr) (u : List TokenKind) → Ends loose 1 u → length (spell t ++ u) < suc n → expr loose no_place full (spell t ++ u) ≡ Ok (bare t, u)
    unfolding expr
    expr_again (Expr first rest) u e short = lift ((chain_reads is_or (Keyword word.Or) refl (and_ loose no_place full) (Ends loose 2) (suc n) and_reads (λ u. (omega arith, no_option loose (Keyword word.Or ∷ u) refl))).again (first, rest) u ((omega (arith, e.0), e.1), stop_or u e.0) short) (λ x. Expr x.0 x.1)

    pub expr_reads : Reads (expr loose no_place full) spell bare (Ends loose 1) (suc n)
    expr_reads = record { again = expr_again }

    step_again : (t : Tree AFull) (u : List TokenKind) → Ends loose 1 u → length (spell t ++ u) < suc n → full_step loose no_place full (spell t ++ u) ≡ Ok (bare t, u)
    unfolding full_step digits
    step_again (Negative at (literal.Int x)) u e short = refl
    step_again (Negative at (literal.Number x)) u e short = refl
    step_again (Plain t) u e short = step_plain loose full (spell t ++ u) (expr_no_minus t u (stop_assign u (omega (arith, e.0)))) ∙ lift (expr_again t u e short) Plain

    pub step_reads : Reads (full_step loose no_place full) spell bare (Ends loose 1) (suc n)
    step_reads = record { again = step_again }

-- every depth
pub by_reads : (n : ℕ) → Reads (full_by n no_place) spell bare (Ends false 1) n
unfolding full_by
by_reads zero = record { again = λ t u e short. absurd (omega arith) }
by_reads (suc n) = record { again = λ t u e short. (step_reads (full_by n no_place) n (by_reads n) false).again t u e short }
