-- A value that is read has the tokens read for its spelling, its places are right, and a fault stands where a spelling has begun.
use Rattle.std.proofs.Common.{◌≡◌, ℕ, ℤ, zero, suc, ◌+◌, List, [], ◌∷◌, ◌++◌, length, Bool, true, false, Option, Some, None, Ok, Err, refl, sym, ap, ◌∙◌, append_assoc, arith, bytes_eq}
use Rattle.std.proofs.Math.IntN.{pos}
use Rattle.std.proofs.lemmas.List.{append-nil, length-append}
use Rattle.std.proofs.lemmas.Slice.Eq.{bytes_eq-Decides}
use Rattle.script_lex.specs.declared.token.TokenKind.{TokenKind}
use Rattle.script_lex.specs.declared.token.TokenKind.TheVariants.{Name, NameOpen, Int, Number, Str, Keyword, Wav, Symbol}
use Rattle.script_lex.specs.declared.token.Keyword.TheVariants as word
use Rattle.script_lex.specs.declared.token.Symbol.TheVariants as sign
use Rattle.script_grammar.specs.declared.tree.Literal.{Literal}
use Rattle.script_grammar.specs.declared.tree.Literal.TheVariants as literal
use Rattle.script_grammar.specs.declared.tree.CompareOp.{CompareOp}
use Rattle.script_grammar.specs.declared.tree.CompareOp.TheVariants as op
use Rattle.script_grammar.specs.Tree.{Tree, Many, none, more, AFull, AnExpr, AnAnd, ANot, ACompare, ASum, AProduct, AnOperand, AnArg, Negative, Plain, Expr, And, Not, Alone, Compared, Sum, Added, Product, Multiplied, Constant, Quoted, Truth, Named, Called, Chosen, Listed, Braces, PlaceFormat, NamedCall, Arg, If}
use Rattle.script_grammar.specs.Spelling.{spell, each_after, with_commas, literal_token, op_token, option_name, token_if, wav_tokens}
use Rattle.script_grammar.specs.Placed.{IsPlaced, IsApart}
use Rattle.script_grammar.specs.Read.{Read, Reader, ◌>>=◌, made, both, next, expect}
use Rattle.script_grammar.specs.Kinds.{is_or, is_and, is_not, is_assign, is_open_round, is_close_round, is_close_square, is_close_curly, is_then, is_else, is_end, is_added, is_multiplied, op_of}
use Rattle.script_grammar.specs.ReadValue.{takes_option, digits, whole_number, the_name, size, wav, arg, args, round_or_unit, choice, call, operand, multiplied, product, added, sum, next_op, behind_op, compare, not_, and_, expr, full_step, full_by}
use Rattle.script_grammar.proofs.SoundRules.{Here, Outcome, found, stopped, Sound, nowhere, one, pair_at, here, first, later, begun_behind, refused, behind_front, made_of, both_sound, expect_sound, perhaps_sound, pick, row_sound, chain_sound, closed_sound}
use Rattle.script_grammar.proofs.SoundPredicate.{only_or, only_and, only_not, only_close_round, por_sound}

-- ---- kinds

pub only_assign : (k : TokenKind) → is_assign k ≡ true → k ≡ Symbol sign.Assign
only_assign (Symbol sign.Assign) e = refl
only_assign k e = absurd cc

only_open_round : (k : TokenKind) → is_open_round k ≡ true → k ≡ Symbol sign.OpenRound
only_open_round (Symbol sign.OpenRound) e = refl
only_open_round k e = absurd cc

only_close_square : (k : TokenKind) → is_close_square k ≡ true → k ≡ Symbol sign.CloseSquare
only_close_square (Symbol sign.CloseSquare) e = refl
only_close_square k e = absurd cc

only_close_curly : (k : TokenKind) → is_close_curly k ≡ true → k ≡ Symbol sign.CloseCurly
only_close_curly (Symbol sign.CloseCurly) e = refl
only_close_curly k e = absurd cc

only_then : (k : TokenKind) → is_then k ≡ true → k ≡ Keyword word.Then
only_then (Keyword word.Then) e = refl
only_then k e = absurd cc

only_else : (k : TokenKind) → is_else k ≡ true → k ≡ Keyword word.Else
only_else (Keyword word.Else) e = refl
only_else k e = absurd cc

pub only_end : (k : TokenKind) → is_end k ≡ true → k ≡ Keyword word.End
only_end (Keyword word.End) e = refl
only_end k e = absurd cc

only_op : (k : TokenKind) (o : CompareOp) → op_of k ≡ Some o → k ≡ op_token o
only_op (Symbol sign.Equal) o e = let h : op.Equal ≡ o = cc in ap op_token h
only_op (Symbol sign.Differs) o e = let h : op.Differs ≡ o = cc in ap op_token h
only_op (Symbol sign.Less) o e = let h : op.Less ≡ o = cc in ap op_token h
only_op (Symbol sign.AtMost) o e = let h : op.AtMost ≡ o = cc in ap op_token h
only_op (Symbol sign.Greater) o e = let h : op.Greater ≡ o = cc in ap op_token h
only_op (Symbol sign.AtLeast) o e = let h : op.AtLeast ≡ o = cc in ap op_token h
only_op k o e = absurd cc

-- ---- one tree of each level

some_operand : Tree AnOperand
some_operand = Truth 0 true

some_product : Tree AProduct
some_product = Product some_operand none

some_sum : Tree ASum
some_sum = Sum some_product none

some_compare : Tree ACompare
some_compare = Alone some_sum

some_not : Tree ANot
some_not = Not false some_compare

some_and : Tree AnAnd
some_and = And some_not none

pub some_expr : Tree AnExpr
some_expr = Expr some_and none

pub some_full : Tree AFull
some_full = Plain some_expr

some_number : ℤ
some_number = pos 0

-- ---- the option of %wav

abbrev option_tokens : Option ℤ → List TokenKind
option_tokens None = []
option_tokens (Some x) = Symbol sign.OpenRound ∷ Name option_name ∷ Symbol sign.Assign ∷ Int x ∷ Symbol sign.CloseRound ∷ []

wav_spelled : (o : Option ℤ) → wav_tokens o ≡ Wav ∷ option_tokens o
wav_spelled None = refl
wav_spelled (Some x) = refl

-- ---- brackets

round_spelled : (at : ℕ) (ts : Tree (Many AFull)) → spell (round_or_unit at ts) ≡ Symbol sign.OpenRound ∷ (with_commas ts ++ (Symbol sign.CloseRound ∷ []))
round_spelled at none = refl
round_spelled at (more f none) = ap (λ (z : List TokenKind). Symbol sign.OpenRound ∷ (z ++ (Symbol sign.CloseRound ∷ []))) (sym (append-nil (spell f)))
round_spelled at (more f (more g rest)) =
    let b = each_after (Symbol sign.Comma) rest in
    let k = Symbol sign.CloseRound ∷ [] in
    ap (λ (z : List TokenKind). Symbol sign.OpenRound ∷ z) (sym (append_assoc (spell f) (Symbol sign.Comma ∷ (spell g ++ b)) k ∙ ap (λ (z : List TokenKind). spell f ++ (Symbol sign.Comma ∷ z)) (append_assoc (spell g) b k)))

round_placed : (i at : ℕ) (ts : Tree (Many AFull)) → at ≡ i → IsApart (i + 1) ts → IsPlaced i (round_or_unit at ts)
round_placed i at none e p = e
round_placed i at (more f none) e p = p.0
round_placed i at (more f (more g rest)) e p = (e, p.0, p.1.0, p.1.1)

module _ {stamp : ℕ → ℕ} {total : ℕ} where
  digits_out : (w : List TokenKind) → Outcome stamp total (λ (l : Literal). literal_token l ∷ []) nowhere w (digits w)
  unfolding digits
  digits_out (Int n ∷ r) = found (literal.Int n) r refl (λ i h. tt)
  digits_out (Number d ∷ r) = found (literal.Number d) r refl (λ i h. tt)
  digits_out w = refused w (literal.Int some_number)

  number_out : (w : List TokenKind) → Outcome stamp total (λ (x : ℤ). Int x ∷ []) nowhere w (whole_number w)
  unfolding whole_number
  number_out (Int n ∷ r) = found n r refl (λ i h. tt)
  number_out w = refused w some_number

  name_from : (b : Bool) (x : List ℕ) (r : List TokenKind) → (b ≡ true → x ≡ option_name) → Outcome stamp total (one (Name option_name)) nowhere (Name x ∷ r) (elim b [ true ↦ Ok (tt, r) | false ↦ Err (suc (length r)) ])
  name_from true x r only = found tt r (ap (λ (z : List ℕ). Name z ∷ r) (only refl)) (λ i h. tt)
  name_from false x r only = refused (Name x ∷ r) tt

  name_out : (w : List TokenKind) → Outcome stamp total (one (Name option_name)) nowhere w (the_name w)
  unfolding the_name
  name_out (Name x ∷ r) = name_from (bytes_eq x option_name) x r (bytes_eq-Decides x option_name).0
  name_out w = refused w tt

  option_sound : Sound stamp total size (λ (x : ℤ). option_tokens (Some x)) nowhere
  unfolding size
  option_sound = record {
    outcome = λ w. made_of (λ x. x.1.1.1.0) (λ x. refl) (λ i x h p. tt)
        ((both_sound (tt, (tt, (some_number, tt))) (expect_sound is_open_round (Symbol sign.OpenRound) only_open_round)
        (both_sound (tt, (some_number, tt)) (record { outcome = name_out })
        (both_sound (some_number, tt) (expect_sound is_assign (Symbol sign.Assign) only_assign)
        (both_sound tt (record { outcome = number_out }) (expect_sound is_close_round (Symbol sign.CloseRound) only_close_round))))).outcome w);
  }

  wav_out : (loose : Bool) (w : List TokenKind) → Outcome stamp total option_tokens nowhere w (wav loose w)
  unfolding wav
  wav_out loose w = pick (takes_option loose w) (made_of Some (λ x. refl) (λ i x h p. tt) (option_sound.outcome w)) (found None w refl (λ i h. tt))

  module _ {full : Reader (Tree AFull)} (lf : Sound stamp total full spell IsPlaced) where
    -- ---- arguments and calls

    arg_plain : (w : List TokenKind) → Outcome stamp total spell IsPlaced w (full w >>= made (Arg (stamp (length w)) None))
    arg_plain w = behind_front (Arg (stamp (length w)) None) [] refl (λ a. refl) (λ i a h p. (here h, p (i + 0) refl)) (lf.outcome w)

    arg_out : (w : List TokenKind) → Outcome stamp total spell IsPlaced w (arg stamp full w)
    unfolding arg
    arg_out (Name n ∷ Symbol sign.Assign ∷ r) = behind_front (Arg (stamp (suc (suc (length r)))) (Some n)) (Name n ∷ Symbol sign.Assign ∷ []) refl (λ a. refl) (λ i a h p. (first h, p (i + 2) (omega arith))) (lf.outcome r)
    arg_out w = arg_plain w

    args_sound : Sound stamp total (args stamp full) (λ (ts : Tree (Many AnArg)). with_commas ts ++ (Symbol sign.CloseRound ∷ [])) IsApart
    unfolding args
    args_sound = record { outcome = λ w. (closed_sound is_close_round (Symbol sign.CloseRound) only_close_round (Arg 0 None some_full) (record { outcome = arg_out })).outcome w }

    call_out : (w : List TokenKind) → Outcome stamp total spell IsPlaced w (call stamp full w)
    unfolding call
    call_out (NameOpen n ∷ r) = behind_front (NamedCall (stamp (suc (length r))) n) (NameOpen n ∷ []) refl (λ a. refl) (λ i a h p. (first h, p (i + 1) (omega arith))) (args_sound.outcome r)
    call_out w = refused w (NamedCall 0 [] none)

    pub call_sound : Sound stamp total (call stamp full) spell IsPlaced
    call_sound = record { outcome = call_out }

    -- ---- if

    choice_made : (r : List TokenKind) → Outcome stamp total spell IsPlaced (Keyword word.If ∷ r) (both full (both (expect is_then) (both full (both (expect is_else) (both full (expect is_end))))) r >>= made (λ x. If (stamp (suc (length r))) x.0 x.1.1.0 x.1.1.1.1.0))
    choice_made r =
        behind_front (λ x. If (stamp (suc (length r))) x.0 x.1.1.0 x.1.1.1.1.0) (Keyword word.If ∷ []) refl (λ x. refl)
        (λ i x h p.
        let c = p (i + 1) (omega arith) in
        let t = (c.1 (i + 1 + length (spell x.0)) refl).1 (i + 2 + length (spell x.0)) (omega arith) in
        let e = (t.1 (i + 2 + length (spell x.0) + length (spell x.1.1.0)) refl).1 (i + 3 + length (spell x.0) + length (spell x.1.1.0)) (omega arith) in
        (first h, c.0, t.0, e.0))
        ((both_sound (tt, (some_full, (tt, (some_full, tt)))) lf
        (both_sound (some_full, (tt, (some_full, tt))) (expect_sound is_then (Keyword word.Then) only_then)
        (both_sound (tt, (some_full, tt)) lf
        (both_sound (some_full, tt) (expect_sound is_else (Keyword word.Else) only_else)
        (both_sound tt lf (expect_sound is_end (Keyword word.End) only_end)))))).outcome r)

    choice_out : (w : List TokenKind) → Outcome stamp total spell IsPlaced w (choice stamp full w)
    unfolding choice
    choice_out (Keyword word.If ∷ r) = choice_made r
    choice_out w = refused w (If 0 some_full some_full some_full)

    pub choice_sound : Sound stamp total (choice stamp full) spell IsPlaced
    choice_sound = record { outcome = choice_out }

    module _ (loose : Bool) where
      operand_out : (w : List TokenKind) → Outcome stamp total spell IsPlaced w (operand loose stamp full w)
      unfolding operand
      operand_out (Int n ∷ r) = found (Constant (stamp (suc (length r))) (literal.Int n)) r refl (λ i h. first h)
      operand_out (Number d ∷ r) = found (Constant (stamp (suc (length r))) (literal.Number d)) r refl (λ i h. first h)
      operand_out (Str x ∷ r) = found (Quoted (stamp (suc (length r))) x) r refl (λ i h. first h)
      operand_out (Keyword word.True ∷ r) = found (Truth (stamp (suc (length r))) true) r refl (λ i h. first h)
      operand_out (Keyword word.False ∷ r) = found (Truth (stamp (suc (length r))) false) r refl (λ i h. first h)
      operand_out (Name x ∷ r) = found (Named (stamp (suc (length r))) x) r refl (λ i h. first h)
      operand_out (NameOpen x ∷ r) = behind_front (λ y. Called (NamedCall (stamp (suc (length r))) x y)) (NameOpen x ∷ []) refl (λ a. refl) (λ i a h p. (first h, p (i + 1) (omega arith))) (args_sound.outcome r)
      operand_out (Keyword word.If ∷ r) = made_of Chosen (λ a. refl) (λ i a h p. p) (choice_out (Keyword word.If ∷ r))
      operand_out (Symbol sign.OpenRound ∷ r) =
          behind_front (round_or_unit (stamp (suc (length r)))) (Symbol sign.OpenRound ∷ []) refl (λ ts. round_spelled (stamp (suc (length r))) ts) (λ i ts h p. round_placed i (stamp (suc (length r))) ts (first h) (p (i + 1) (omega arith)))
          ((closed_sound is_close_round (Symbol sign.CloseRound) only_close_round some_full lf).outcome r)
      operand_out (Symbol sign.OpenSquare ∷ r) =
          behind_front (Listed (stamp (suc (length r)))) (Symbol sign.OpenSquare ∷ []) refl (λ ts. refl) (λ i ts h p. (first h, p (i + 1) (omega arith)))
          ((closed_sound is_close_square (Symbol sign.CloseSquare) only_close_square some_full lf).outcome r)
      operand_out (Symbol sign.OpenCurly ∷ r) =
          behind_front (λ x. Braces (stamp (suc (length r))) x.0) (Symbol sign.OpenCurly ∷ []) refl (λ x. refl) (λ i x h p. first h)
          ((both_sound tt por_sound (expect_sound is_close_curly (Symbol sign.CloseCurly) only_close_curly)).outcome r)
      operand_out (Wav ∷ r) = behind_front (PlaceFormat (stamp (suc (length r)))) (Wav ∷ []) refl (λ o. wav_spelled o) (λ i o h p. first h) (wav_out loose r)
      operand_out w = refused w some_operand

      operand_sound : Sound stamp total (operand loose stamp full) spell IsPlaced
      operand_sound = record { outcome = operand_out }

      -- ---- products, sums, comparisons

      multiplied_out : (w : List TokenKind) → Outcome stamp total spell IsPlaced w (multiplied loose stamp full w)
      unfolding multiplied
      multiplied_out (Symbol sign.Star ∷ r) = behind_front (Multiplied (stamp (suc (length r))) false) (Symbol sign.Star ∷ []) refl (λ a. refl) (λ i a h p. (first h, p (i + 1) (omega arith))) (operand_out r)
      multiplied_out (Symbol sign.Slash ∷ r) = behind_front (Multiplied (stamp (suc (length r))) true) (Symbol sign.Slash ∷ []) refl (λ a. refl) (λ i a h p. (first h, p (i + 1) (omega arith))) (operand_out r)
      multiplied_out w = refused w (Multiplied 0 false some_operand)

      product_sound : Sound stamp total (product loose stamp full) spell IsPlaced
      unfolding product
      product_sound = record { outcome = λ w. made_of (λ x. Product x.0 x.1) (λ x. refl) (λ i x h p. (p.0, p.1 (i + length (spell x.0)) refl)) ((both_sound none operand_sound (row_sound (next is_multiplied) (record { outcome = multiplied_out }))).outcome w) }

      added_out : (w : List TokenKind) → Outcome stamp total spell IsPlaced w (added loose stamp full w)
      unfolding added
      added_out (Symbol sign.Plus ∷ r) = behind_front (Added (stamp (suc (length r))) false) (Symbol sign.Plus ∷ []) refl (λ a. refl) (λ i a h p. (first h, p (i + 1) (omega arith))) (product_sound.outcome r)
      added_out (Symbol sign.Minus ∷ r) = behind_front (Added (stamp (suc (length r))) true) (Symbol sign.Minus ∷ []) refl (λ a. refl) (λ i a h p. (first h, p (i + 1) (omega arith))) (product_sound.outcome r)
      added_out w = refused w (Added 0 false some_product)

      sum_sound : Sound stamp total (sum loose stamp full) spell IsPlaced
      unfolding sum
      sum_sound = record { outcome = λ w. made_of (λ x. Sum x.0 x.1) (λ x. refl) (λ i x h p. (p.0, p.1 (i + length (spell x.0)) refl)) ((both_sound none product_sound (row_sound (next is_added) (record { outcome = added_out }))).outcome w) }

      -- behind a sum, what the operator's token tells
      op_out : {w : List TokenKind} (left : Tree ASum) (k : TokenKind) (u : List TokenKind) → w ≡ spell left ++ (k ∷ u) → ((i : ℕ) → Here stamp total i w → IsPlaced i left) → (o : Option CompareOp) → (op_of k ≡ o) → Outcome stamp total spell IsPlaced w (behind_op loose stamp full left o (k ∷ u))
      op_out left k u e p None is = found (Alone left) (k ∷ u) e p
      op_out left k u e p (Some o) is =
          behind_front (Compared left (stamp (suc (length u))) o) (spell left ++ (op_token o ∷ [])) (e ∙ ap (λ (z : TokenKind). spell left ++ (z ∷ u)) (only_op k o is) ∙ sym (append_assoc (spell left) (op_token o ∷ []) u))
          (λ a. sym (append_assoc (spell left) (op_token o ∷ []) (spell a)))
          (λ i a h q. (p i h, later (spell left) (k ∷ u) e h, q (i + length (spell left) + 1) (omega (arith, length-append (spell left) (op_token o ∷ [])))))
          (sum_sound.outcome u)

      compare_behind : {w : List TokenKind} (left : Tree ASum) (r : List TokenKind) → w ≡ spell left ++ r → ((i : ℕ) → Here stamp total i w → IsPlaced i left) → Outcome stamp total spell IsPlaced w (behind_op loose stamp full left (next_op r) r)
      compare_behind left [] e p = found (Alone left) [] e p
      compare_behind left (k ∷ u) e p = op_out left k u e p (op_of k) refl

      compare_from : {w : List TokenKind} {x : Read (Tree ASum)} → Outcome stamp total spell IsPlaced w x → Outcome stamp total spell IsPlaced w (x >>= λ x. behind_op loose stamp full x.0 (next_op x.1) x.1)
      compare_from (found left r e p) = compare_behind left r e p
      compare_from (stopped k b) = stopped k (begun_behind Alone [] [] refl (λ a. sym (append-nil (spell a))) b)

      compare_sound : Sound stamp total (compare loose stamp full) spell IsPlaced
      unfolding compare
      compare_sound = record { outcome = λ w. compare_from (sum_sound.outcome w) }

      -- ---- not, and, or

      not_placed : (i : ℕ) (x : Bool × Tree ACompare) → pair_at (token_if (Keyword word.Not)) nowhere IsPlaced i x → IsPlaced i (Not x.0 x.1)
      not_placed i x p = p.1 (i + length (token_if (Keyword word.Not) x.0)) refl

      not_sound : Sound stamp total (not_ loose stamp full) spell IsPlaced
      unfolding not_
      not_sound = record { outcome = λ w. made_of (λ x. Not x.0 x.1) (λ x. refl) (λ i x h p. not_placed i x p) ((both_sound some_compare (perhaps_sound is_not (Keyword word.Not) only_not) compare_sound).outcome w) }

      and_sound : Sound stamp total (and_ loose stamp full) spell IsPlaced
      unfolding and_
      and_sound = record { outcome = λ w. made_of (λ x. And x.0 x.1) (λ x. refl) (λ i x h p. (p.0, p.1 (i + length (spell x.0)) refl)) ((chain_sound is_and (Keyword word.And) only_and some_not not_sound).outcome w) }

      pub expr_sound : Sound stamp total (expr loose stamp full) spell IsPlaced
      unfolding expr
      expr_sound = record { outcome = λ w. made_of (λ x. Expr x.0 x.1) (λ x. refl) (λ i x h p. (p.0, p.1 (i + length (spell x.0)) refl)) ((chain_sound is_or (Keyword word.Or) only_or some_and and_sound).outcome w) }

      step_out : (w : List TokenKind) → Outcome stamp total spell IsPlaced w (full_step loose stamp full w)
      unfolding full_step
      step_out (Symbol sign.Minus ∷ r) = behind_front (Negative (stamp (suc (length r)))) (Symbol sign.Minus ∷ []) refl (λ a. refl) (λ i a h p. first h) (digits_out r)
      step_out w = made_of Plain (λ a. refl) (λ i a h p. p) (expr_sound.outcome w)

      pub step_sound : Sound stamp total (full_step loose stamp full) spell IsPlaced
      step_sound = record { outcome = step_out }

  -- every depth
  pub by_sound : (n : ℕ) → Sound stamp total (full_by n stamp) spell IsPlaced
  unfolding full_by
  by_sound zero = record { outcome = λ w. refused w some_full }
  by_sound (suc n) = record { outcome = λ w. (step_sound (by_sound n) false).outcome w }
