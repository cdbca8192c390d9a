-- A value that is one operand, with no operator behind it.
use Rattle.std.proofs.Common.{◌≡◌, ℕ, suc, ◌+◌, List, [], ◌∷◌, Bool, false, true, Option, None, Ok, refl, ap, ◌∙◌, arith}
use Rattle.script_lex.specs.declared.token.TokenKind.{TokenKind}
use Rattle.script_lex.specs.declared.token.TokenKind.TheVariants.{Keyword, Symbol}
use Rattle.script_lex.specs.declared.token.Keyword.TheVariants as word
use Rattle.script_lex.specs.declared.token.Symbol.TheVariants as sign
use Rattle.script_grammar.specs.declared.tree.CompareOp.{CompareOp}
use Rattle.script_grammar.specs.Tree.{Sort, Tree, Many, none, AFull, AnAnd, ANot, ACompare, ASum, AnAdded, AProduct, AMultiplied, AnOperand, Expr, And, Not, Alone, Sum, Product}
use Rattle.script_grammar.specs.Kinds.{is_or, is_and, is_not, is_added, is_multiplied}
use Rattle.script_grammar.specs.Read.{Reader, Read, ◌>>=◌, made, both, next, perhaps, repeat, many, behind, chain}
use Rattle.script_grammar.specs.ReadValue.{full_by, full_step, expr, and_, not_, compare, behind_op, next_op, sum, added, product, multiplied, operand}
use Rattle.parse_base.specs.declared.fault.Fault.{Fault}
use Rattle.parse_base.specs.declared.fault.Fault.TheVariants as faults
use Rattle.parse_base.specs.Gives.{Fails}
use Rattle.value_parse.proofs.Both.{both_goes}
use Rattle.value_parse.specs.Operand.{is_bare, is_operator, lone, as_plain, plain}

-- ---- where no operator stands next, none of each kind does

not_multiplied : (w : List TokenKind) → next is_operator w ≡ false → next is_multiplied w ≡ false
not_multiplied [] is = refl
not_multiplied (Symbol sign.Star ∷ w) is = is
not_multiplied (Symbol sign.Slash ∷ w) is = is
not_multiplied (k ∷ w) is = refl

not_added : (w : List TokenKind) → next is_operator w ≡ false → next is_added w ≡ false
not_added [] is = refl
not_added (Symbol sign.Plus ∷ w) is = is
not_added (Symbol sign.Minus ∷ w) is = is
not_added (k ∷ w) is = refl

not_compared : (w : List TokenKind) → next is_operator w ≡ false → next_op w ≡ None
not_compared [] is = refl
not_compared (Symbol sign.Equal ∷ w) is = absurd cc
not_compared (Symbol sign.Differs ∷ w) is = absurd cc
not_compared (Symbol sign.Less ∷ w) is = absurd cc
not_compared (Symbol sign.AtMost ∷ w) is = absurd cc
not_compared (Symbol sign.Greater ∷ w) is = absurd cc
not_compared (Symbol sign.AtLeast ∷ w) is = absurd cc
not_compared (k ∷ w) is = refl

not_and : (w : List TokenKind) → next is_operator w ≡ false → next is_and w ≡ false
not_and [] is = refl
not_and (Keyword word.And ∷ w) is = is
not_and (k ∷ w) is = refl

not_or : (w : List TokenKind) → next is_operator w ≡ false → next is_or w ≡ false
not_or [] is = refl
not_or (Keyword word.Or ∷ w) is = is
not_or (k ∷ w) is = refl

-- ---- a first part with no other behind it

no_others : {s : Sort} (test : List TokenKind → Bool) (item : Reader (Tree s)) (w : List TokenKind) → test w ≡ false → many test item w ≡ Ok (none, w)
unfolding many repeat
no_others test item [] over = refl
no_others test item (k ∷ w) over = rw (over, repeat) refl

first_alone : {A : Type 0} {s : Sort} (first : Reader A) (test : List TokenKind → Bool) (item : Reader (Tree s)) (w r : List TokenKind) (a : A) → first w ≡ Ok (a, r) → test r ≡ false → both first (many test item) w ≡ Ok ((a, none), r)
first_alone first test item w r a read over = both_goes first (many test item) w r r a none read (no_others test item r over)

module _ (loose : Bool) (stamp : ℕ → ℕ) (full : Reader (Tree AFull)) where
  product_alone : (w r : List TokenKind) (p : Tree AnOperand) → operand loose stamp full w ≡ Ok (p, r) → next is_operator r ≡ false → product loose stamp full w ≡ Ok (Product p none, r)
  unfolding product
  product_alone w r p read over =
      ap (λ (x : Read (Tree AnOperand × Tree (Many AMultiplied))). x >>= made (λ y. Product y.0 y.1)) (first_alone (operand loose stamp full) (next is_multiplied) (multiplied loose stamp full) w r p read (not_multiplied r over))

  sum_alone : (w r : List TokenKind) (p : Tree AnOperand) → operand loose stamp full w ≡ Ok (p, r) → next is_operator r ≡ false → sum loose stamp full w ≡ Ok (Sum (Product p none) none, r)
  unfolding sum
  sum_alone w r p read over =
      ap (λ (x : Read (Tree AProduct × Tree (Many AnAdded))). x >>= made (λ y. Sum y.0 y.1)) (first_alone (product loose stamp full) (next is_added) (added loose stamp full) w r (Product p none) (product_alone w r p read over) (not_added r over))

  compare_alone : (w r : List TokenKind) (p : Tree AnOperand) → operand loose stamp full w ≡ Ok (p, r) → next is_operator r ≡ false → compare loose stamp full w ≡ Ok (Alone (Sum (Product p none) none), r)
  unfolding compare
  compare_alone w r p read over =
      ap (λ (x : Read (Tree ASum)). x >>= λ y. behind_op loose stamp full y.0 (next_op y.1) y.1) (sum_alone w r p read over)
      ∙ ap (λ (op : Option CompareOp). behind_op loose stamp full (Sum (Product p none) none) op r) (not_compared r over)

  not_alone : (w inner r : List TokenKind) (negated : Bool) (p : Tree AnOperand) → perhaps is_not w ≡ Ok (negated, inner) → operand loose stamp full inner ≡ Ok (p, r) → next is_operator r ≡ false → not_ loose stamp full w ≡ Ok (Not negated (Alone (Sum (Product p none) none)), r)
  unfolding not_
  not_alone w inner r negated p lead read over =
      ap (λ (x : Read (Bool × Tree ACompare)). x >>= made (λ y. Not y.0 y.1)) (both_goes (perhaps is_not) (compare loose stamp full) w inner r negated (Alone (Sum (Product p none) none)) lead (compare_alone inner r p read over))

  and_alone : (w inner r : List TokenKind) (negated : Bool) (p : Tree AnOperand) → perhaps is_not w ≡ Ok (negated, inner) → operand loose stamp full inner ≡ Ok (p, r) → next is_operator r ≡ false → and_ loose stamp full w ≡ Ok (And (Not negated (Alone (Sum (Product p none) none))) none, r)
  unfolding and_ chain
  and_alone w inner r negated p lead read over =
      ap (λ (x : Read (Tree ANot × Tree (Many ANot))). x >>= made (λ y. And y.0 y.1)) (first_alone (not_ loose stamp full) (next is_and) (behind is_and (not_ loose stamp full)) w r (Not negated (Alone (Sum (Product p none) none))) (not_alone w inner r negated p lead read over) (not_and r over))

  expr_alone : (w inner r : List TokenKind) (negated : Bool) (p : Tree AnOperand) → perhaps is_not w ≡ Ok (negated, inner) → operand loose stamp full inner ≡ Ok (p, r) → next is_operator r ≡ false → expr loose stamp full w ≡ Ok (Expr (And (Not negated (Alone (Sum (Product p none) none))) none) none, r)
  unfolding expr chain
  expr_alone w inner r negated p lead read over =
      ap (λ (x : Read (Tree AnAnd × Tree (Many AnAnd))). x >>= made (λ y. Expr y.0 y.1)) (first_alone (and_ loose stamp full) (next is_or) (behind is_or (and_ loose stamp full)) w r (And (Not negated (Alone (Sum (Product p none) none))) none) (and_alone w inner r negated p lead read over) (not_or r over))

  -- a value is the operand alone
  pub lone_goes : (w inner r : List TokenKind) (negated : Bool) (p : Tree AnOperand) → perhaps is_not w ≡ Ok (negated, inner) → operand loose stamp full inner ≡ Ok (p, r) → next is_operator r ≡ false → plain loose stamp full w ≡ Ok (lone negated p, r)
  lone_goes w inner r negated p lead read over = ap as_plain (expr_alone w inner r negated p lead read over)

  -- and no value, where its first operand is none
  pub operand_fails : (w inner : List TokenKind) (negated : Bool) (e : Fault) → perhaps is_not w ≡ Ok (negated, inner) → Fails e (operand loose stamp full inner) → Fails e (plain loose stamp full w)
  unfolding expr and_ not_ compare sum product chain
  operand_fails w inner negated faults.Memory lead fault = tt
  operand_fails w inner negated (faults.Syntax left) lead fault = rw (lead, fault) refl

-- ---- a value that begins with its first operand

no_sign : (loose : Bool) (stamp : ℕ → ℕ) (full : Reader (Tree AFull)) (w : List TokenKind) → is_bare w ≡ true → full_step loose stamp full w ≡ plain loose stamp full w
unfolding full_step
no_sign loose stamp full [] is = refl
no_sign loose stamp full (Symbol sign.Minus ∷ w) is = absurd cc
no_sign loose stamp full (k ∷ w) is = refl

pub bare_full : (n m : ℕ) (stamp : ℕ → ℕ) (w : List TokenKind) → n ≡ m + 1 → is_bare w ≡ true → full_by n stamp w ≡ plain false stamp (full_by m stamp) w
unfolding full_by
bare_full n m stamp w e is =
    let next : n ≡ suc m = omega arith in
    ap (λ (k : ℕ). full_by k stamp w) next ∙ no_sign false stamp (full_by m stamp) w is
