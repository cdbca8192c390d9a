-- Each field at of a placed tree is the index of one of its tokens.
use Rattle.std.proofs.Common.{◌≡◌, ℕ, ℤ, zero, suc, ◌+◌, ◌<◌, ◌≤◌, List, [], ◌∷◌, ◌++◌, length, length-append, Bool, true, false, Option, Some, None, refl, arith}
use Rattle.std.specs.Prelude.{All}
use Rattle.std.proofs.lemmas.List.Elements.{All-nil, All-cons, All-append}
use Rattle.script_lex.specs.declared.token.TokenKind.{TokenKind}
use Rattle.script_lex.specs.declared.token.TokenKind.TheVariants.{Name, NameOpen, Keyword, Symbol}
use Rattle.script_lex.specs.declared.token.Keyword.TheVariants as word
use Rattle.script_lex.specs.declared.token.Symbol.TheVariants as sign
use Rattle.script_grammar.specs.Tree.{Sort, Tree, Many, AStmt, AnOperand, ASum, ACompare, AnAnd, AFull, none, more, Stmt, BindPart, DefPart, CallPart, IfPart, Bind, Def, Inner, Param, Labelled, Optional, Negative, Plain, Expr, And, Not, Alone, Compared, Sum, Added, Product, Multiplied, Constant, Quoted, Truth, Named, Called, Chosen, Nothing, Paren, Tuple, Listed, Braces, PlaceFormat, NamedCall, Arg, If, POr, PAnd, PNot, TrueAtom, FalseAtom, Mark, IntervalAtom, Grouped}
use Rattle.script_grammar.specs.Spelling.{spell, each_after, with_commas, token_if, label, literal_token, truth_token, op_token, wav_tokens, added_token, multiplied_token}
use Rattle.script_grammar.specs.Placed.{IsPlaced, IsBehind, IsApart}
use Rattle.script_grammar.specs.Ats.{ats}

pub some_token : (t : Tree AStmt) → 0 < length (spell t)
some_token (Stmt (BindPart (Bind at name value)) semicolon) = omega arith
some_token (Stmt (DefPart (Def at name params equals inner result)) semicolon) = omega arith
some_token (Stmt (CallPart (NamedCall at name args)) semicolon) = omega arith
some_token (Stmt (IfPart (If at c t e)) semicolon) = omega arith

-- so has each expression
operand_some : (t : Tree AnOperand) → 0 < length (spell t)
operand_some (Constant at value) = omega arith
operand_some (Quoted at text) = omega arith
operand_some (Truth at value) = omega arith
operand_some (Named at name) = omega arith
operand_some (Called (NamedCall at name args)) = omega arith
operand_some (Chosen (If at c t e)) = omega arith
operand_some (Nothing at) = omega arith
operand_some (Paren f) = omega arith
operand_some (Tuple at f g rest) = omega arith
operand_some (Listed at parts) = omega arith
operand_some (Braces at pred) = omega arith
operand_some (PlaceFormat at None) = omega arith
operand_some (PlaceFormat at (Some size)) = omega arith

sum_some : (t : Tree ASum) → 0 < length (spell t)
sum_some (Sum (Product p ms) rest) =
    let a = operand_some p in
    let n = length-append (spell p) (spell ms) in
    let m = length-append (spell p ++ spell ms) (spell rest) in
    omega (arith, a, n, m)

compare_some : (t : Tree ACompare) → 0 < length (spell t)
compare_some (Alone left) = sum_some left
compare_some (Compared left at o right) = let a = sum_some left in let n = length-append (spell left) (op_token o ∷ spell right) in omega (arith, a, n)

and_some : (t : Tree AnAnd) → 0 < length (spell t)
and_some (And (Not negated inner) rest) =
    let a = compare_some inner in
    let n = length-append (token_if (Keyword word.Not) negated) (spell inner) in
    let m = length-append (token_if (Keyword word.Not) negated ++ spell inner) (each_after (Keyword word.And) rest) in
    omega (arith, a, n, m)

full_some : (t : Tree AFull) → 0 < length (spell t)
full_some (Negative at number) = omega arith
full_some (Plain (Expr head rest)) = let a = and_some head in let n = length-append (spell head) (each_after (Keyword word.Or) rest) in omega (arith, a, n)

wav_some : (size : Option ℤ) → 0 < length (wav_tokens size)
wav_some None = omega arith
wav_some (Some size) = omega arith

-- numbers that are n from i on
abbrev pub Lie : ℕ → ℕ → List ℕ → Type 0
Lie i n xs = All (λ at. (i ≤ at) × (at < i + n)) xs

wider : (i n j m : ℕ) (xs : List ℕ) → j ≤ i → i + n ≤ j + m → Lie i n xs → Lie j m xs
wider i n j m xs low high all k d lt = let p = all k d lt in (omega (arith, p.0), omega (arith, p.1))

-- none, one, one before others, and some before others
no_one : (i n : ℕ) → Lie i n []
no_one i n = All-nil (λ at. (i ≤ at) × (at < i + n))

first : (i n at : ℕ) (xs : List ℕ) → i ≤ at → at < i + n → Lie i n xs → Lie i n (at ∷ xs)
first i n at xs low high rest = All-cons (λ at. (i ≤ at) × (at < i + n)) at xs (low, high) rest

alone : (i n at : ℕ) → i ≤ at → at < i + n → Lie i n (at ∷ [])
alone i n at low high = first i n at [] low high (no_one i n)

both : (i n : ℕ) (xs ys : List ℕ) → Lie i n xs → Lie i n ys → Lie i n (xs ++ ys)
both i n xs ys a b = All-append (λ at. (i ≤ at) × (at < i + n)) xs ys a b

mutual
  pub within : {s : Sort} (i : ℕ) (t : Tree s) → IsPlaced i t → Lie i (length (spell t)) (ats t)
  within i none p = no_one i 0
  within i (more x xs) p =
      let n = length-append (spell x) (spell xs) in
      both i (length (spell x ++ spell xs)) (ats x) (ats xs)
      (wider i (length (spell x)) i (length (spell x ++ spell xs)) (ats x) (omega arith) (omega arith) (within i x p.0))
      (wider (i + length (spell x)) (length (spell xs)) i (length (spell x ++ spell xs)) (ats xs) (omega arith) (omega arith) (within (i + length (spell x)) xs p.1))
  within i (Stmt part semicolon) p =
      let n0 = length-append (spell part) (token_if (Symbol sign.Semicolon) semicolon) in
      wider (i) (length (spell part)) i (length (spell (Stmt part semicolon))) (ats part) (omega (arith, n0)) (omega (arith, n0)) (within (i) part p)
  within i (BindPart b) p = within i b p
  within i (DefPart b) p = within i b p
  within i (CallPart b) p = within i b p
  within i (IfPart b) p = within i b p
  within i (Bind at name value) p =
      first i (length (spell (Bind at name value))) at (ats value) (omega (arith, p.0)) (omega (arith, p.0)) (wider (i + 2) (length (spell value)) i (length (spell (Bind at name value))) (ats value) (omega (arith)) (omega (arith)) (within (i + 2) value p.1))
  within i (Def at name params equals inner result) p =
      let n0 = length-append (with_commas params) (Symbol sign.CloseRound ∷ (token_if (Symbol sign.Assign) equals ++ (spell inner ++ (spell result ++ (Keyword word.End ∷ []))))) in
      let n1 = length-append (token_if (Symbol sign.Assign) equals) (spell inner ++ (spell result ++ (Keyword word.End ∷ []))) in
      let n2 = length-append (spell inner) (spell result ++ (Keyword word.End ∷ [])) in
      let n3 = length-append (spell result) (Keyword word.End ∷ []) in
      first i (length (spell (Def at name params equals inner result))) at (ats params ++ (ats inner ++ (ats result))) (omega (arith, p.0)) (omega (arith, p.0, n0, n1, n2, n3)) (both i (length (spell (Def at name params equals inner result))) (ats params) (ats inner ++ (ats result)) (wider (i + 2) (length (with_commas params)) i (length (spell (Def at name params equals inner result))) (ats params) (omega (arith, n0, n1, n2, n3)) (omega (arith, n0, n1, n2, n3)) (within_apart (i + 2) params p.1)) (both i (length (spell (Def at name params equals inner result))) (ats inner) (ats result) (wider (i + 3 + length (with_commas params) + length (token_if (Symbol sign.Assign) equals)) (length (spell inner)) i (length (spell (Def at name params equals inner result))) (ats inner) (omega (arith, n0, n1, n2, n3)) (omega (arith, n0, n1, n2, n3)) (within (i + 3 + length (with_commas params) + length (token_if (Symbol sign.Assign) equals)) inner p.2)) (wider (i + 3 + length (with_commas params) + length (token_if (Symbol sign.Assign) equals) + length (spell inner)) (length (spell result)) i (length (spell (Def at name params equals inner result))) (ats result) (omega (arith, n0, n1, n2, n3)) (omega (arith, n0, n1, n2, n3)) (within (i + 3 + length (with_commas params) + length (token_if (Symbol sign.Assign) equals) + length (spell inner)) result p.3))))
  within i (Inner bind semicolon) p =
      let n0 = length-append (spell bind) (token_if (Symbol sign.Semicolon) semicolon) in
      wider (i) (length (spell bind)) i (length (spell (Inner bind semicolon))) (ats bind) (omega (arith, n0)) (omega (arith, n0)) (within (i) bind p)
  within i (Param at name) p =
      alone i (length (spell (Param at name))) at (omega (arith, p)) (omega (arith, p))
  within i (Labelled at name) p =
      alone i (length (spell (Labelled at name))) at (omega (arith, p)) (omega (arith, p))
  within i (Optional at name value) p =
      first i (length (spell (Optional at name value))) at (ats value) (omega (arith, p.0)) (omega (arith, p.0)) (wider (i + 3) (length (spell value)) i (length (spell (Optional at name value))) (ats value) (omega (arith)) (omega (arith)) (within (i + 3) value p.1))
  within i (Negative at number) p =
      alone i (length (spell (Negative at number))) at (omega (arith, p)) (omega (arith, p))
  within i (Plain e) p = within i e p
  within i (Expr head rest) p =
      let n0 = length-append (spell head) (each_after (Keyword word.Or) rest) in
      both i (length (spell (Expr head rest))) (ats head) (ats rest) (wider (i) (length (spell head)) i (length (spell (Expr head rest))) (ats head) (omega (arith, n0)) (omega (arith, n0)) (within (i) head p.0)) (wider (i + length (spell head)) (length (each_after (Keyword word.Or) rest)) i (length (spell (Expr head rest))) (ats rest) (omega (arith, n0)) (omega (arith, n0)) (within_behind (Keyword word.Or) (i + length (spell head)) rest p.1))
  within i (And head rest) p =
      let n0 = length-append (spell head) (each_after (Keyword word.And) rest) in
      both i (length (spell (And head rest))) (ats head) (ats rest) (wider (i) (length (spell head)) i (length (spell (And head rest))) (ats head) (omega (arith, n0)) (omega (arith, n0)) (within (i) head p.0)) (wider (i + length (spell head)) (length (each_after (Keyword word.And) rest)) i (length (spell (And head rest))) (ats rest) (omega (arith, n0)) (omega (arith, n0)) (within_behind (Keyword word.And) (i + length (spell head)) rest p.1))
  within i (Not negated inner) p =
      let n0 = length-append (token_if (Keyword word.Not) negated) (spell inner) in
      wider (i + length (token_if (Keyword word.Not) negated)) (length (spell inner)) i (length (spell (Not negated inner))) (ats inner) (omega (arith, n0)) (omega (arith, n0)) (within (i + length (token_if (Keyword word.Not) negated)) inner p)
  within i (Alone left) p = within i left p
  within i (Compared left at o right) p =
      let n0 = length-append (spell left) (op_token o ∷ spell right) in
      first i (length (spell (Compared left at o right))) at (ats left ++ (ats right)) (omega (arith, p.1)) (omega (arith, p.1, n0)) (both i (length (spell (Compared left at o right))) (ats left) (ats right) (wider (i) (length (spell left)) i (length (spell (Compared left at o right))) (ats left) (omega (arith, n0)) (omega (arith, n0)) (within (i) left p.0)) (wider (i + length (spell left) + 1) (length (spell right)) i (length (spell (Compared left at o right))) (ats right) (omega (arith, n0)) (omega (arith, n0)) (within (i + length (spell left) + 1) right p.2)))
  within i (Sum head rest) p =
      let n0 = length-append (spell head) (spell rest) in
      both i (length (spell (Sum head rest))) (ats head) (ats rest) (wider (i) (length (spell head)) i (length (spell (Sum head rest))) (ats head) (omega (arith, n0)) (omega (arith, n0)) (within (i) head p.0)) (wider (i + length (spell head)) (length (spell rest)) i (length (spell (Sum head rest))) (ats rest) (omega (arith, n0)) (omega (arith, n0)) (within (i + length (spell head)) rest p.1))
  within i (Product head rest) p =
      let n0 = length-append (spell head) (spell rest) in
      both i (length (spell (Product head rest))) (ats head) (ats rest) (wider (i) (length (spell head)) i (length (spell (Product head rest))) (ats head) (omega (arith, n0)) (omega (arith, n0)) (within (i) head p.0)) (wider (i + length (spell head)) (length (spell rest)) i (length (spell (Product head rest))) (ats rest) (omega (arith, n0)) (omega (arith, n0)) (within (i + length (spell head)) rest p.1))
  within i (Added at minus product) p =
      first i (length (spell (Added at minus product))) at (ats product) (omega (arith, p.0)) (omega (arith, p.0)) (wider (i + 1) (length (spell product)) i (length (spell (Added at minus product))) (ats product) (omega (arith)) (omega (arith)) (within (i + 1) product p.1))
  within i (Multiplied at divide operand) p =
      first i (length (spell (Multiplied at divide operand))) at (ats operand) (omega (arith, p.0)) (omega (arith, p.0)) (wider (i + 1) (length (spell operand)) i (length (spell (Multiplied at divide operand))) (ats operand) (omega (arith)) (omega (arith)) (within (i + 1) operand p.1))
  within i (Constant at value) p =
      alone i (length (spell (Constant at value))) at (omega (arith, p)) (omega (arith, p))
  within i (Quoted at text) p =
      alone i (length (spell (Quoted at text))) at (omega (arith, p)) (omega (arith, p))
  within i (Truth at value) p =
      alone i (length (spell (Truth at value))) at (omega (arith, p)) (omega (arith, p))
  within i (Named at name) p =
      alone i (length (spell (Named at name))) at (omega (arith, p)) (omega (arith, p))
  within i (Nothing at) p =
      alone i (length (spell (Nothing at))) at (omega (arith, p)) (omega (arith, p))
  within i (Braces at pred) p =
      alone i (length (spell (Braces at pred))) at (omega (arith, p)) (omega (arith, p))
  within i (Called c) p = within i c p
  within i (Chosen c) p = within i c p
  within i (Paren f) p =
      let n0 = length-append (spell f) (Symbol sign.CloseRound ∷ []) in
      wider (i + 1) (length (spell f)) i (length (spell (Paren f))) (ats f) (omega (arith, n0)) (omega (arith, n0)) (within (i + 1) f p)
  within i (Tuple at f g rest) p =
      let n0 = length-append (spell f) (Symbol sign.Comma ∷ (spell g ++ (each_after (Symbol sign.Comma) rest ++ (Symbol sign.CloseRound ∷ [])))) in
      let n1 = length-append (spell g) (each_after (Symbol sign.Comma) rest ++ (Symbol sign.CloseRound ∷ [])) in
      let n2 = length-append (each_after (Symbol sign.Comma) rest) (Symbol sign.CloseRound ∷ []) in
      first i (length (spell (Tuple at f g rest))) at (ats f ++ (ats g ++ (ats rest))) (omega (arith, p.0)) (omega (arith, p.0, n0, n1, n2)) (both i (length (spell (Tuple at f g rest))) (ats f) (ats g ++ (ats rest)) (wider (i + 1) (length (spell f)) i (length (spell (Tuple at f g rest))) (ats f) (omega (arith, n0, n1, n2)) (omega (arith, n0, n1, n2)) (within (i + 1) f p.1)) (both i (length (spell (Tuple at f g rest))) (ats g) (ats rest) (wider (i + 1 + length (spell f) + 1) (length (spell g)) i (length (spell (Tuple at f g rest))) (ats g) (omega (arith, n0, n1, n2)) (omega (arith, n0, n1, n2)) (within (i + 1 + length (spell f) + 1) g p.2)) (wider (i + 1 + length (spell f) + 1 + length (spell g)) (length (each_after (Symbol sign.Comma) rest)) i (length (spell (Tuple at f g rest))) (ats rest) (omega (arith, n0, n1, n2)) (omega (arith, n0, n1, n2)) (within_behind (Symbol sign.Comma) (i + 1 + length (spell f) + 1 + length (spell g)) rest p.3))))
  within i (Listed at parts) p =
      let n0 = length-append (with_commas parts) (Symbol sign.CloseSquare ∷ []) in
      first i (length (spell (Listed at parts))) at (ats parts) (omega (arith, p.0)) (omega (arith, p.0, n0)) (wider (i + 1) (length (with_commas parts)) i (length (spell (Listed at parts))) (ats parts) (omega (arith, n0)) (omega (arith, n0)) (within_apart (i + 1) parts p.1))
  within i (PlaceFormat at size) p =
      let some = wav_some size in
      alone i (length (wav_tokens size)) at (omega (arith, p)) (omega (arith, p, some))
  within i (NamedCall at name args) p =
      let n0 = length-append (with_commas args) (Symbol sign.CloseRound ∷ []) in
      first i (length (spell (NamedCall at name args))) at (ats args) (omega (arith, p.0)) (omega (arith, p.0, n0)) (wider (i + 1) (length (with_commas args)) i (length (spell (NamedCall at name args))) (ats args) (omega (arith, n0)) (omega (arith, n0)) (within_apart (i + 1) args p.1))
  within i (Arg at name value) p =
      let n0 = length-append (label name) (spell value) in
      let some = full_some value in
      first i (length (spell (Arg at name value))) at (ats value) (omega (arith, p.0)) (omega (arith, p.0, n0, some)) (wider (i + length (label name)) (length (spell value)) i (length (spell (Arg at name value))) (ats value) (omega (arith, n0)) (omega (arith, n0)) (within (i + length (label name)) value p.1))
  within i (If at c t e) p =
      let n0 = length-append (spell c) (Keyword word.Then ∷ (spell t ++ (Keyword word.Else ∷ (spell e ++ (Keyword word.End ∷ []))))) in
      let n1 = length-append (spell t) (Keyword word.Else ∷ (spell e ++ (Keyword word.End ∷ []))) in
      let n2 = length-append (spell e) (Keyword word.End ∷ []) in
      first i (length (spell (If at c t e))) at (ats c ++ (ats t ++ (ats e))) (omega (arith, p.0)) (omega (arith, p.0, n0, n1, n2)) (both i (length (spell (If at c t e))) (ats c) (ats t ++ (ats e)) (wider (i + 1) (length (spell c)) i (length (spell (If at c t e))) (ats c) (omega (arith, n0, n1, n2)) (omega (arith, n0, n1, n2)) (within (i + 1) c p.1)) (both i (length (spell (If at c t e))) (ats t) (ats e) (wider (i + 2 + length (spell c)) (length (spell t)) i (length (spell (If at c t e))) (ats t) (omega (arith, n0, n1, n2)) (omega (arith, n0, n1, n2)) (within (i + 2 + length (spell c)) t p.2)) (wider (i + 3 + length (spell c) + length (spell t)) (length (spell e)) i (length (spell (If at c t e))) (ats e) (omega (arith, n0, n1, n2)) (omega (arith, n0, n1, n2)) (within (i + 3 + length (spell c) + length (spell t)) e p.3))))
  within i (POr head rest) p = no_one i (length (spell (POr head rest)))
  within i (PAnd head rest) p = no_one i (length (spell (PAnd head rest)))
  within i (PNot negated atom) p = no_one i (length (spell (PNot negated atom)))
  within i TrueAtom p = no_one i 1
  within i FalseAtom p = no_one i 1
  within i (Mark a) p = no_one i (length (spell (Mark a)))
  within i (IntervalAtom a b) p = no_one i (length (spell (IntervalAtom a b)))
  within i (Grouped g) p = no_one i (length (spell (Grouped g)))

  within_behind : {s : Sort} (k : TokenKind) (i : ℕ) (ts : Tree (Many s)) → IsBehind i ts → Lie i (length (each_after k ts)) (ats ts)
  within_behind k i none p = no_one i 0
  within_behind k i (more x xs) p =
      let n = length-append (spell x) (each_after k xs) in
      both i (length (each_after k (more x xs))) (ats x) (ats xs)
      (wider (i + 1) (length (spell x)) i (length (each_after k (more x xs))) (ats x) (omega arith) (omega arith) (within (i + 1) x p.0))
      (wider (i + 1 + length (spell x)) (length (each_after k xs)) i (length (each_after k (more x xs))) (ats xs) (omega arith) (omega arith) (within_behind k (i + 1 + length (spell x)) xs p.1))

  within_apart : {s : Sort} (i : ℕ) (ts : Tree (Many s)) → IsApart i ts → Lie i (length (with_commas ts)) (ats ts)
  within_apart i none p = no_one i 0
  within_apart i (more x xs) p =
      let n = length-append (spell x) (each_after (Symbol sign.Comma) xs) in
      both i (length (with_commas (more x xs))) (ats x) (ats xs)
      (wider i (length (spell x)) i (length (with_commas (more x xs))) (ats x) (omega arith) (omega arith) (within i x p.0))
      (wider (i + length (spell x)) (length (each_after (Symbol sign.Comma) xs)) i (length (with_commas (more x xs))) (ats xs) (omega arith) (omega arith) (within_behind (Symbol sign.Comma) (i + length (spell x)) xs p.1))
