-- The tokens of the names that a placed tree uses rise, within the tree.
use Rattle.std.proofs.Common.{ℕ, ◌+◌, ◌≤◌, List, [], ◌∷◌, ◌++◌, length, length-append, arith}
use Rattle.script_lex.specs.declared.token.TokenKind.{TokenKind}
use Rattle.script_lex.specs.declared.token.TokenKind.TheVariants.{Keyword, Symbol}
use Rattle.script_lex.specs.declared.token.Keyword.TheVariants as word
use Rattle.script_lex.specs.declared.token.Symbol.TheVariants as sign
use Rattle.script_grammar.specs.Tree.{Sort, Tree, Many, AnInner, none, more, Stmt, BindPart, DefPart, CallPart, IfPart, Bind, Def, Inner, Param, Labelled, Optional, Negative, Plain, Expr, And, Not, Alone, Compared, Sum, Added, Product, Multiplied, Constant, Quoted, Truth, Named, Called, Chosen, Nothing, Paren, Tuple, Listed, Braces, PlaceFormat, NamedCall, Arg, If, POr, PAnd, PNot, TrueAtom, FalseAtom, Mark, IntervalAtom, Grouped}
use Rattle.script_grammar.specs.Spelling.{spell, each_after, with_commas, token_if, label, op_token}
use Rattle.script_grammar.specs.Placed.{IsPlaced, IsBehind, IsApart}
use Rattle.typing_rules.specs.Scoping.{Name, Scope, inner_names, names, with_inner, with_inners, with_params}

-- tokens that rise from the first number on, and below the second
abbrev pub RiseTo : ℕ → ℕ → List Name → Type 0
RiseTo lo hi [] = lo ≤ hi
RiseTo lo hi (n ∷ ns) = (lo ≤ n.at) × RiseTo (n.at + 1) hi ns

pub widen : (lo l hi h : ℕ) (ns : List Name) → lo ≤ l → hi ≤ h → RiseTo l hi ns → RiseTo lo h ns
widen lo l hi h [] a b r = omega (arith, a, b, r)
widen lo l hi h (n ∷ ns) a b r = (omega (arith, a, r.0), widen (n.at + 1) (n.at + 1) hi h ns (omega arith) b r.1)

pub join : (lo m k hi h : ℕ) (ns ms : List Name) → m ≤ k → hi ≤ h → RiseTo lo m ns → RiseTo k hi ms → RiseTo lo h (ns ++ ms)
join lo m k hi h [] ms a b r q = widen lo k hi h ms (omega (arith, a, r)) b q
join lo m k hi h (n ∷ ns) ms a b r q = (r.0, join (n.at + 1) m k hi h ns ms a b r.1 q)

mutual
  rise : {s : Sort} (sc : Scope) (i : ℕ) (t : Tree s) → IsPlaced i t → RiseTo i (i + length (spell t)) (names sc t)
  rise sc i none p = omega arith
  rise sc i (more x xs) p =
      let n = length-append (spell x) (spell xs) in
      join i (i + length (spell x)) (i + length (spell x)) (i + length (spell x) + length (spell xs)) (i + length (spell x ++ spell xs)) (names sc x) (names sc xs) (omega arith) (omega (arith, n)) (rise sc i x p.0) (rise sc (i + length (spell x)) xs p.1)
  rise sc i (Stmt part semicolon) p =
      let n = length-append (spell part) (token_if (Symbol sign.Semicolon) semicolon) in
      widen i i (i + length (spell part)) (i + length (spell part ++ token_if (Symbol sign.Semicolon) semicolon)) (names sc part) (omega arith) (omega (arith, n)) (rise sc i part p)
  rise sc i (BindPart b) p = rise sc i b p
  rise sc i (DefPart b) p = rise sc i b p
  rise sc i (CallPart b) p = rise sc i b p
  rise sc i (IfPart b) p = rise sc i b p
  rise sc i (Bind at name value) p = widen i (i + 2) (i + 2 + length (spell value)) (i + length (spell (Bind at name value))) (names sc value) (omega arith) (omega arith) (rise sc (i + 2) value p.1)
  rise sc i (Def at name params equals inner result) p =
      let n0 = length-append (with_commas params) (Symbol sign.CloseRound ∷ (token_if (Symbol sign.Assign) equals ++ (spell inner ++ (spell result ++ (Keyword word.End ∷ []))))) in
      let n1 = length-append (token_if (Symbol sign.Assign) equals) (spell inner ++ (spell result ++ (Keyword word.End ∷ []))) in
      let n2 = length-append (spell inner) (spell result ++ (Keyword word.End ∷ [])) in
      let n3 = length-append (spell result) (Keyword word.End ∷ []) in
      let j = i + 3 + length (with_commas params) + length (token_if (Symbol sign.Assign) equals) in
      let k = j + length (spell inner) in
      join i k k (k + length (spell result)) (i + length (spell (Def at name params equals inner result))) (names sc params ++ inner_names (with_params params sc) inner) (names (with_inners inner (with_params params sc)) result) (omega arith) (omega (arith, n0, n1, n2, n3))
      (join i (i + 2 + length (with_commas params)) j k k (names sc params) (inner_names (with_params params sc) inner) (omega arith) (omega arith)
      (widen i (i + 2) (i + 2 + length (with_commas params)) (i + 2 + length (with_commas params)) (names sc params) (omega arith) (omega arith) (rise_apart sc (i + 2) params p.1))
      (rise_inners (with_params params sc) j inner p.2))
      (rise (with_inners inner (with_params params sc)) k result p.3)
  rise sc i (Inner bind semicolon) p =
      let n = length-append (spell bind) (token_if (Symbol sign.Semicolon) semicolon) in
      widen i i (i + length (spell bind)) (i + length (spell (Inner bind semicolon))) (names sc bind) (omega arith) (omega (arith, n)) (rise sc i bind p)
  rise sc i (Param at name) p = omega arith
  rise sc i (Labelled at name) p = omega arith
  rise sc i (Optional at name value) p = widen i (i + 3) (i + 3 + length (spell value)) (i + length (spell (Optional at name value))) (names sc value) (omega arith) (omega arith) (rise sc (i + 3) value p.1)
  rise sc i (Negative at number) p = omega arith
  rise sc i (Plain e) p = rise sc i e p
  rise sc i (Expr head rest) p =
      let n = length-append (spell head) (each_after (Keyword word.Or) rest) in
      join i (i + length (spell head)) (i + length (spell head)) (i + length (spell head) + length (each_after (Keyword word.Or) rest)) (i + length (spell head ++ each_after (Keyword word.Or) rest)) (names sc head) (names sc rest) (omega arith) (omega (arith, n)) (rise sc i head p.0) (rise_behind sc (Keyword word.Or) (i + length (spell head)) rest p.1)
  rise sc i (And head rest) p =
      let n = length-append (spell head) (each_after (Keyword word.And) rest) in
      join i (i + length (spell head)) (i + length (spell head)) (i + length (spell head) + length (each_after (Keyword word.And) rest)) (i + length (spell head ++ each_after (Keyword word.And) rest)) (names sc head) (names sc rest) (omega arith) (omega (arith, n)) (rise sc i head p.0) (rise_behind sc (Keyword word.And) (i + length (spell head)) rest p.1)
  rise sc i (Not negated inner) p =
      let n = length-append (token_if (Keyword word.Not) negated) (spell inner) in
      let j = i + length (token_if (Keyword word.Not) negated) in
      widen i j (j + length (spell inner)) (i + length (spell (Not negated inner))) (names sc inner) (omega arith) (omega (arith, n)) (rise sc j inner p)
  rise sc i (Alone left) p = rise sc i left p
  rise sc i (Compared left at o right) p =
      let n = length-append (spell left) (op_token o ∷ spell right) in
      let j = i + length (spell left) in
      join i j (j + 1) (j + 1 + length (spell right)) (i + length (spell left ++ (op_token o ∷ spell right))) (names sc left) (names sc right) (omega arith) (omega (arith, n)) (rise sc i left p.0) (rise sc (j + 1) right p.2)
  rise sc i (Sum head rest) p =
      let n = length-append (spell head) (spell rest) in
      join i (i + length (spell head)) (i + length (spell head)) (i + length (spell head) + length (spell rest)) (i + length (spell head ++ spell rest)) (names sc head) (names sc rest) (omega arith) (omega (arith, n)) (rise sc i head p.0) (rise sc (i + length (spell head)) rest p.1)
  rise sc i (Product head rest) p =
      let n = length-append (spell head) (spell rest) in
      join i (i + length (spell head)) (i + length (spell head)) (i + length (spell head) + length (spell rest)) (i + length (spell head ++ spell rest)) (names sc head) (names sc rest) (omega arith) (omega (arith, n)) (rise sc i head p.0) (rise sc (i + length (spell head)) rest p.1)
  rise sc i (Added at minus product) p = widen i (i + 1) (i + 1 + length (spell product)) (i + length (spell (Added at minus product))) (names sc product) (omega arith) (omega arith) (rise sc (i + 1) product p.1)
  rise sc i (Multiplied at divide operand) p = widen i (i + 1) (i + 1 + length (spell operand)) (i + length (spell (Multiplied at divide operand))) (names sc operand) (omega arith) (omega arith) (rise sc (i + 1) operand p.1)
  rise sc i (Constant at value) p = omega arith
  rise sc i (Quoted at text) p = omega arith
  rise sc i (Truth at value) p = omega arith
  rise sc i (Named at name) p = (omega (arith, p), omega (arith, p))
  rise sc i (Nothing at) p = omega arith
  rise sc i (Braces at pred) p = omega arith
  rise sc i (Called c) p = rise sc i c p
  rise sc i (Chosen c) p = rise sc i c p
  rise sc i (Paren f) p =
      let n = length-append (spell f) (Symbol sign.CloseRound ∷ []) in
      widen i (i + 1) (i + 1 + length (spell f)) (i + length (spell (Paren f))) (names sc f) (omega arith) (omega (arith, n)) (rise sc (i + 1) f p)
  rise sc i (Tuple at f g rest) p =
      let n0 = length-append (spell f) (Symbol sign.Comma ∷ (spell g ++ (each_after (Symbol sign.Comma) rest ++ (Symbol sign.CloseRound ∷ [])))) in
      let n1 = length-append (spell g) (each_after (Symbol sign.Comma) rest ++ (Symbol sign.CloseRound ∷ [])) in
      let n2 = length-append (each_after (Symbol sign.Comma) rest) (Symbol sign.CloseRound ∷ []) in
      let j = i + 1 + length (spell f) in
      let k = j + 1 + length (spell g) in
      join i k k (k + length (each_after (Symbol sign.Comma) rest)) (i + length (spell (Tuple at f g rest))) (names sc f ++ names sc g) (names sc rest) (omega arith) (omega (arith, n0, n1, n2))
      (join i j (j + 1) k k (names sc f) (names sc g) (omega arith) (omega arith) (widen i (i + 1) j j (names sc f) (omega arith) (omega arith) (rise sc (i + 1) f p.1)) (rise sc (j + 1) g p.2))
      (rise_behind sc (Symbol sign.Comma) k rest p.3)
  rise sc i (Listed at parts) p =
      let n = length-append (with_commas parts) (Symbol sign.CloseSquare ∷ []) in
      widen i (i + 1) (i + 1 + length (with_commas parts)) (i + length (spell (Listed at parts))) (names sc parts) (omega arith) (omega (arith, n)) (rise_apart sc (i + 1) parts p.1)
  rise sc i (PlaceFormat at size) p = omega arith
  rise sc i (NamedCall at name args) p =
      let n = length-append (with_commas args) (Symbol sign.CloseRound ∷ []) in
      (omega (arith, p.0), widen (at + 1) (i + 1) (i + 1 + length (with_commas args)) (i + length (spell (NamedCall at name args))) (names sc args) (omega (arith, p.0)) (omega (arith, n)) (rise_apart sc (i + 1) args p.1))
  rise sc i (Arg at name value) p =
      let n = length-append (label name) (spell value) in
      let j = i + length (label name) in
      widen i j (j + length (spell value)) (i + length (spell (Arg at name value))) (names sc value) (omega arith) (omega (arith, n)) (rise sc j value p.1)
  rise sc i (If at c t e) p =
      let n0 = length-append (spell c) (Keyword word.Then ∷ (spell t ++ (Keyword word.Else ∷ (spell e ++ (Keyword word.End ∷ []))))) in
      let n1 = length-append (spell t) (Keyword word.Else ∷ (spell e ++ (Keyword word.End ∷ []))) in
      let n2 = length-append (spell e) (Keyword word.End ∷ []) in
      let j = i + 2 + length (spell c) in
      let k = i + 3 + length (spell c) + length (spell t) in
      join i k k (k + length (spell e)) (i + length (spell (If at c t e))) (names sc c ++ names sc t) (names sc e) (omega arith) (omega (arith, n0, n1, n2))
      (join i (i + 1 + length (spell c)) j (j + length (spell t)) k (names sc c) (names sc t) (omega arith) (omega arith) (widen i (i + 1) (i + 1 + length (spell c)) (i + 1 + length (spell c)) (names sc c) (omega arith) (omega arith) (rise sc (i + 1) c p.1)) (rise sc j t p.2))
      (rise sc k e p.3)
  rise sc i (POr head rest) p = omega arith
  rise sc i (PAnd head rest) p = omega arith
  rise sc i (PNot negated atom) p = omega arith
  rise sc i TrueAtom p = omega arith
  rise sc i FalseAtom p = omega arith
  rise sc i (Mark a) p = omega arith
  rise sc i (IntervalAtom a b) p = omega arith
  rise sc i (Grouped g) p = omega arith

  rise_behind : {s : Sort} (sc : Scope) (k : TokenKind) (i : ℕ) (ts : Tree (Many s)) → IsBehind i ts → RiseTo i (i + length (each_after k ts)) (names sc ts)
  rise_behind sc k i none p = omega arith
  rise_behind sc k i (more x xs) p =
      let n = length-append (spell x) (each_after k xs) in
      let j = i + 1 + length (spell x) in
      join i j j (j + length (each_after k xs)) (i + length (each_after k (more x xs))) (names sc x) (names sc xs) (omega arith) (omega (arith, n)) (widen i (i + 1) j j (names sc x) (omega arith) (omega arith) (rise sc (i + 1) x p.0)) (rise_behind sc k j xs p.1)

  rise_apart : {s : Sort} (sc : Scope) (i : ℕ) (ts : Tree (Many s)) → IsApart i ts → RiseTo i (i + length (with_commas ts)) (names sc ts)
  rise_apart sc i none p = omega arith
  rise_apart sc i (more x xs) p =
      let n = length-append (spell x) (each_after (Symbol sign.Comma) xs) in
      let j = i + length (spell x) in
      join i j j (j + length (each_after (Symbol sign.Comma) xs)) (i + length (with_commas (more x xs))) (names sc x) (names sc xs) (omega arith) (omega (arith, n)) (rise sc i x p.0) (rise_behind sc (Symbol sign.Comma) j xs p.1)

  rise_inners : (sc : Scope) (i : ℕ) (ts : Tree (Many AnInner)) → IsPlaced i ts → RiseTo i (i + length (spell ts)) (inner_names sc ts)
  rise_inners sc i none p = omega arith
  rise_inners sc i (more x xs) p =
      let n = length-append (spell x) (spell xs) in
      let j = i + length (spell x) in
      join i j j (j + length (spell xs)) (i + length (spell x ++ spell xs)) (names sc x) (inner_names (with_inner x sc) xs) (omega arith) (omega (arith, n)) (rise sc i x p.0) (rise_inners (with_inner x sc) j xs p.1)

pub record NamesRise (sc : Scope) (i : ℕ) {s : Sort} (t : Tree s) : Type 0 where
  pub rise : RiseTo i (i + length (spell t)) (names sc t)

pub names_rise : {s : Sort} (sc : Scope) (t : Tree s) (i : ℕ) → IsPlaced i t → NamesRise sc i t
names_rise sc t i p = record { rise = rise sc i t p }
