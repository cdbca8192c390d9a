-- A tree whose fields at are right is determined by its bare tree, so no list of tokens has two placed scripts.
use Rattle.std.proofs.Common.{◌≡◌, ℕ, ◌+◌, List, length, refl, sym, ap, ap₂, ◌∙◌}
use Rattle.script_lex.specs.declared.token.TokenKind.{TokenKind}
use Rattle.script_lex.specs.declared.token.TokenKind.TheVariants.{Keyword, Symbol}
use Rattle.script_lex.specs.declared.token.Keyword.TheVariants as word
use Rattle.script_lex.specs.declared.token.Symbol.TheVariants as sign
use Rattle.script_grammar.specs.Tree.{Sort, APOr, APAnd, APNot, APAtom, AFull, Tree, Many, none, more, Stmt, BindPart, DefPart, CallPart, IfPart, Bind, Def, Inner, Param, Labelled, Optional, Negative, Plain, Expr, And, Not, Alone, Compared, Sum, Added, Product, Multiplied, Constant, Quoted, Truth, Named, Called, Chosen, Nothing, Paren, Tuple, Listed, Braces, PlaceFormat, NamedCall, Arg, If, POr, PAnd, PNot, TrueAtom, FalseAtom, Mark, IntervalAtom, Grouped, Script}
use Rattle.script_grammar.specs.Spelling.{spell, each_after, with_commas, token_if, label, spelling}
use Rattle.script_grammar.specs.Bare.{bare}
use Rattle.script_grammar.specs.Placed.{IsPlaced, IsBehind, IsApart}
use Rattle.script_grammar.proofs.ScriptRead.{one_script}

-- ---- a bare tree is spelled as the tree

mutual
  spell_bare : {s : Sort} (t : Tree s) → spell (bare t) ≡ spell t
  spell_bare none = refl
  spell_bare (more x xs) = rw (spell_bare x, spell_bare xs) refl
  spell_bare (Stmt part semicolon) = rw (spell_bare part) refl
  spell_bare (BindPart b) = spell_bare b
  spell_bare (DefPart d) = spell_bare d
  spell_bare (CallPart c) = spell_bare c
  spell_bare (IfPart c) = spell_bare c
  spell_bare (Bind at name value) = rw (spell_bare value) refl
  spell_bare (Def at name params equals inner result) = rw (commas_bare params, spell_bare inner, spell_bare result) refl
  spell_bare (Inner bind semicolon) = rw (spell_bare bind) refl
  spell_bare (Param at name) = refl
  spell_bare (Labelled at name) = refl
  spell_bare (Optional at name value) = rw (spell_bare value) refl
  spell_bare (Negative at number) = refl
  spell_bare (Plain e) = spell_bare e
  spell_bare (Expr first rest) = rw (spell_bare first, behind_bare (Keyword word.Or) rest) refl
  spell_bare (And first rest) = rw (spell_bare first, behind_bare (Keyword word.And) rest) refl
  spell_bare (Not negated inner) = rw (spell_bare inner) refl
  spell_bare (Alone left) = spell_bare left
  spell_bare (Compared left at o right) = rw (spell_bare left, spell_bare right) refl
  spell_bare (Sum first rest) = rw (spell_bare first, spell_bare rest) refl
  spell_bare (Added at minus product) = rw (spell_bare product) refl
  spell_bare (Product first rest) = rw (spell_bare first, spell_bare rest) refl
  spell_bare (Multiplied at divide operand) = rw (spell_bare operand) refl
  spell_bare (Constant at value) = refl
  spell_bare (Quoted at text) = refl
  spell_bare (Truth at value) = refl
  spell_bare (Named at name) = refl
  spell_bare (Called c) = spell_bare c
  spell_bare (Chosen c) = spell_bare c
  spell_bare (Nothing at) = refl
  spell_bare (Paren f) = rw (spell_bare f) refl
  spell_bare (Tuple at f g rest) = rw (spell_bare f, spell_bare g, behind_bare (Symbol sign.Comma) rest) refl
  spell_bare (Listed at parts) = rw (commas_bare parts) refl
  spell_bare (Braces at pred) = rw (spell_bare pred) refl
  spell_bare (PlaceFormat at size) = refl
  spell_bare (NamedCall at name args) = rw (commas_bare args) refl
  spell_bare (Arg at name value) = rw (spell_bare value) refl
  spell_bare (If at c t e) = rw (spell_bare c, spell_bare t, spell_bare e) refl
  spell_bare (POr first rest) = rw (spell_bare first, behind_bare (Keyword word.Or) rest) refl
  spell_bare (PAnd first rest) = rw (spell_bare first, behind_bare (Keyword word.And) rest) refl
  spell_bare (PNot negated atom) = rw (spell_bare atom) refl
  spell_bare TrueAtom = refl
  spell_bare FalseAtom = refl
  spell_bare (Mark a) = refl
  spell_bare (IntervalAtom a b) = refl
  spell_bare (Grouped p) = rw (spell_bare p) refl

  behind_bare : {s : Sort} (k : TokenKind) (ts : Tree (Many s)) → each_after k (bare ts) ≡ each_after k ts
  behind_bare k none = refl
  behind_bare k (more x xs) = rw (spell_bare x, behind_bare k xs) refl

  commas_bare : {s : Sort} (ts : Tree (Many s)) → with_commas (bare ts) ≡ with_commas ts
  commas_bare none = refl
  commas_bare (more x xs) = rw (spell_bare x, behind_bare (Symbol sign.Comma) xs) refl

-- ---- a predicate has no field at

abbrev IsPredicate : Sort → Type 0
IsPredicate APOr = Unit {0}
IsPredicate APAnd = Unit {0}
IsPredicate APNot = Unit {0}
IsPredicate APAtom = Unit {0}
IsPredicate (Many s) = IsPredicate s
IsPredicate s = ⊥

predicate_bare : {s : Sort} (t : Tree s) → IsPredicate s → bare t ≡ t
predicate_bare none h = refl
predicate_bare (more x xs) h = rw (predicate_bare x h, predicate_bare xs h) refl
predicate_bare (POr first rest) h = rw (predicate_bare first h, predicate_bare rest h) refl
predicate_bare (PAnd first rest) h = rw (predicate_bare first h, predicate_bare rest h) refl
predicate_bare (PNot negated atom) h = rw (predicate_bare atom h) refl
predicate_bare TrueAtom h = refl
predicate_bare FalseAtom h = refl
predicate_bare (Mark a) h = refl
predicate_bare (IntervalAtom a b) h = refl
predicate_bare (Grouped p) h = rw (predicate_bare p h) refl
predicate_bare t h = absurd h

-- ---- the same tree with each field at as IsPlaced wants it

abbrev mutual
  settle : {s : Sort} → ℕ → Tree s → Tree s
  settle i none = none
  settle i (more x xs) = more (settle i x) (settle (i + length (spell x)) xs)
  settle i (Stmt part semicolon) = Stmt (settle i part) semicolon
  settle i (BindPart b) = BindPart (settle i b)
  settle i (DefPart d) = DefPart (settle i d)
  settle i (CallPart c) = CallPart (settle i c)
  settle i (IfPart c) = IfPart (settle i c)
  settle i (Bind at name value) = Bind i name (settle (i + 2) value)
  settle i (Def at name params equals inner result) =
      Def (i + 1) name (settle_apart (i + 2) params) equals
      (settle (i + 3 + length (with_commas params) + length (token_if (Symbol sign.Assign) equals)) inner)
      (settle (i + 3 + length (with_commas params) + length (token_if (Symbol sign.Assign) equals) + length (spell inner)) result)
  settle i (Inner bind semicolon) = Inner (settle i bind) semicolon
  settle i (Param at name) = Param i name
  settle i (Labelled at name) = Labelled (i + 1) name
  settle i (Optional at name value) = Optional (i + 1) name (settle (i + 3) value)
  settle i (Negative at number) = Negative i number
  settle i (Plain e) = Plain (settle i e)
  settle i (Expr first rest) = Expr (settle i first) (settle_behind (i + length (spell first)) rest)
  settle i (And first rest) = And (settle i first) (settle_behind (i + length (spell first)) rest)
  settle i (Not negated inner) = Not negated (settle (i + length (token_if (Keyword word.Not) negated)) inner)
  settle i (Alone left) = Alone (settle i left)
  settle i (Compared left at o right) = Compared (settle i left) (i + length (spell left)) o (settle (i + length (spell left) + 1) right)
  settle i (Sum first rest) = Sum (settle i first) (settle (i + length (spell first)) rest)
  settle i (Added at minus product) = Added i minus (settle (i + 1) product)
  settle i (Product first rest) = Product (settle i first) (settle (i + length (spell first)) rest)
  settle i (Multiplied at divide operand) = Multiplied i divide (settle (i + 1) operand)
  settle i (Constant at value) = Constant i value
  settle i (Quoted at text) = Quoted i text
  settle i (Truth at value) = Truth i value
  settle i (Named at name) = Named i name
  settle i (Called c) = Called (settle i c)
  settle i (Chosen c) = Chosen (settle i c)
  settle i (Nothing at) = Nothing i
  settle i (Paren f) = Paren (settle (i + 1) f)
  settle i (Tuple at f g rest) =
      Tuple i (settle (i + 1) f) (settle (i + 1 + length (spell f) + 1) g) (settle_behind (i + 1 + length (spell f) + 1 + length (spell g)) rest)
  settle i (Listed at parts) = Listed i (settle_apart (i + 1) parts)
  settle i (Braces at pred) = Braces i pred
  settle i (PlaceFormat at size) = PlaceFormat i size
  settle i (NamedCall at name args) = NamedCall i name (settle_apart (i + 1) args)
  settle i (Arg at name value) = Arg i name (settle (i + length (label name)) value)
  settle i (If at c t e) = If i (settle (i + 1) c) (settle (i + 2 + length (spell c)) t) (settle (i + 3 + length (spell c) + length (spell t)) e)
  settle i t = t

  settle_behind : {s : Sort} → ℕ → Tree (Many s) → Tree (Many s)
  settle_behind i none = none
  settle_behind i (more x xs) = more (settle (i + 1) x) (settle_behind (i + 1 + length (spell x)) xs)

  settle_apart : {s : Sort} → ℕ → Tree (Many s) → Tree (Many s)
  settle_apart i none = none
  settle_apart i (more x xs) = more (settle i x) (settle_behind (i + length (spell x)) xs)

-- ---- a placed tree is its bare tree, settled

length_bare : {s : Sort} (i : ℕ) (t : Tree s) → i + length (spell (bare t)) ≡ i + length (spell t)
length_bare i t = ap (λ (w : List TokenKind). i + length w) (spell_bare t)

at_place : {s : Sort} {i j : ℕ} → i ≡ j → (t : Tree s) → settle i (bare t) ≡ settle j (bare t)
at_place e t = ap (λ (k : ℕ). settle k (bare t)) e

behind_at : {s : Sort} {i j : ℕ} → i ≡ j → (ts : Tree (Many s)) → settle_behind i (bare ts) ≡ settle_behind j (bare ts)
behind_at e ts = ap (λ (k : ℕ). settle_behind k (bare ts)) e

tuple_same : {i j : ℕ} {e f g h : Tree AFull} {xs ys : Tree (Many AFull)} → j ≡ i → e ≡ f → g ≡ h → xs ≡ ys → Tuple i e g xs ≡ Tuple j f h ys
tuple_same p a b c = rw (p, a, b, c) refl

mutual
  settles : {s : Sort} (i : ℕ) (t : Tree s) → IsPlaced i t → settle i (bare t) ≡ t
  settles i none p = refl
  settles i (more x xs) p = rw (spell_bare x, settles i x p.0, settles (i + length (spell x)) xs p.1) refl
  settles i (Stmt part semicolon) p = rw (settles i part p) refl
  settles i (BindPart b) p = rw (settles i b p) refl
  settles i (DefPart d) p = rw (settles i d p) refl
  settles i (CallPart c) p = rw (settles i c p) refl
  settles i (IfPart c) p = rw (settles i c p) refl
  settles i (Bind at name value) p = rw (p.0, settles (i + 2) value p.1) refl
  settles i (Def at name params equals inner result) p =
      let start = i + 3 + length (with_commas params) + length (token_if (Symbol sign.Assign) equals) in
      rw (p.0, commas_bare params, spell_bare inner, settles_apart (i + 2) params p.1, settles start inner p.2, settles (start + length (spell inner)) result p.3) refl
  settles i (Inner bind semicolon) p = rw (settles i bind p) refl
  settles i (Param at name) p = rw p refl
  settles i (Labelled at name) p = rw p refl
  settles i (Optional at name value) p = rw (p.0, settles (i + 3) value p.1) refl
  settles i (Negative at number) p = rw p refl
  settles i (Plain e) p = rw (settles i e p) refl
  settles i (Expr first rest) p = ap₂ Expr (settles i first p.0) (behind_at (length_bare i first) rest ∙ settles_behind (i + length (spell first)) rest p.1)
  settles i (And first rest) p = ap₂ And (settles i first p.0) (behind_at (length_bare i first) rest ∙ settles_behind (i + length (spell first)) rest p.1)
  settles i (Not negated inner) p = rw (settles (i + length (token_if (Keyword word.Not) negated)) inner p) refl
  settles i (Alone left) p = rw (settles i left p) refl
  settles i (Compared left at o right) p = rw (spell_bare left, p.1, settles i left p.0, settles (i + length (spell left) + 1) right p.2) refl
  settles i (Sum first rest) p = rw (spell_bare first, settles i first p.0, settles (i + length (spell first)) rest p.1) refl
  settles i (Added at minus product) p = rw (p.0, settles (i + 1) product p.1) refl
  settles i (Product first rest) p = rw (spell_bare first, settles i first p.0, settles (i + length (spell first)) rest p.1) refl
  settles i (Multiplied at divide operand) p = rw (p.0, settles (i + 1) operand p.1) refl
  settles i (Constant at value) p = rw p refl
  settles i (Quoted at text) p = rw p refl
  settles i (Truth at value) p = rw p refl
  settles i (Named at name) p = rw p refl
  settles i (Called c) p = rw (settles i c p) refl
  settles i (Chosen c) p = rw (settles i c p) refl
  settles i (Nothing at) p = rw p refl
  settles i (Paren f) p = rw (settles (i + 1) f p) refl
  settles i (Tuple at f g rest) p =
      let second = i + 1 + length (spell f) + 1 in
      let second_bare = i + 1 + length (spell (bare f)) + 1 in
      let third : second_bare + length (spell (bare g)) ≡ second + length (spell g) = rw (spell_bare f, spell_bare g) refl in
      tuple_same p.0 (settles (i + 1) f p.1) (at_place (ap (λ (k : ℕ). k + 1) (length_bare (i + 1) f)) g ∙ settles second g p.2) (behind_at third rest ∙ settles_behind (second + length (spell g)) rest p.3)
  settles i (Listed at parts) p = rw (p.0, settles_apart (i + 1) parts p.1) refl
  settles i (Braces at pred) p = rw (p, predicate_bare pred tt) refl
  settles i (PlaceFormat at size) p = rw p refl
  settles i (NamedCall at name args) p = rw (p.0, settles_apart (i + 1) args p.1) refl
  settles i (Arg at name value) p = rw (p.0, settles (i + length (label name)) value p.1) refl
  settles i (If at c t e) p =
      rw (p.0, spell_bare c, spell_bare t, settles (i + 1) c p.1, settles (i + 2 + length (spell c)) t p.2, settles (i + 3 + length (spell c) + length (spell t)) e p.3) refl
  settles i (POr first rest) p = predicate_bare (POr first rest) tt
  settles i (PAnd first rest) p = predicate_bare (PAnd first rest) tt
  settles i (PNot negated atom) p = predicate_bare (PNot negated atom) tt
  settles i TrueAtom p = refl
  settles i FalseAtom p = refl
  settles i (Mark a) p = refl
  settles i (IntervalAtom a b) p = refl
  settles i (Grouped q) p = predicate_bare (Grouped q) tt

  settles_behind : {s : Sort} (i : ℕ) (ts : Tree (Many s)) → IsBehind i ts → settle_behind i (bare ts) ≡ ts
  settles_behind i none p = refl
  settles_behind i (more x xs) p = ap₂ more (settles (i + 1) x p.0) (behind_at (length_bare (i + 1) x) xs ∙ settles_behind (i + 1 + length (spell x)) xs p.1)

  settles_apart : {s : Sort} (i : ℕ) (ts : Tree (Many s)) → IsApart i ts → settle_apart i (bare ts) ≡ ts
  settles_apart i none p = refl
  settles_apart i (more x xs) p = ap₂ more (settles i x p.0) (behind_at (length_bare i x) xs ∙ settles_behind (i + length (spell x)) xs p.1)

-- ---- scripts

one_placed : {s : Sort} (i : ℕ) (a b : Tree s) → IsPlaced i a → IsPlaced i b → bare a ≡ bare b → a ≡ b
one_placed i a b p q e = sym (settles i a p) ∙ ap (settle i) e ∙ settles i b q

pub one_placed_script : (a b : Script) → IsPlaced 0 a → IsPlaced 0 b → spelling a ≡ spelling b → a ≡ b
one_placed_script a b p q e = one_placed 0 a b p q (one_script a b e)
