-- The tokens that a tree uses are those of its names, in whatever scope.
use Rattle.std.proofs.Common.{◌≡◌, ◌∙◌, sym, ap, ap₂, refl, ℕ, List, ◌∷◌, ◌++◌, map}
use Rattle.std.proofs.lemmas.List.{map-append}
use Rattle.script_grammar.specs.Tree.{Sort, Tree, Many, AnInner, none, more, Stmt, BindPart, DefPart, CallPart, IfPart, Bind, Def, Inner, Param, Labelled, Optional, Negative, Plain, Expr, And, Not, Alone, Compared, Sum, Added, Product, Multiplied, Constant, Quoted, Truth, Named, Called, Chosen, Nothing, Paren, Tuple, Listed, Braces, PlaceFormat, NamedCall, Arg, If, POr, PAnd, PNot, TrueAtom, FalseAtom, Mark, IntervalAtom, Grouped}
use Rattle.typing_rules.specs.Scoping.{Name, Scope, inner_names, names, with_inner, with_inners, with_params}
use Rattle.expression_types.specs.Order.{tokens_used}

abbrev pub tokens_of : List Name → List ℕ
tokens_of ns = map (λ (n : Name). n.at) ns

both : (ts us : List ℕ) (xs ys : List Name) → ts ≡ tokens_of xs → us ≡ tokens_of ys → ts ++ us ≡ tokens_of (xs ++ ys)
both ts us xs ys e f = ap₂ (λ (l m : List ℕ). l ++ m) e f ∙ sym (map-append (λ (n : Name). n.at) xs ys)

mutual
  pub names_in_order : {s : Sort} (sc : Scope) (t : Tree s) → tokens_used t ≡ tokens_of (names sc t)
  names_in_order sc none = refl
  names_in_order sc (more x xs) = both (tokens_used x) (tokens_used xs) (names sc x) (names sc xs) (names_in_order sc x) (names_in_order sc xs)
  names_in_order sc (Stmt part semicolon) = names_in_order sc part
  names_in_order sc (BindPart b) = names_in_order sc b
  names_in_order sc (DefPart d) = names_in_order sc d
  names_in_order sc (CallPart c) = names_in_order sc c
  names_in_order sc (IfPart i) = names_in_order sc i
  names_in_order sc (Bind at name f) = names_in_order sc f
  names_in_order sc (Def at name ps equals is e) =
      both (tokens_used ps ++ tokens_used is) (tokens_used e) (names sc ps ++ inner_names (with_params ps sc) is) (names (with_inners is (with_params ps sc)) e)
      (both (tokens_used ps) (tokens_used is) (names sc ps) (inner_names (with_params ps sc) is) (names_in_order sc ps) (inners_in_order (with_params ps sc) is))
      (names_in_order (with_inners is (with_params ps sc)) e)
  names_in_order sc (Inner b semicolon) = names_in_order sc b
  names_in_order sc (Param at name) = refl
  names_in_order sc (Labelled at name) = refl
  names_in_order sc (Optional at name d) = names_in_order sc d
  names_in_order sc (Negative at l) = refl
  names_in_order sc (Plain e) = names_in_order sc e
  names_in_order sc (Expr first rest) = both (tokens_used first) (tokens_used rest) (names sc first) (names sc rest) (names_in_order sc first) (names_in_order sc rest)
  names_in_order sc (And first rest) = both (tokens_used first) (tokens_used rest) (names sc first) (names sc rest) (names_in_order sc first) (names_in_order sc rest)
  names_in_order sc (Not negated inner) = names_in_order sc inner
  names_in_order sc (Alone left) = names_in_order sc left
  names_in_order sc (Compared left at o right) = both (tokens_used left) (tokens_used right) (names sc left) (names sc right) (names_in_order sc left) (names_in_order sc right)
  names_in_order sc (Sum first rest) = both (tokens_used first) (tokens_used rest) (names sc first) (names sc rest) (names_in_order sc first) (names_in_order sc rest)
  names_in_order sc (Added at minus p) = names_in_order sc p
  names_in_order sc (Product first rest) = both (tokens_used first) (tokens_used rest) (names sc first) (names sc rest) (names_in_order sc first) (names_in_order sc rest)
  names_in_order sc (Multiplied at divide p) = names_in_order sc p
  names_in_order sc (Constant at l) = refl
  names_in_order sc (Quoted at text) = refl
  names_in_order sc (Truth at b) = refl
  names_in_order sc (Named at name) = refl
  names_in_order sc (Called c) = names_in_order sc c
  names_in_order sc (Chosen i) = names_in_order sc i
  names_in_order sc (Nothing at) = refl
  names_in_order sc (Paren f) = names_in_order sc f
  names_in_order sc (Tuple at f g rest) =
      both (tokens_used f ++ tokens_used g) (tokens_used rest) (names sc f ++ names sc g) (names sc rest)
      (both (tokens_used f) (tokens_used g) (names sc f) (names sc g) (names_in_order sc f) (names_in_order sc g)) (names_in_order sc rest)
  names_in_order sc (Listed at parts) = names_in_order sc parts
  names_in_order sc (Braces at pred) = refl
  names_in_order sc (PlaceFormat at size) = refl
  names_in_order sc (NamedCall at name args) = ap (λ (l : List ℕ). at ∷ l) (names_in_order sc args)
  names_in_order sc (Arg at label f) = names_in_order sc f
  names_in_order sc (If at c t e) =
      both (tokens_used c ++ tokens_used t) (tokens_used e) (names sc c ++ names sc t) (names sc e)
      (both (tokens_used c) (tokens_used t) (names sc c) (names sc t) (names_in_order sc c) (names_in_order sc t)) (names_in_order sc e)
  names_in_order sc (POr first rest) = refl
  names_in_order sc (PAnd first rest) = refl
  names_in_order sc (PNot negated atom) = refl
  names_in_order sc TrueAtom = refl
  names_in_order sc FalseAtom = refl
  names_in_order sc (Mark m) = refl
  names_in_order sc (IntervalAtom a b) = refl
  names_in_order sc (Grouped p) = refl

  inners_in_order : (sc : Scope) (is : Tree (Many AnInner)) → tokens_used is ≡ tokens_of (inner_names sc is)
  inners_in_order sc none = refl
  inners_in_order sc (more i is) = both (tokens_used i) (tokens_used is) (names sc i) (inner_names (with_inner i sc) is) (names_in_order sc i) (inners_in_order (with_inner i sc) is)
