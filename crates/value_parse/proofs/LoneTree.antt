-- A value that is one operand, made of empty lists.
use Rattle.std.proofs.Common.{◌≡◌, Bool, List, [], None, sym, ap, subst, ◌∙◌}
use Rattle.std.proofs.lemmas.List.Elements.{All-nil}
use Rattle.std.specs.Global.{Vec}
use Rattle.std.specs.Prelude.{map}
use Rattle.script_grammar.specs.Tree.{Tree, AnAnd, ANot, ASum, AProduct, none, Plain, Expr, And, Not, Alone, Sum, Product}
use Rattle.script_grammar.specs.View.{listed, view_full, view_and, view_not, view_compare, view_sum, view_added, view_product, view_multiplied, view_operand}
use Rattle.script_grammar.specs.Whole.{IsWholeFull, IsWholeAnd, IsWholeNot, IsWholeCompare, IsWholeSum, IsWholeAdded, IsWholeProduct, IsWholeMultiplied, IsWholeOperand}
use Rattle.script_grammar.specs.declared.tree.Full.{Full}
use Rattle.script_grammar.specs.declared.tree.Full.TheVariants as full
use Rattle.script_grammar.specs.declared.tree.Expr as expr
use Rattle.script_grammar.specs.declared.tree.And as and_
use Rattle.script_grammar.specs.declared.tree.Not as not_
use Rattle.script_grammar.specs.declared.tree.Compare as compare
use Rattle.script_grammar.specs.declared.tree.Sum as sum
use Rattle.script_grammar.specs.declared.tree.Added as added
use Rattle.script_grammar.specs.declared.tree.Product as product
use Rattle.script_grammar.specs.declared.tree.Multiplied as multiplied
use Rattle.script_grammar.specs.declared.tree.Operand as operand
use Rattle.script_grammar.proofs.Rows.{expr_made, and_made, sum_made, product_made}
use Rattle.script_grammar.proofs.Wholes.{expr_whole, and_whole, sum_whole, product_whole}
use Rattle.value_parse.specs.Operand.{lone}

module _ (negated : Bool) (p : operand.Operand) (ms : Vec multiplied.Multiplied) (ads : Vec added.Added) (ns : Vec not_.Not) (ands : Vec and_.And) where
  abbrev the_product : product.Product
  the_product = product.roll-Product (record { first = p; rest = ms })

  abbrev the_sum : sum.Sum
  the_sum = sum.roll-Sum (record { first = the_product; rest = ads })

  abbrev the_compare : compare.Compare
  the_compare = compare.roll-Compare (record { left = the_sum; right = None })

  abbrev the_not : not_.Not
  the_not = not_.roll-Not (record { negated = negated; inner = the_compare })

  abbrev the_and : and_.And
  the_and = and_.roll-And (record { first = the_not; rest = ns })

  abbrev pub the_full : Full
  the_full = full.Plain (expr.roll-Expr (record { first = the_and; rest = ands }))

  product_seen : ms.items ≡ [] → view_product the_product ≡ Product (view_operand p) none
  product_seen e = product_made p ms ∙ ap (λ (l : List multiplied.Multiplied). Product (view_operand p) (listed (map view_multiplied l))) e

  sum_seen : ms.items ≡ [] → ads.items ≡ [] → view_sum the_sum ≡ Sum (Product (view_operand p) none) none
  sum_seen e f = sum_made the_product ads ∙ ap (λ (l : List added.Added). Sum (view_product the_product) (listed (map view_added l))) f ∙ ap (λ (q : Tree AProduct). Sum q none) (product_seen e)

  not_seen : view_not the_not ≡ Not negated (Alone (view_sum the_sum))
  not_seen = ap view_not (not_.rolls-Not' (record { negated = negated; inner = the_compare })) ∙ ap (λ (c : compare.Compare). Not negated (view_compare c)) (compare.rolls-Compare' (record { left = the_sum; right = None }))

  pub lone_made : ms.items ≡ [] → ads.items ≡ [] → ns.items ≡ [] → ands.items ≡ [] → view_full the_full ≡ lone negated (view_operand p)
  lone_made e f g h =
      ap Plain (expr_made the_and ands ∙ ap (λ (l : List and_.And). Expr (view_and the_and) (listed (map view_and l))) h)
      ∙ ap (λ (a : Tree AnAnd). Plain (Expr a none)) (and_made the_not ns ∙ ap (λ (l : List not_.Not). And (view_not the_not) (listed (map view_not l))) g)
      ∙ ap (λ (n : Tree ANot). Plain (Expr (And n none) none)) not_seen
      ∙ ap (λ (s : Tree ASum). Plain (Expr (And (Not negated (Alone s)) none) none)) (sum_seen e f)

  pub lone_whole : ms.items ≡ [] → ads.items ≡ [] → ns.items ≡ [] → ands.items ≡ [] → IsWholeOperand p → IsWholeFull the_full
  lone_whole e f g h is =
      let product_is : IsWholeProduct the_product = product_whole p ms is (rw e (All-nil IsWholeMultiplied)) in
      let sum_is : IsWholeSum the_sum = sum_whole the_product ads product_is (rw f (All-nil IsWholeAdded)) in
      let compare_is : IsWholeCompare the_compare = subst IsWholeCompare (sym (compare.rolls-Compare' (record { left = the_sum; right = None }))) sum_is in
      let not_is : IsWholeNot the_not = subst IsWholeNot (sym (not_.rolls-Not' (record { negated = negated; inner = the_compare }))) compare_is in
      let and_is : IsWholeAnd the_and = and_whole the_not ns not_is (rw g (All-nil IsWholeNot)) in
      expr_whole the_and ands and_is (rw h (All-nil IsWholeAnd))
