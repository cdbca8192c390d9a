-- The operand of an expression that is no more.
use Rattle.std.proofs.Common.{◌≡◌, ◌∙◌, ◌<◌, sym, ap, subst, List, [], map, true, false, eqb-true, vec_len, None, arith, rules}
use Rattle.std.proofs.lemmas.List.{nil_from_length}
use Rattle.std.specs.Prelude.{◌==◌, Bool}
use Rattle.std.specs.Global.{Vec}
use Rattle.script_grammar.specs.Lone.{IsLone}
use Rattle.script_grammar.specs.Tree.{Tree, AnAnd, ANot, AProduct, none, Expr, And, Not, Alone, Sum, Product}
use Rattle.script_grammar.specs.View.{listed, view_added, view_and, view_compare, view_expr, view_multiplied, view_not, view_operand, view_product, view_sum}
use Rattle.script_grammar.specs.declared.tree.Full.{Full, size-Full, the_lemmas}
use Rattle.script_grammar.specs.declared.tree.Full.TheVariants as full
use Rattle.script_grammar.specs.declared.tree.Expr as expr
use Rattle.script_grammar.specs.declared.tree.And as and_
use Rattle.script_grammar.specs.declared.tree.Not as not_
use Rattle.script_grammar.specs.declared.tree.Compare as compare
use Rattle.script_grammar.specs.declared.tree.Sum as sum
use Rattle.script_grammar.specs.declared.tree.Added as added
use Rattle.script_grammar.specs.declared.tree.Product as product
use Rattle.script_grammar.specs.declared.tree.Multiplied as multiplied
use Rattle.script_grammar.specs.declared.tree.Operand as operand
use Rattle.script_grammar.proofs.Rows.{and_seen, compare_alone, expr_seen, not_seen, product_seen, sum_seen}

-- a Vec without items
pub empty_vec : {X : Type 0} (v : Vec X) → (vec_len v == 0) ≡ true → v.items ≡ []
empty_vec v e = nil_from_length v.items (sym v.ok.0 ∙ eqb-true (vec_len v) 0 e)

expr_alone : (e : expr.Expr) → (expr.out-Expr e).rest.items ≡ [] → view_expr e ≡ Expr (view_and (expr.out-Expr e).first) none
expr_alone e is = expr_seen e ∙ ap (λ (l : List and_.And). Expr (view_and (expr.out-Expr e).first) (listed (map view_and l))) is

and_alone : (e : and_.And) → (and_.out-And e).rest.items ≡ [] → view_and e ≡ And (view_not (and_.out-And e).first) none
and_alone e is = and_seen e ∙ ap (λ (l : List not_.Not). And (view_not (and_.out-And e).first) (listed (map view_not l))) is

not_alone : (e : not_.Not) → (not_.out-Not e).negated ≡ false → view_not e ≡ Not false (view_compare (not_.out-Not e).inner)
not_alone e is = not_seen e ∙ ap (λ (b : Bool). Not b (view_compare (not_.out-Not e).inner)) is

sum_alone : (e : sum.Sum) → (sum.out-Sum e).rest.items ≡ [] → view_sum e ≡ Sum (view_product (sum.out-Sum e).first) none
sum_alone e is = sum_seen e ∙ ap (λ (l : List added.Added). Sum (view_product (sum.out-Sum e).first) (listed (map view_added l))) is

product_alone : (e : product.Product) → (product.out-Product e).rest.items ≡ [] → view_product e ≡ Product (view_operand (product.out-Product e).first) none
product_alone e is = product_seen e ∙ ap (λ (l : List multiplied.Multiplied). Product (view_operand (product.out-Product e).first) (listed (map view_multiplied l))) is

-- the first parts of an expression, down to its first operand
abbrev pub and_in : expr.Expr → and_.And
and_in e = (expr.out-Expr e).first

abbrev pub not_in : expr.Expr → not_.Not
not_in e = (and_.out-And (and_in e)).first

abbrev pub compare_in : expr.Expr → compare.Compare
compare_in e = (not_.out-Not (not_in e)).inner

abbrev pub sum_in : expr.Expr → sum.Sum
sum_in e = (compare.out-Compare (compare_in e)).left

abbrev pub product_in : expr.Expr → product.Product
product_in e = (sum.out-Sum (sum_in e)).first

abbrev pub operand_in : expr.Expr → operand.Operand
operand_in e = (product.out-Product (product_in e)).first

operand_below : (e : expr.Expr) → operand.size-Operand (operand_in e) < expr.size-Expr e
operand_below e =
    let whole = expr.size_is-Expr e in
    let and = and_.size_is-And (and_in e) in
    let not = not_.size_is-Not (not_in e) in
    let compared = compare.size_is-Compare (compare_in e) in
    let summed = sum.size_is-Sum (sum_in e) in
    let multiplied = product.size_is-Product (product_in e) in
    omega (arith, whole, and, not, compared, summed, multiplied)

pub is_lone : (e : expr.Expr) → (expr.out-Expr e).rest.items ≡ [] → (and_.out-And (and_in e)).rest.items ≡ [] → (not_.out-Not (not_in e)).negated ≡ false →
    (sum.out-Sum (sum_in e)).rest.items ≡ [] → (product.out-Product (product_in e)).rest.items ≡ [] → (compare.out-Compare (compare_in e)).right ≡ None → IsLone e (operand_in e)
is_lone e ands nots plain addends factors alone =
    let products : view_sum (sum_in e) ≡ Sum (Product (view_operand (operand_in e)) none) none = sum_alone (sum_in e) addends ∙ ap (λ (t : Tree AProduct). Sum t none) (product_alone (product_in e) factors) in
    let compared : view_not (not_in e) ≡ Not false (Alone (Sum (Product (view_operand (operand_in e)) none) none)) = not_alone (not_in e) plain ∙ ap (Not false) (compare_alone (compare_in e) alone ∙ ap Alone products) in
    record {
      seen = expr_alone e ands ∙ ap (λ (t : Tree AnAnd). Expr t none) (and_alone (and_in e) nots ∙ ap (λ (t : Tree ANot). And t none) compared);
      below = operand_below e;
    }

pub lone_below : (f : Full) (e : expr.Expr) (p : operand.Operand) → f ≡ full.Plain e → IsLone e p → operand.size-Operand p < size-Full f
lone_below f e p plain is =
    let whole : expr.size-Expr e < size-Full (full.Plain e) = search (rules, the_lemmas) in
    let part = is.below in
    subst (λ (g : Full). operand.size-Operand p < size-Full g) (sym plain) (omega (arith, whole, part))
