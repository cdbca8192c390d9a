-- Calls in the productions of the program's tree.
use Rattle.std.proofs.Common.{◌≡◌, ℕ, List, [], ◌∷◌, Bool, true, false, not, ◌||◌, ◌&&◌, refl, sym, ap, ◌∙◌}
use Rattle.std.specs.Prelude.{map}
use Rattle.std.specs.Global.{Vec}
use Rattle.std.specs.List.{list_any}
use Rattle.script_grammar.specs.Tree.{Sort, Tree, Many, AFull, AnExpr, AnAnd, ASum, AProduct, ACall, CallPart, none, more}
use Rattle.script_grammar.specs.View.{listed, tuple_of, view_added, view_and, view_arg, view_call, view_expr, view_full, view_multiplied, view_not, view_operand, view_product, view_sum}
use Rattle.script_grammar.specs.declared.tree.Full.{Full}
use Rattle.script_grammar.specs.declared.tree.Expr as expr
use Rattle.script_grammar.specs.declared.tree.And as and_
use Rattle.script_grammar.specs.declared.tree.Not as not_
use Rattle.script_grammar.specs.declared.tree.Sum as sum
use Rattle.script_grammar.specs.declared.tree.Added as added
use Rattle.script_grammar.specs.declared.tree.Multiplied as multiplied
use Rattle.script_grammar.specs.declared.tree.Product as product
use Rattle.script_grammar.specs.declared.tree.Operand as operand
use Rattle.script_grammar.specs.declared.tree.Call as call
use Rattle.script_grammar.specs.declared.tree.Arg as arg
use Rattle.script_grammar.proofs.Rows.{and_seen, call_seen, expr_seen, fulls_listed, list_made, product_seen, sum_seen}
use Rattle.typing_rules.specs.declared.uses.Use.{Use}
use Rattle.typing_rules.specs.Kinds.{target_said}
use Rattle.typing_rules.specs.Uses.{use_at}
use Rattle.eval_meaning.specs.Calls.{holds_call, is_setting, means_set}

held_listed : {S : Sort} {X : Type 0} (view : X → Tree S) (xs : List X) → holds_call (listed (map view xs)) ≡ list_any (λ x. holds_call (view x)) xs
held_listed view [] = refl
held_listed view (x ∷ xs) = ap (λ (b : Bool). holds_call (view x) || b) (held_listed view xs)

or_false : (b : Bool) → b ≡ (b || false)
or_false true = refl
or_false false = refl

in_brackets : (at : ℕ) (ts : Tree (Many AFull)) → holds_call (tuple_of at ts) ≡ holds_call ts
in_brackets at none = refl
in_brackets at (more f none) = or_false (holds_call f)
in_brackets at (more f (more g rest)) = refl

expr_held : (e : expr.Expr) (l : List and_.And) → l ≡ (expr.out-Expr e).rest.items → holds_call (view_expr e) ≡ (holds_call (view_and (expr.out-Expr e).first) || list_any (λ x. holds_call (view_and x)) l)
expr_held e l is =
    ap (λ (t : Tree AnExpr). holds_call t) (expr_seen e)
    ∙ ap (λ (b : Bool). holds_call (view_and (expr.out-Expr e).first) || b) (held_listed view_and (expr.out-Expr e).rest.items)
    ∙ ap (λ (k : List and_.And). holds_call (view_and (expr.out-Expr e).first) || list_any (λ x. holds_call (view_and x)) k) (sym is)

and_held : (e : and_.And) (l : List not_.Not) → l ≡ (and_.out-And e).rest.items → holds_call (view_and e) ≡ (holds_call (view_not (and_.out-And e).first) || list_any (λ x. holds_call (view_not x)) l)
and_held e l is =
    ap (λ (t : Tree AnAnd). holds_call t) (and_seen e)
    ∙ ap (λ (b : Bool). holds_call (view_not (and_.out-And e).first) || b) (held_listed view_not (and_.out-And e).rest.items)
    ∙ ap (λ (k : List not_.Not). holds_call (view_not (and_.out-And e).first) || list_any (λ x. holds_call (view_not x)) k) (sym is)

sum_held : (e : sum.Sum) (l : List added.Added) → l ≡ (sum.out-Sum e).rest.items → holds_call (view_sum e) ≡ (holds_call (view_product (sum.out-Sum e).first) || list_any (λ x. holds_call (view_added x)) l)
sum_held e l is =
    ap (λ (t : Tree ASum). holds_call t) (sum_seen e)
    ∙ ap (λ (b : Bool). holds_call (view_product (sum.out-Sum e).first) || b) (held_listed view_added (sum.out-Sum e).rest.items)
    ∙ ap (λ (k : List added.Added). holds_call (view_product (sum.out-Sum e).first) || list_any (λ x. holds_call (view_added x)) k) (sym is)

product_held : (e : product.Product) (l : List multiplied.Multiplied) → l ≡ (product.out-Product e).rest.items → holds_call (view_product e) ≡ (holds_call (view_operand (product.out-Product e).first) || list_any (λ x. holds_call (view_multiplied x)) l)
product_held e l is =
    ap (λ (t : Tree AProduct). holds_call t) (product_seen e)
    ∙ ap (λ (b : Bool). holds_call (view_operand (product.out-Product e).first) || b) (held_listed view_multiplied (product.out-Product e).rest.items)
    ∙ ap (λ (k : List multiplied.Multiplied). holds_call (view_operand (product.out-Product e).first) || list_any (λ x. holds_call (view_multiplied x)) k) (sym is)

call_held : (e : call.Call) (l : List arg.Arg) → l ≡ (call.out-Call e).args.items → list_any (λ x. holds_call (view_arg x)) l ≡ holds_call (listed (map view_arg (call.out-Call e).args.items))
call_held e l is = ap (λ (k : List arg.Arg). list_any (λ x. holds_call (view_arg x)) k) is ∙ sym (held_listed view_arg (call.out-Call e).args.items)

pub list_held : (at : ℕ) (v : Vec Full) (l : List Full) → l ≡ v.items → holds_call (view_operand (operand.List at v)) ≡ list_any (λ x. holds_call (view_full x)) l
list_held at v l is = ap (λ (t : _). holds_call t) (list_made at v) ∙ held_listed view_full v.items ∙ ap (λ (k : List Full). list_any (λ x. holds_call (view_full x)) k) (sym is)

pub tuple_held : (at : ℕ) (v : Vec Full) (l : List Full) → l ≡ v.items → holds_call (view_operand (operand.Tuple at v)) ≡ list_any (λ x. holds_call (view_full x)) l
tuple_held at v l is =
    ap (λ (t : Tree (Many AFull)). holds_call (tuple_of at t)) (fulls_listed v) ∙ in_brackets at (listed (map view_full v.items)) ∙ held_listed view_full v.items
    ∙ ap (λ (k : List Full). list_any (λ x. holds_call (view_full x)) k) (sym is)

-- the others, where the first has none
pub expr_rest : (e : expr.Expr) (l : List and_.And) (b : Bool) → l ≡ (expr.out-Expr e).rest.items → false ≡ holds_call (view_and (expr.out-Expr e).first) → b ≡ list_any (λ x. holds_call (view_and x)) l → b ≡ holds_call (view_expr e)
expr_rest e l b is first rest = rest ∙ ap (λ (f : Bool). f || list_any (λ x. holds_call (view_and x)) l) first ∙ sym (expr_held e l is)

-- the others, where the first has none
pub and_rest : (e : and_.And) (l : List not_.Not) (b : Bool) → l ≡ (and_.out-And e).rest.items → false ≡ holds_call (view_not (and_.out-And e).first) → b ≡ list_any (λ x. holds_call (view_not x)) l → b ≡ holds_call (view_and e)
and_rest e l b is first rest = rest ∙ ap (λ (f : Bool). f || list_any (λ x. holds_call (view_not x)) l) first ∙ sym (and_held e l is)

-- the others, where the first has none
pub sum_rest : (e : sum.Sum) (l : List added.Added) (b : Bool) → l ≡ (sum.out-Sum e).rest.items → false ≡ holds_call (view_product (sum.out-Sum e).first) → b ≡ list_any (λ x. holds_call (view_added x)) l → b ≡ holds_call (view_sum e)
sum_rest e l b is first rest = rest ∙ ap (λ (f : Bool). f || list_any (λ x. holds_call (view_added x)) l) first ∙ sym (sum_held e l is)

-- the others, where the first has none
pub product_rest : (e : product.Product) (l : List multiplied.Multiplied) (b : Bool) → l ≡ (product.out-Product e).rest.items → false ≡ holds_call (view_operand (product.out-Product e).first) → b ≡ list_any (λ x. holds_call (view_multiplied x)) l → b ≡ holds_call (view_product e)
product_rest e l b is first rest = rest ∙ ap (λ (f : Bool). f || list_any (λ x. holds_call (view_multiplied x)) l) first ∙ sym (product_held e l is)

pub setting_means : (uses : List Use) (e : call.Call) (l : List arg.Arg) (b : Bool) → l ≡ (call.out-Call e).args.items → true ≡ means_set (target_said (use_at (call.out-Call e).at uses)) → b ≡ list_any (λ x. holds_call (view_arg x)) l → not b ≡ is_setting uses (CallPart (view_call e))
setting_means uses e l b is first rest =
    ap not (rest ∙ call_held e l is)
    ∙ ap (λ (f : Bool). f && not (holds_call (listed (map view_arg (call.out-Call e).args.items)))) first
    ∙ ap (λ (t : Tree ACall). is_setting uses (CallPart t)) (sym (call_seen e))
