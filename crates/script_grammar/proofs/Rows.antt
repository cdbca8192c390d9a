-- A struct that holds a Vec, seen by its fields and made of them.
use Rattle.std.proofs.Common.{◌≡◌, ◌<◌, ℕ, length, arith, List, [], ◌∷◌, Option, Some, None, refl, sym, ap, ◌∙◌}
use Rattle.std.specs.Prelude.{map}
use Rattle.std.specs.Global.{Vec}
use Rattle.script_grammar.specs.Tree.{more, Expr, And, Not, Alone, Compared as a_comparison, Sum, Added, Product, NamedCall, Listed, POr, PAnd}
use Rattle.script_grammar.specs.ReadValue.{round_of}
use Rattle.script_grammar.specs.View.{listed, por_of, pand_of, tuple_of, view_por, view_pands, view_pand, view_pnots, view_pnot, view_expr, view_ands, view_and, view_nots, view_not, view_compare, view_sum, view_addends, view_added, view_product, view_factors, view_multiplied, view_operand, view_fulls, view_full, view_call, view_args, view_arg}
use Rattle.script_grammar.specs.declared.tree.Full.{Full}
use Rattle.script_grammar.specs.declared.tree.Full.TheBlock as block
use Rattle.script_grammar.specs.declared.predicate.PAtom.TheBlock as pblock
use Rattle.script_grammar.specs.declared.tree.Expr as expr
use Rattle.script_grammar.specs.declared.tree.And as and_
use Rattle.script_grammar.specs.declared.tree.Not as not_
use Rattle.script_grammar.specs.declared.tree.Compare as compare
use Rattle.script_grammar.specs.declared.tree.Compared as compared
use Rattle.script_grammar.specs.declared.tree.Sum as sum
use Rattle.script_grammar.specs.declared.tree.Added as added
use Rattle.script_grammar.specs.declared.tree.Product as product
use Rattle.script_grammar.specs.declared.tree.Multiplied as multiplied
use Rattle.script_grammar.specs.declared.tree.Operand as operand
use Rattle.script_grammar.specs.declared.tree.Call as call
use Rattle.script_grammar.specs.declared.tree.Arg as arg
use Rattle.script_grammar.specs.declared.predicate.POr as por
use Rattle.script_grammar.specs.declared.predicate.PAnd as pand
use Rattle.script_grammar.specs.declared.predicate.PNot as pnot

-- ---- the rows of the program's trees

pands_row : (n : _) (row : por.Row_of-PAnd n) → view_pands row ≡ listed (map view_pand (por.items-the_row-PAnd n row))
pands_row n por.end_of-PAnd = refl
pands_row n (por.more_of-PAnd p rest) = ap (more (view_pand p)) (pands_row _ rest)

pnots_row : (n : _) (row : pand.Row_of-PNot n) → view_pnots row ≡ listed (map view_pnot (pand.items-the_row-PNot n row))
pnots_row n pand.end_of-PNot = refl
pnots_row n (pand.more_of-PNot negated atom rest) = ap (more (view_pnot (record { negated = negated; atom = atom }))) (pnots_row _ rest)

ands_row : (n : _) (row : expr.Row_of-And n) → view_ands row ≡ listed (map view_and (expr.items-the_row-And n row))
ands_row n expr.end_of-And = refl
ands_row n (expr.more_of-And a rest) = ap (more (view_and a)) (ands_row _ rest)

nots_row : (n : _) (row : and_.Row_of-Not n) → view_nots row ≡ listed (map view_not (and_.items-the_row-Not n row))
nots_row n and_.end_of-Not = refl
nots_row n (and_.more_of-Not a rest) = ap (more (view_not a)) (nots_row _ rest)

addends_row : (n : _) (row : sum.Row_of-Added n) → view_addends row ≡ listed (map view_added (sum.items-the_row-Added n row))
addends_row n sum.end_of-Added = refl
addends_row n (sum.more_of-Added a rest) = ap (more (view_added a)) (addends_row _ rest)

factors_row : (n : _) (row : product.Row_of-Multiplied n) → view_factors row ≡ listed (map view_multiplied (product.items-the_row-Multiplied n row))
factors_row n product.end_of-Multiplied = refl
factors_row n (product.more_of-Multiplied at divide p rest) = ap (more (view_multiplied (record { at = at; divide = divide; operand = p }))) (factors_row _ rest)

fulls_row : (n : _) (row : operand.Row_of-Full n) → view_fulls row ≡ listed (map view_full (operand.items-the_row-Full n row))
fulls_row n operand.end_of-Full = refl
fulls_row n (operand.more_of-Full f rest) = ap (more (view_full f)) (fulls_row _ rest)

args_row : (n : _) (row : call.Row_of-Arg n) → view_args row ≡ listed (map view_arg (call.items-the_row-Arg n row))
args_row n call.end_of-Arg = refl
args_row n (call.more_of-Arg at label f rest) = ap (more (view_arg (record { at = at; label = label; value = f }))) (args_row _ rest)

-- ---- the Vecs

pub pands_listed : (v : Vec pand.PAnd) → view_pands (pblock.hidden-the_row-PAnd-1 v) ≡ listed (map view_pand v.items)
pands_listed v = pands_row _ (pblock.hidden-the_row-PAnd-1 v) ∙ ap (λ (l : List pand.PAnd). listed (map view_pand l)) (por.items_hidden-the_row-PAnd-1 v)

pub pnots_listed : (v : Vec pnot.PNot) → view_pnots (pblock.hidden-the_row-PNot-0 v) ≡ listed (map view_pnot v.items)
pnots_listed v = pnots_row _ (pblock.hidden-the_row-PNot-0 v) ∙ ap (λ (l : List pnot.PNot). listed (map view_pnot l)) (pand.items_hidden-the_row-PNot-0 v)

pub ands_listed : (v : Vec and_.And) → view_ands (block.hidden-the_row-And-3 v) ≡ listed (map view_and v.items)
ands_listed v = ands_row _ (block.hidden-the_row-And-3 v) ∙ ap (λ (l : List and_.And). listed (map view_and l)) (expr.items_hidden-the_row-And-3 v)

pub nots_listed : (v : Vec not_.Not) → view_nots (block.hidden-the_row-Not-1 v) ≡ listed (map view_not v.items)
nots_listed v = nots_row _ (block.hidden-the_row-Not-1 v) ∙ ap (λ (l : List not_.Not). listed (map view_not l)) (and_.items_hidden-the_row-Not-1 v)

pub addends_listed : (v : Vec added.Added) → view_addends (block.hidden-the_row-Added-5 v) ≡ listed (map view_added v.items)
addends_listed v = addends_row _ (block.hidden-the_row-Added-5 v) ∙ ap (λ (l : List added.Added). listed (map view_added l)) (sum.items_hidden-the_row-Added-5 v)

pub factors_listed : (v : Vec multiplied.Multiplied) → view_factors (block.hidden-the_row-Multiplied-4 v) ≡ listed (map view_multiplied v.items)
factors_listed v = factors_row _ (block.hidden-the_row-Multiplied-4 v) ∙ ap (λ (l : List multiplied.Multiplied). listed (map view_multiplied l)) (product.items_hidden-the_row-Multiplied-4 v)

pub fulls_listed : (v : Vec Full) → view_fulls (block.hidden-the_row-Full-0 v) ≡ listed (map view_full v.items)
fulls_listed v = fulls_row _ (block.hidden-the_row-Full-0 v) ∙ ap (λ (l : List Full). listed (map view_full l)) (operand.items_hidden-the_row-Full-0 v)

pub args_listed : (v : Vec arg.Arg) → view_args (block.hidden-the_row-Arg-2 v) ≡ listed (map view_arg v.items)
args_listed v = args_row _ (block.hidden-the_row-Arg-2 v) ∙ ap (λ (l : List arg.Arg). listed (map view_arg l)) (call.items_hidden-the_row-Arg-2 v)

-- ---- the structs, seen by their fields

pub expr_seen : (e : expr.Expr) → view_expr e ≡ Expr (view_and (expr.out-Expr e).first) (listed (map view_and (expr.out-Expr e).rest.items))
expr_seen e = ap view_expr (sym (expr.roll-out-Expr e) ∙ expr.rolls-Expr' (expr.out-Expr e)) ∙ ap (Expr (view_and (expr.out-Expr e).first)) (ands_listed (expr.out-Expr e).rest)

pub and_seen : (e : and_.And) → view_and e ≡ And (view_not (and_.out-And e).first) (listed (map view_not (and_.out-And e).rest.items))
and_seen e = ap view_and (sym (and_.roll-out-And e) ∙ and_.rolls-And' (and_.out-And e)) ∙ ap (And (view_not (and_.out-And e).first)) (nots_listed (and_.out-And e).rest)

pub sum_seen : (e : sum.Sum) → view_sum e ≡ Sum (view_product (sum.out-Sum e).first) (listed (map view_added (sum.out-Sum e).rest.items))
sum_seen e = ap view_sum (sym (sum.roll-out-Sum e) ∙ sum.rolls-Sum' (sum.out-Sum e)) ∙ ap (Sum (view_product (sum.out-Sum e).first)) (addends_listed (sum.out-Sum e).rest)

pub product_seen : (e : product.Product) → view_product e ≡ Product (view_operand (product.out-Product e).first) (listed (map view_multiplied (product.out-Product e).rest.items))
product_seen e = ap view_product (sym (product.roll-out-Product e) ∙ product.rolls-Product' (product.out-Product e)) ∙ ap (Product (view_operand (product.out-Product e).first)) (factors_listed (product.out-Product e).rest)

pub call_seen : (e : call.Call) → view_call e ≡ NamedCall (call.out-Call e).at (call.out-Call e).name (listed (map view_arg (call.out-Call e).args.items))
call_seen e = ap view_call (sym (call.roll-out-Call e) ∙ call.rolls-Call' (call.out-Call e)) ∙ ap (NamedCall (call.out-Call e).at (call.out-Call e).name) (args_listed (call.out-Call e).args)

pub compare_seen : (e : compare.Compare) (r : compared.Compared) → (compare.out-Compare e).right ≡ Some r → view_compare e ≡ a_comparison (view_sum (compare.out-Compare e).left) (compared.out-Compared r).at (compared.out-Compared r).op (view_sum (compared.out-Compared r).sum)
compare_seen e r is =
    ap view_compare (sym (compare.roll-out-Compare e) ∙ compare.rolls-Compare' (compare.out-Compare e))
    ∙ ap (λ (o : Option compared.Compared). view_compare (compare.Compare' (compare.out-Compare e).left (block.back-Compare-right o))) is
    ∙ ap (λ (x : compared.Compared). view_compare (compare.Compare' (compare.out-Compare e).left (block.back-Compare-right (Some x)))) (sym (compared.roll-out-Compared r) ∙ compared.rolls-Compared' (compared.out-Compared r))

pub compare_alone : (e : compare.Compare) → (compare.out-Compare e).right ≡ None → view_compare e ≡ Alone (view_sum (compare.out-Compare e).left)
compare_alone e is =
    ap view_compare (sym (compare.roll-out-Compare e) ∙ compare.rolls-Compare' (compare.out-Compare e))
    ∙ ap (λ (o : Option compared.Compared). view_compare (compare.Compare' (compare.out-Compare e).left (block.back-Compare-right o))) is

pub not_seen : (e : not_.Not) → view_not e ≡ Not (not_.out-Not e).negated (view_compare (not_.out-Not e).inner)
not_seen e = ap view_not (sym (not_.roll-out-Not e) ∙ not_.rolls-Not' (not_.out-Not e))

pub added_seen : (e : added.Added) → view_added e ≡ Added (added.out-Added e).at (added.out-Added e).minus (view_product (added.out-Added e).product)
added_seen e = ap view_added (sym (added.roll-out-Added e) ∙ added.rolls-Added' (added.out-Added e))

-- ---- the structs that are made of their parts

pub expr_made : (f : and_.And) (v : Vec and_.And) → view_expr (expr.roll-Expr (record { first = f; rest = v })) ≡ Expr (view_and f) (listed (map view_and v.items))
expr_made f v = ap view_expr (expr.rolls-Expr' (record { first = f; rest = v })) ∙ ap (Expr (view_and f)) (ands_listed v)

pub and_made : (f : not_.Not) (v : Vec not_.Not) → view_and (and_.roll-And (record { first = f; rest = v })) ≡ And (view_not f) (listed (map view_not v.items))
and_made f v = ap view_and (and_.rolls-And' (record { first = f; rest = v })) ∙ ap (And (view_not f)) (nots_listed v)

pub sum_made : (f : product.Product) (v : Vec added.Added) → view_sum (sum.roll-Sum (record { first = f; rest = v })) ≡ Sum (view_product f) (listed (map view_added v.items))
sum_made f v = ap view_sum (sum.rolls-Sum' (record { first = f; rest = v })) ∙ ap (Sum (view_product f)) (addends_listed v)

pub product_made : (f : operand.Operand) (v : Vec multiplied.Multiplied) → view_product (product.roll-Product (record { first = f; rest = v })) ≡ Product (view_operand f) (listed (map view_multiplied v.items))
product_made f v = ap view_product (product.rolls-Product' (record { first = f; rest = v })) ∙ ap (Product (view_operand f)) (factors_listed v)

pub call_made : (at : ℕ) (name : List ℕ) (v : Vec arg.Arg) → view_call (call.roll-Call (record { at = at; name = name; args = v })) ≡ NamedCall at name (listed (map view_arg v.items))
call_made at name v = ap view_call (call.rolls-Call' (record { at = at; name = name; args = v })) ∙ ap (NamedCall at name) (args_listed v)

pub list_made : (at : ℕ) (v : Vec Full) → view_operand (operand.List at v) ≡ Listed at (listed (map view_full v.items))
list_made at v = ap (Listed at) (fulls_listed v)

-- a tuple of a first part and the others
pub tuple_made : (at : ℕ) (f : Full) (fs : List Full) (v : Vec Full) → 0 < length fs → v.items ≡ f ∷ fs → view_operand (operand.Tuple at v) ≡ round_of at (view_full f) (listed (map view_full fs))
tuple_made at f [] v lt e = absurd (omega arith)
tuple_made at f (g ∷ fs) v lt e = ap (tuple_of at) (fulls_listed v ∙ ap (λ (l : List Full). listed (map view_full l)) e)

pub por_made : (p : pand.PAnd) (ps : List pand.PAnd) (v : Vec pand.PAnd) → v.items ≡ p ∷ ps → view_por (por.roll-POr (record { parts = v })) ≡ POr (view_pand p) (listed (map view_pand ps))
por_made p ps v e = ap view_por (por.rolls-POr' (record { parts = v })) ∙ ap por_of (pands_listed v ∙ ap (λ (l : List pand.PAnd). listed (map view_pand l)) e)

pub pand_made : (p : pnot.PNot) (ps : List pnot.PNot) (v : Vec pnot.PNot) → v.items ≡ p ∷ ps → view_pand (pand.roll-PAnd (record { parts = v })) ≡ PAnd (view_pnot p) (listed (map view_pnot ps))
pand_made p ps v e = ap view_pand (pand.rolls-PAnd' (record { parts = v })) ∙ ap pand_of (pnots_listed v ∙ ap (λ (l : List pnot.PNot). listed (map view_pnot l)) e)
