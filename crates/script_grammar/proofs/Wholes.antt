-- A node made of whole parts is whole.
use Rattle.std.proofs.Common.{◌≡◌, ◌<◌, ℕ, length, arith, List, [], ◌∷◌, sym, subst, ap, ◌∙◌}
use Rattle.std.specs.Prelude.{map}
use Rattle.std.specs.List.{All, AllByRecursion}
use Rattle.std.specs.Global.{Vec}
use Rattle.std.proofs.lemmas.List.Elements.{All-cons, recursion_from_All}
use Rattle.script_grammar.specs.View.{view_pand, view_pnot, view_full, listed}
use Rattle.script_grammar.specs.Whole.{HasPart, HasTwo, IsWholePOr, AreWholePAnds, IsWholePAnd, AreWholePNots, IsWholePNot, IsWholeExpr, AreWholeAnds, IsWholeAnd, AreWholeNots, IsWholeNot, IsWholeSum, AreWholeAddends, IsWholeAdded, IsWholeProduct, AreWholeFactors, IsWholeMultiplied, IsWholeOperand, AreWholeFulls, IsWholeFull, IsWholeCall, AreWholeArgs, IsWholeArg}
use Rattle.script_grammar.specs.declared.tree.Full.{Full}
use Rattle.script_grammar.specs.declared.tree.Full.TheBlock as block
use Rattle.script_grammar.specs.declared.predicate.PAtom.TheBlock as pblock
use Rattle.script_grammar.specs.declared.tree.Expr as expr
use Rattle.script_grammar.specs.declared.tree.And as and_
use Rattle.script_grammar.specs.declared.tree.Not as not_
use Rattle.script_grammar.specs.declared.tree.Sum as sum
use Rattle.script_grammar.specs.declared.tree.Added as added
use Rattle.script_grammar.specs.declared.tree.Product as product
use Rattle.script_grammar.specs.declared.tree.Multiplied as multiplied
use Rattle.script_grammar.specs.declared.tree.Operand as operand
use Rattle.script_grammar.specs.declared.tree.Call as call
use Rattle.script_grammar.specs.declared.tree.Arg as arg
use Rattle.script_grammar.specs.declared.predicate.POr as por
use Rattle.script_grammar.specs.declared.predicate.PAnd as pand
use Rattle.script_grammar.specs.declared.predicate.PNot as pnot
use Rattle.script_grammar.proofs.Rows.{pands_listed, pnots_listed, fulls_listed}

-- ---- the rows

pands_row : (n : _) (row : por.Row_of-PAnd n) → AllByRecursion IsWholePAnd (por.items-the_row-PAnd n row) → AreWholePAnds row
pands_row n por.end_of-PAnd h = tt
pands_row n (por.more_of-PAnd p rest) h = (h.0, pands_row _ rest h.1)

pnots_row : (n : _) (row : pand.Row_of-PNot n) → AllByRecursion IsWholePNot (pand.items-the_row-PNot n row) → AreWholePNots row
pnots_row n pand.end_of-PNot h = tt
pnots_row n (pand.more_of-PNot negated atom rest) h = (h.0, pnots_row _ rest h.1)

ands_row : (n : _) (row : expr.Row_of-And n) → AllByRecursion IsWholeAnd (expr.items-the_row-And n row) → AreWholeAnds row
ands_row n expr.end_of-And h = tt
ands_row n (expr.more_of-And a rest) h = (h.0, ands_row _ rest h.1)

nots_row : (n : _) (row : and_.Row_of-Not n) → AllByRecursion IsWholeNot (and_.items-the_row-Not n row) → AreWholeNots row
nots_row n and_.end_of-Not h = tt
nots_row n (and_.more_of-Not a rest) h = (h.0, nots_row _ rest h.1)

addends_row : (n : _) (row : sum.Row_of-Added n) → AllByRecursion IsWholeAdded (sum.items-the_row-Added n row) → AreWholeAddends row
addends_row n sum.end_of-Added h = tt
addends_row n (sum.more_of-Added a rest) h = (h.0, addends_row _ rest h.1)

factors_row : (n : _) (row : product.Row_of-Multiplied n) → AllByRecursion IsWholeMultiplied (product.items-the_row-Multiplied n row) → AreWholeFactors row
factors_row n product.end_of-Multiplied h = tt
factors_row n (product.more_of-Multiplied at divide p rest) h = (h.0, factors_row _ rest h.1)

fulls_row : (n : _) (row : operand.Row_of-Full n) → AllByRecursion IsWholeFull (operand.items-the_row-Full n row) → AreWholeFulls row
fulls_row n operand.end_of-Full h = tt
fulls_row n (operand.more_of-Full f rest) h = (h.0, fulls_row _ rest h.1)

args_row : (n : _) (row : call.Row_of-Arg n) → AllByRecursion IsWholeArg (call.items-the_row-Arg n row) → AreWholeArgs row
args_row n call.end_of-Arg h = tt
args_row n (call.more_of-Arg at label f rest) h = (h.0, args_row _ rest h.1)

-- ---- the Vecs

pands_vec : (v : Vec pand.PAnd) → All IsWholePAnd v.items → AreWholePAnds (pblock.hidden-the_row-PAnd-1 v)
pands_vec v h = pands_row _ (pblock.hidden-the_row-PAnd-1 v) (subst (AllByRecursion IsWholePAnd) (sym (por.items_hidden-the_row-PAnd-1 v)) (recursion_from_All IsWholePAnd v.items h))

pnots_vec : (v : Vec pnot.PNot) → All IsWholePNot v.items → AreWholePNots (pblock.hidden-the_row-PNot-0 v)
pnots_vec v h = pnots_row _ (pblock.hidden-the_row-PNot-0 v) (subst (AllByRecursion IsWholePNot) (sym (pand.items_hidden-the_row-PNot-0 v)) (recursion_from_All IsWholePNot v.items h))

ands_vec : (v : Vec and_.And) → All IsWholeAnd v.items → AreWholeAnds (block.hidden-the_row-And-3 v)
ands_vec v h = ands_row _ (block.hidden-the_row-And-3 v) (subst (AllByRecursion IsWholeAnd) (sym (expr.items_hidden-the_row-And-3 v)) (recursion_from_All IsWholeAnd v.items h))

nots_vec : (v : Vec not_.Not) → All IsWholeNot v.items → AreWholeNots (block.hidden-the_row-Not-1 v)
nots_vec v h = nots_row _ (block.hidden-the_row-Not-1 v) (subst (AllByRecursion IsWholeNot) (sym (and_.items_hidden-the_row-Not-1 v)) (recursion_from_All IsWholeNot v.items h))

addends_vec : (v : Vec added.Added) → All IsWholeAdded v.items → AreWholeAddends (block.hidden-the_row-Added-5 v)
addends_vec v h = addends_row _ (block.hidden-the_row-Added-5 v) (subst (AllByRecursion IsWholeAdded) (sym (sum.items_hidden-the_row-Added-5 v)) (recursion_from_All IsWholeAdded v.items h))

factors_vec : (v : Vec multiplied.Multiplied) → All IsWholeMultiplied v.items → AreWholeFactors (block.hidden-the_row-Multiplied-4 v)
factors_vec v h = factors_row _ (block.hidden-the_row-Multiplied-4 v) (subst (AllByRecursion IsWholeMultiplied) (sym (product.items_hidden-the_row-Multiplied-4 v)) (recursion_from_All IsWholeMultiplied v.items h))

fulls_vec : (v : Vec Full) → All IsWholeFull v.items → AreWholeFulls (block.hidden-the_row-Full-0 v)
fulls_vec v h = fulls_row _ (block.hidden-the_row-Full-0 v) (subst (AllByRecursion IsWholeFull) (sym (operand.items_hidden-the_row-Full-0 v)) (recursion_from_All IsWholeFull v.items h))

args_vec : (v : Vec arg.Arg) → All IsWholeArg v.items → AreWholeArgs (block.hidden-the_row-Arg-2 v)
args_vec v h = args_row _ (block.hidden-the_row-Arg-2 v) (subst (AllByRecursion IsWholeArg) (sym (call.items_hidden-the_row-Arg-2 v)) (recursion_from_All IsWholeArg v.items h))

-- ---- the nodes

pub expr_whole : (f : and_.And) (v : Vec and_.And) → IsWholeAnd f → All IsWholeAnd v.items → IsWholeExpr (expr.roll-Expr (record { first = f; rest = v }))
expr_whole f v a h = subst IsWholeExpr (sym (expr.rolls-Expr' (record { first = f; rest = v }))) (a, ands_vec v h)

pub and_whole : (f : not_.Not) (v : Vec not_.Not) → IsWholeNot f → All IsWholeNot v.items → IsWholeAnd (and_.roll-And (record { first = f; rest = v }))
and_whole f v a h = subst IsWholeAnd (sym (and_.rolls-And' (record { first = f; rest = v }))) (a, nots_vec v h)

pub sum_whole : (f : product.Product) (v : Vec added.Added) → IsWholeProduct f → All IsWholeAdded v.items → IsWholeSum (sum.roll-Sum (record { first = f; rest = v }))
sum_whole f v a h = subst IsWholeSum (sym (sum.rolls-Sum' (record { first = f; rest = v }))) (a, addends_vec v h)

pub product_whole : (f : operand.Operand) (v : Vec multiplied.Multiplied) → IsWholeOperand f → All IsWholeMultiplied v.items → IsWholeProduct (product.roll-Product (record { first = f; rest = v }))
product_whole f v a h = subst IsWholeProduct (sym (product.rolls-Product' (record { first = f; rest = v }))) (a, factors_vec v h)

pub call_whole : (at : ℕ) (name : List ℕ) (v : Vec arg.Arg) → All IsWholeArg v.items → IsWholeCall (call.roll-Call (record { at = at; name = name; args = v }))
call_whole at name v h = subst IsWholeCall (sym (call.rolls-Call' (record { at = at; name = name; args = v }))) (args_vec v h)

pub list_whole : (at : ℕ) (v : Vec Full) → All IsWholeFull v.items → IsWholeOperand (operand.List at v)
list_whole at v h = fulls_vec v h

two_parts : (f : Full) (fs : List Full) → 0 < length fs → HasTwo (listed (map view_full (f ∷ fs)))
two_parts f [] lt = absurd (omega arith)
two_parts f (g ∷ fs) lt = tt

pub tuple_whole : (at : ℕ) (f : Full) (fs : List Full) (v : Vec Full) → 0 < length fs → v.items ≡ f ∷ fs → IsWholeFull f → All IsWholeFull fs → IsWholeOperand (operand.Tuple at v)
tuple_whole at f fs v lt e a h = (
  subst HasTwo (sym (fulls_listed v ∙ ap (λ (l : List Full). listed (map view_full l)) e)) (two_parts f fs lt),
  fulls_vec v (subst (All IsWholeFull) (sym e) (All-cons IsWholeFull f fs a h)),
)

pub por_whole : (p : pand.PAnd) (ps : List pand.PAnd) (v : Vec pand.PAnd) → v.items ≡ p ∷ ps → IsWholePAnd p → All IsWholePAnd ps → IsWholePOr (por.roll-POr (record { parts = v }))
por_whole p ps v e a h = subst IsWholePOr (sym (por.rolls-POr' (record { parts = v }))) (
  subst HasPart (sym (pands_listed v ∙ ap (λ (l : List pand.PAnd). listed (map view_pand l)) e)) tt,
  pands_vec v (subst (All IsWholePAnd) (sym e) (All-cons IsWholePAnd p ps a h)),
)

pub pand_whole : (p : pnot.PNot) (ps : List pnot.PNot) (v : Vec pnot.PNot) → v.items ≡ p ∷ ps → IsWholePNot p → All IsWholePNot ps → IsWholePAnd (pand.roll-PAnd (record { parts = v }))
pand_whole p ps v e a h = subst IsWholePAnd (sym (pand.rolls-PAnd' (record { parts = v }))) (
  subst HasPart (sym (pnots_listed v ∙ ap (λ (l : List pnot.PNot). listed (map view_pnot l)) e)) tt,
  pnots_vec v (subst (All IsWholePNot) (sym e) (All-cons IsWholePNot p ps a h)),
)
