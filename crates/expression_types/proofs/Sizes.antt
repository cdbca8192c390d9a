-- Parts of a tree are less deep than it.
use Rattle.std.proofs.Common.{◌≡◌, ◌<◌, ◌≤◌, sym, subst, ℕ, List, length, get_or, Option, Some, arith}
use denote.Param.Weighed.{at_most, most}
use Rattle.script_grammar.specs.declared.tree.Arg.{Arg, size-Arg, size_is-Arg}
use Rattle.script_grammar.specs.declared.tree.Full.{size-Full}
use Rattle.script_grammar.specs.declared.tree.Full.TheViews.{weight-Compare-right}
use Rattle.script_grammar.specs.declared.tree.If.{If, size-If, size_is-If}
use Rattle.script_grammar.specs.declared.tree.Compare.{Compare, out-Compare, size-Compare, size_is-Compare}
use Rattle.script_grammar.specs.declared.tree.Compared.{Compared, out-Compared, size_is-Compared}
use Rattle.script_grammar.specs.declared.tree.Sum.{size-Sum}

-- an item is no deeper than the deepest
pub item_below : {A : Type 0} (size : A → ℕ) (xs : List A) (i : ℕ) (x : A) → i < length xs → x ≡ get_or xs i x → size x ≤ most size xs
item_below {A} size xs i x lt is = subst (λ (y : A). size y ≤ most size xs) (sym is) (at_most size xs i x lt)

right_below : (e : Compare) → weight-Compare-right (out-Compare e).right < size-Compare e
right_below e = let whole = size_is-Compare e in omega (arith, whole)

pub compared_below : (e : Compare) (r : Compared) → (out-Compare e).right ≡ Some r → size-Sum (out-Compared r).sum < size-Compare e
compared_below e r is =
    let held : weight-Compare-right (Some r) < size-Compare e = subst (λ (o : Option Compared). weight-Compare-right o < size-Compare e) is (right_below e) in
    let part = size_is-Compared r in
    omega (arith, held, part)

pub then_below : (i : If) → size-Full i.then_part.value < size-If i
then_below i = let whole = size_is-If i in omega (arith, whole)

pub else_below : (i : If) → size-Full i.else_part.value < size-If i
else_below i = let whole = size_is-If i in omega (arith, whole)

pub arg_below : (xs : List Arg) (i : ℕ) (x : Arg) → i < length xs → x ≡ get_or xs i x → size-Full x.value < most size-Arg xs
arg_below xs i x lt is =
    let item = item_below size-Arg xs i x lt is in
    let whole = size_is-Arg x in
    omega (arith, item, whole)
