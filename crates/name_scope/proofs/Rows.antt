-- What is noted of a tree, from what is noted of its parts.
use Rattle.std.proofs.Common.{◌≡◌, ◌<◌, ◌+◌, ℕ, length, List, [], ◌∷◌, ◌++◌, Some, refl, sym, ap, ◌∙◌, append_assoc, map, take, get_or}
use Rattle.std.proofs.lemmas.List.{append-nil, take_more}
use Rattle.std.specs.Global.{Vec}
use Rattle.script_grammar.specs.Tree.{Sort, Tree, Many, AFull, Listed}
use Rattle.script_grammar.specs.View.{listed, tuple_of, view_expr, view_and, view_not, view_compare, view_sum, view_added, view_product, view_multiplied, view_operand, view_full, view_call, view_arg}
use Rattle.script_grammar.specs.declared.tree.Full.{Full}
use Rattle.script_grammar.specs.declared.tree.Expr as expr
use Rattle.script_grammar.specs.declared.tree.And as and_
use Rattle.script_grammar.specs.declared.tree.Not as not_
use Rattle.script_grammar.specs.declared.tree.Compare as compare
use Rattle.script_grammar.specs.declared.tree.Compared as compared
use Rattle.script_grammar.specs.declared.tree.Sum as sum
use Rattle.script_grammar.specs.declared.tree.Added as added
use Rattle.script_grammar.specs.declared.tree.Product as product
use Rattle.script_grammar.specs.declared.tree.Multiplied as multiplied
use Rattle.script_grammar.specs.declared.tree.Operand as operand
use Rattle.script_grammar.specs.declared.tree.Call as call
use Rattle.script_grammar.specs.declared.tree.Arg as arg
use Rattle.script_grammar.proofs.Rows.{and_seen, call_seen, compare_seen, expr_seen, fulls_listed, product_seen, sum_seen}
use Rattle.typing_rules.specs.Scoping.{Name, Scope, bound, call_meant, names, tokens_given}
use Rattle.name_scope.specs.Noted.{Noted, names_each, with_name, with_names}

-- ---- lists of names

pub with_more : (n : Noted) (xs ys : List Name) → with_names n (xs ++ ys) ≡ with_names (with_names n xs) ys
with_more n [] ys = refl
with_more n (x ∷ xs) ys = with_more (with_name n x) xs ys

pub two_parts : (old a new : Noted) (xs ys whole : List Name) → a ≡ with_names old xs → new ≡ with_names a ys → whole ≡ xs ++ ys → new ≡ with_names old whole
two_parts old a new xs ys whole e f g = f ∙ ap (λ (n : Noted). with_names n ys) e ∙ sym (with_more old xs ys) ∙ ap (with_names old) (sym g)

pub three_parts : (old a b new : Noted) (xs ys zs : List Name) → a ≡ with_names old xs → b ≡ with_names a ys → new ≡ with_names b zs → new ≡ with_names old (xs ++ ys ++ zs)
three_parts old a b new xs ys zs e f g = two_parts old b new (xs ++ ys) zs (xs ++ ys ++ zs) (two_parts old a b xs ys (xs ++ ys) e f refl) g refl

pub each_listed : {s : Sort} (sc : Scope) (ts : List (Tree s)) → names sc (listed ts) ≡ names_each sc ts
each_listed sc [] = refl
each_listed sc (t ∷ ts) = ap (λ (z : List Name). names sc t ++ z) (each_listed sc ts)

each_one : {s : Sort} {A : Type 0} (sc : Scope) (view : A → Tree s) (xs : List A) (x : A) → names_each sc (map view (xs ++ x ∷ [])) ≡ names_each sc (map view xs) ++ names sc (view x)
each_one sc view [] x = append-nil (names sc (view x))
each_one sc view (y ∷ xs) x = ap (λ (z : List Name). names sc (view y) ++ z) (each_one sc view xs x) ∙ sym (append_assoc (names sc (view y)) (names_each sc (map view xs)) (names sc (view x)))

-- one more item of a loop
pub each_next : {s : Sort} {A : Type 0} (sc : Scope) (view : A → Tree s) (xs : List A) (i : ℕ) (x : A) (old a new : Noted) → i < length xs → x ≡ get_or xs i x → a ≡ with_names old (names_each sc (map view (take i xs))) → new ≡ with_names a (names sc (view x)) → new ≡ with_names old (names_each sc (map view (take (i + 1) xs)))
each_next sc view xs i x old a new lt is e f = two_parts old a new (names_each sc (map view (take i xs))) (names sc (view x)) (names_each sc (map view (take (i + 1) xs))) e f (ap (λ (l : List _). names_each sc (map view l)) (take_more xs i x lt ∙ ap (λ (y : _). take i xs ++ y ∷ []) (sym is)) ∙ each_one sc view (take i xs) x)

-- ---- the program's trees, seen by their fields

-- ---- what is noted after their parts

pub expr_parts : (sc : Scope) (e : expr.Expr) (l : List and_.And) (old a new : Noted) → l ≡ (expr.out-Expr e).rest.items → a ≡ with_names old (names sc (view_and (expr.out-Expr e).first)) → new ≡ with_names a (names_each sc (map view_and l)) → new ≡ with_names old (names sc (view_expr e))
expr_parts sc e l old a new lis ais nis = two_parts old a new (names sc (view_and (expr.out-Expr e).first)) (names_each sc (map view_and l)) (names sc (view_expr e)) ais nis (ap (names sc) (expr_seen e) ∙ ap (λ (z : List Name). names sc (view_and (expr.out-Expr e).first) ++ z) (each_listed sc (map view_and (expr.out-Expr e).rest.items)) ∙ ap (λ (z : List and_.And). names sc (view_and (expr.out-Expr e).first) ++ names_each sc (map view_and z)) (sym lis))

pub and_parts : (sc : Scope) (e : and_.And) (l : List not_.Not) (old a new : Noted) → l ≡ (and_.out-And e).rest.items → a ≡ with_names old (names sc (view_not (and_.out-And e).first)) → new ≡ with_names a (names_each sc (map view_not l)) → new ≡ with_names old (names sc (view_and e))
and_parts sc e l old a new lis ais nis = two_parts old a new (names sc (view_not (and_.out-And e).first)) (names_each sc (map view_not l)) (names sc (view_and e)) ais nis (ap (names sc) (and_seen e) ∙ ap (λ (z : List Name). names sc (view_not (and_.out-And e).first) ++ z) (each_listed sc (map view_not (and_.out-And e).rest.items)) ∙ ap (λ (z : List not_.Not). names sc (view_not (and_.out-And e).first) ++ names_each sc (map view_not z)) (sym lis))

pub sum_parts : (sc : Scope) (e : sum.Sum) (l : List added.Added) (old a new : Noted) → l ≡ (sum.out-Sum e).rest.items → a ≡ with_names old (names sc (view_product (sum.out-Sum e).first)) → new ≡ with_names a (names_each sc (map view_added l)) → new ≡ with_names old (names sc (view_sum e))
sum_parts sc e l old a new lis ais nis = two_parts old a new (names sc (view_product (sum.out-Sum e).first)) (names_each sc (map view_added l)) (names sc (view_sum e)) ais nis (ap (names sc) (sum_seen e) ∙ ap (λ (z : List Name). names sc (view_product (sum.out-Sum e).first) ++ z) (each_listed sc (map view_added (sum.out-Sum e).rest.items)) ∙ ap (λ (z : List added.Added). names sc (view_product (sum.out-Sum e).first) ++ names_each sc (map view_added z)) (sym lis))

pub product_parts : (sc : Scope) (e : product.Product) (l : List multiplied.Multiplied) (old a new : Noted) → l ≡ (product.out-Product e).rest.items → a ≡ with_names old (names sc (view_operand (product.out-Product e).first)) → new ≡ with_names a (names_each sc (map view_multiplied l)) → new ≡ with_names old (names sc (view_product e))
product_parts sc e l old a new lis ais nis = two_parts old a new (names sc (view_operand (product.out-Product e).first)) (names_each sc (map view_multiplied l)) (names sc (view_product e)) ais nis (ap (names sc) (product_seen e) ∙ ap (λ (z : List Name). names sc (view_operand (product.out-Product e).first) ++ z) (each_listed sc (map view_multiplied (product.out-Product e).rest.items)) ∙ ap (λ (z : List multiplied.Multiplied). names sc (view_operand (product.out-Product e).first) ++ names_each sc (map view_multiplied z)) (sym lis))

abbrev pub call_name : Scope → ℕ → List ℕ → List arg.Arg → Name
call_name sc at name l = record { at = at; meant = call_meant name (bound name sc); given = tokens_given (listed (map view_arg l)) }

pub call_parts : (sc : Scope) (e : call.Call) (l k : List arg.Arg) (old a new : Noted) → l ≡ (call.out-Call e).args.items → k ≡ (call.out-Call e).args.items → a ≡ with_name old (call_name sc (call.out-Call e).at (call.out-Call e).name l) → new ≡ with_names a (names_each sc (map view_arg k)) → new ≡ with_names old (names sc (view_call e))
call_parts sc e l k old a new lis kis ais nis =
    let first = call_name sc (call.out-Call e).at (call.out-Call e).name in
    two_parts old a new (first l ∷ []) (names_each sc (map view_arg k)) (names sc (view_call e)) ais nis (ap (names sc) (call_seen e) ∙ ap (λ (z : List arg.Arg). first z ∷ names sc (listed (map view_arg (call.out-Call e).args.items))) (sym lis) ∙ ap (λ (z : List arg.Arg). first l ∷ names sc (listed (map view_arg z))) (sym kis) ∙ ap (λ (z : List Name). first l ∷ z) (each_listed sc (map view_arg k)))

pub renamed : (sc : Scope) (f g : Full) (old new : Noted) → f ≡ g → new ≡ with_names old (names sc (view_full f)) → new ≡ with_names old (names sc (view_full g))
renamed sc f g old new is e = e ∙ ap (λ (x : Full). with_names old (names sc (view_full x))) is

pub compare_parts : (sc : Scope) (e : compare.Compare) (r : compared.Compared) (old a new : Noted) → (compare.out-Compare e).right ≡ Some r → a ≡ with_names old (names sc (view_sum (compare.out-Compare e).left)) → new ≡ with_names a (names sc (view_sum (compared.out-Compared r).sum)) → new ≡ with_names old (names sc (view_compare e))
compare_parts sc e r old a new is ais nis = two_parts old a new (names sc (view_sum (compare.out-Compare e).left)) (names sc (view_sum (compared.out-Compared r).sum)) (names sc (view_compare e)) ais nis (ap (names sc) (compare_seen e r is))

tuple_listed : (sc : Scope) (at : ℕ) (ts : List (Tree AFull)) → names sc (tuple_of at (listed ts)) ≡ names_each sc ts
tuple_listed sc at [] = refl
tuple_listed sc at (f ∷ []) = sym (append-nil (names sc f))
tuple_listed sc at (f ∷ g ∷ rest) = ap (λ (z : List Name). names sc f ++ names sc g ++ z) (each_listed sc rest) ∙ append_assoc (names sc f) (names sc g) (names_each sc rest)

pub tuple_names : (sc : Scope) (at : ℕ) (v : Vec Full) → names sc (view_operand (operand.Tuple at v)) ≡ names_each sc (map view_full v.items)
tuple_names sc at v = ap (λ (t : _). names sc (tuple_of at t)) (fulls_listed v) ∙ tuple_listed sc at (map view_full v.items)

pub list_names : (sc : Scope) (at : ℕ) (v : Vec Full) → names sc (view_operand (operand.List at v)) ≡ names_each sc (map view_full v.items)
list_names sc at v = ap (λ (t : Tree (Many AFull)). names sc (Listed at t)) (fulls_listed v) ∙ each_listed sc (map view_full v.items)
