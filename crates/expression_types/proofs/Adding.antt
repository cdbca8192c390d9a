-- The uses that are added by the parts of a tree are those of the whole, in order.
use Rattle.std.proofs.Common.{◌≡◌, ◌∙◌, sym, ap, subst, refl, ℕ, ◌+◌, ◌<◌, ◌≤◌, length, get_or, take, List, [], ◌∷◌, ◌++◌, map, append_assoc, Bool, true, false, Option, Some, None, Result, Ok, Err, IfOk, arith}
use Rattle.liq_base.specs.declared.memory.Memory.{Memory}
use Rattle.std.proofs.lemmas.List.{append-nil, map-append, take_all, take_more}
use Rattle.script_grammar.specs.Tree.{Sort, Tree, AFull, If}
use Rattle.script_grammar.specs.View.{listed, tuple_of, view_added, view_and, view_arg, view_call, view_compare, view_expr, view_full, view_not, view_product, view_sum, view_operand, view_multiplied}
use Rattle.script_grammar.specs.declared.tree.Full.{Full}
use Rattle.script_grammar.specs.declared.tree.Expr as expr
use Rattle.script_grammar.specs.declared.tree.And as and_
use Rattle.script_grammar.specs.declared.tree.Not as not_
use Rattle.script_grammar.specs.declared.tree.Compare as compare
use Rattle.script_grammar.specs.declared.tree.Compared as compared
use Rattle.script_grammar.specs.declared.tree.Sum as sum
use Rattle.script_grammar.specs.declared.tree.Added as added
use Rattle.script_grammar.specs.declared.tree.Product as product
use Rattle.script_grammar.specs.declared.tree.Multiplied as multiplied
use Rattle.script_grammar.specs.declared.tree.Call as call
use Rattle.script_grammar.specs.declared.tree.Arg as arg
use Rattle.typing_rules.specs.declared.uses.Target.{Target}
use Rattle.typing_rules.specs.declared.uses.Target.TheVariants as target
use Rattle.type_terms.specs.declared.ty.KindTerm.{KindTerm}
use Rattle.script_grammar.proofs.Rows.{added_seen, and_seen, call_seen, compare_alone, compare_seen, expr_seen, not_seen, product_seen, sum_seen}
use Rattle.type_steps.specs.Environment.{Found, with_use}
use Rattle.type_steps.specs.Flow.{if_yes}
use Rattle.expression_types.specs.Seen.{IsNamed, env_of}
use Rattle.expression_types.specs.declared.environment.Names.{Names}
use Rattle.expression_types.specs.Order.{AreAdded, AreAddedIf, AreAddedWhere, Said, kinds_count, said_at, said_of, tokens_used}

pub none_added : (ns : Names) (fs : List Found) → AreAdded ns [] fs fs
none_added ns fs = sym (append-nil (map said_of fs))

pub both_added : (ns : Names) (ts us : List ℕ) (old mid new : List Found) → AreAdded ns ts old mid → AreAdded ns us mid new → AreAdded ns (ts ++ us) old new
both_added ns ts us old mid new f g =
    g ∙ ap (λ (l : List Said). l ++ map (said_at ns) us) f
    ∙ append_assoc (map said_of old) (map (said_at ns) ts) (map (said_at ns) us)
    ∙ ap (λ (l : List Said). map said_of old ++ l) (sym (map-append (said_at ns) ts us))

pub added_as : (ns : Names) (ts us : List ℕ) (old new : List Found) → ts ≡ us → AreAdded ns ts old new → AreAdded ns us old new
added_as ns ts us old new e f = subst (λ (l : List ℕ). AreAdded ns l old new) e f

pub added_if : (ns : Names) (ts : List ℕ) (old new : List Found) (made : Bool) (n : ℕ) (answer : Option ℕ) → answer ≡ if_yes made n → AreAdded ns ts old new → AreAddedIf ns ts old new answer
added_if ns ts old new made n answer is f = subst (λ (r : Option ℕ). AreAddedIf ns ts old new r) (sym is) (by_answer made) where
  by_answer : (b : Bool) → AreAddedIf ns ts old new (if_yes b n)
  by_answer true = f
  by_answer false = tt

pub added_where : (ns : Names) (ts : List ℕ) (old new : List Found) (made : Bool) → AreAdded ns ts old new → AreAddedWhere ns ts old new made
added_where ns ts old new true f = f
added_where ns ts old new false f = tt

-- ---- leaves

pub use_added : (ns : Names) (at : ℕ) (t : Target) (ks : List KindTerm) (old new : List Found) → (env_of ns).targets at ≡ Some t → kinds_count ns.defs.now (Some t) ≡ Some (length ks) → new ≡ with_use old at t ks → AreAdded ns (at ∷ []) old new
use_added ns at t ks old new means counted is =
    ap (map said_of) is ∙ map-append said_of old (record { at = at; target = t; kinds = ks } ∷ [])
    ∙ ap (λ (x : Said). map said_of old ++ x ∷ []) (sym (said means counted)) where
      said : (env_of ns).targets at ≡ Some t → kinds_count ns.defs.now (Some t) ≡ Some (length ks) → ◌≡◌ {A = Said} (said_at ns at) (at, Some t, Some (length ks))
      said m c = ap (λ (o : Option Target). (at, o, kinds_count ns.defs.now o)) m ∙ ap (λ (k : Option ℕ). (at, Some t, k)) c

pub name_added : (ns : Names) (at : ℕ) (old new : List Found) (answer : Option ℕ) → IsNamed (env_of ns) at old new answer → AreAddedIf ns (at ∷ []) old new answer
name_added ns at old new None f = tt
name_added ns at old new (Some n) f = use_added ns at (target.Slot f.0) [] old new f.1 refl f.2

pub name_answered : (ns : Names) (at : ℕ) (old new : List Found) (x : Result (Option ℕ) Memory) → IfOk x (λ r. IsNamed (env_of ns) at old new r) → IfOk x (λ r. AreAddedIf ns (at ∷ []) old new r)
name_answered ns at old new (Ok answer) f = name_added ns at old new answer f
name_answered ns at old new (Err m) f = tt

-- ---- loops

tokens_last : {s : Sort} (ts : List (Tree s)) (t : Tree s) → tokens_used (listed (ts ++ t ∷ [])) ≡ tokens_used (listed ts) ++ tokens_used t
tokens_last [] t = append-nil (tokens_used t)
tokens_last (u ∷ ts) t = ap (λ (l : List ℕ). tokens_used u ++ l) (tokens_last ts t) ∙ sym (append_assoc (tokens_used u) (tokens_used (listed ts)) (tokens_used t))

pub next_added : {A : Type 0} {s : Sort} (view : A → Tree s) (xs : List A) (i : ℕ) (x : A) → i < length xs → x ≡ get_or xs i x → (ns : Names) (old mid new : List Found) → AreAdded ns (tokens_used (listed (map view (take i xs)))) old mid → AreAdded ns (tokens_used (view x)) mid new → AreAdded ns (tokens_used (listed (map view (take (i + 1) xs)))) old new
next_added {A} {s} view xs i x lt is ns old mid new f g =
    let taken : map view (take (i + 1) xs) ≡ map view (take i xs) ++ view x ∷ [] = ap (map view) (take_more xs i x lt ∙ ap (λ y. take i xs ++ y ∷ []) (sym is)) ∙ map-append view (take i xs) (x ∷ []) in
    added_as ns (tokens_used (listed (map view (take i xs))) ++ tokens_used (view x)) (tokens_used (listed (map view (take (i + 1) xs)))) old new
    (sym (ap (λ (l : List (Tree s)). tokens_used (listed l)) taken ∙ tokens_last (map view (take i xs)) (view x)))
    (both_added ns (tokens_used (listed (map view (take i xs)))) (tokens_used (view x)) old mid new f g)

pub all_added : {A : Type 0} {s : Sort} (view : A → Tree s) (xs : List A) (i : ℕ) → length xs ≤ i → (ns : Names) (old new : List Found) → AreAdded ns (tokens_used (listed (map view (take i xs)))) old new → AreAdded ns (tokens_used (listed (map view xs))) old new
all_added view xs i le ns old new f = subst (λ l. AreAdded ns (tokens_used (listed (map view l))) old new) (take_all i xs le) f

-- ---- chains

chain_added : (ns : Names) (whole ts us : List ℕ) (old mid new : List Found) (made : Bool) (n : ℕ) (answer : Option ℕ) → whole ≡ ts ++ us → answer ≡ if_yes made n → AreAdded ns ts old mid → AreAdded ns us mid new → AreAddedIf ns whole old new answer
chain_added ns whole ts us old mid new made n answer is answers f g = added_if ns whole old new made n answer answers (added_as ns (ts ++ us) whole old new (sym is) (both_added ns ts us old mid new f g))

module _ (ns : Names) (old mid new : List Found) (made : Bool) (n : ℕ) (answer : Option ℕ) (answers : answer ≡ if_yes made n) where
  pub expr_added : (e : expr.Expr) (l : List and_.And) → l ≡ (expr.out-Expr e).rest.items → AreAdded ns (tokens_used (view_and (expr.out-Expr e).first)) old mid → AreAdded ns (tokens_used (listed (map view_and l))) mid new → AreAddedIf ns (tokens_used (view_expr e)) old new answer
  expr_added e l lis f g = chain_added ns (tokens_used (view_expr e)) (tokens_used (view_and (expr.out-Expr e).first)) (tokens_used (listed (map view_and l))) old mid new made n answer
      (ap tokens_used (expr_seen e) ∙ ap (λ (k : List and_.And). tokens_used (view_and (expr.out-Expr e).first) ++ tokens_used (listed (map view_and k))) (sym lis)) answers f g

  pub and_added : (e : and_.And) (l : List not_.Not) → l ≡ (and_.out-And e).rest.items → AreAdded ns (tokens_used (view_not (and_.out-And e).first)) old mid → AreAdded ns (tokens_used (listed (map view_not l))) mid new → AreAddedIf ns (tokens_used (view_and e)) old new answer
  and_added e l lis f g = chain_added ns (tokens_used (view_and e)) (tokens_used (view_not (and_.out-And e).first)) (tokens_used (listed (map view_not l))) old mid new made n answer
      (ap tokens_used (and_seen e) ∙ ap (λ (k : List not_.Not). tokens_used (view_not (and_.out-And e).first) ++ tokens_used (listed (map view_not k))) (sym lis)) answers f g

  pub sum_added : (e : sum.Sum) (l : List added.Added) → l ≡ (sum.out-Sum e).rest.items → AreAdded ns (tokens_used (view_product (sum.out-Sum e).first)) old mid → AreAdded ns (tokens_used (listed (map view_added l))) mid new → AreAddedIf ns (tokens_used (view_sum e)) old new answer
  sum_added e l lis f g = chain_added ns (tokens_used (view_sum e)) (tokens_used (view_product (sum.out-Sum e).first)) (tokens_used (listed (map view_added l))) old mid new made n answer
      (ap tokens_used (sum_seen e) ∙ ap (λ (k : List added.Added). tokens_used (view_product (sum.out-Sum e).first) ++ tokens_used (listed (map view_added k))) (sym lis)) answers f g

  pub product_added : (e : product.Product) (l : List multiplied.Multiplied) → l ≡ (product.out-Product e).rest.items → AreAdded ns (tokens_used (view_operand (product.out-Product e).first)) old mid → AreAdded ns (tokens_used (listed (map view_multiplied l))) mid new → AreAddedIf ns (tokens_used (view_product e)) old new answer
  product_added e l lis f g = chain_added ns (tokens_used (view_product e)) (tokens_used (view_operand (product.out-Product e).first)) (tokens_used (listed (map view_multiplied l))) old mid new made n answer
      (ap tokens_used (product_seen e) ∙ ap (λ (k : List multiplied.Multiplied). tokens_used (view_operand (product.out-Product e).first) ++ tokens_used (listed (map view_multiplied k))) (sym lis)) answers f g

-- a term of a sum, behind its operator
pub term_added : (ns : Names) (a : added.Added) (old new : List Found) → AreAdded ns (tokens_used (view_product (added.out-Added a).product)) old new → AreAdded ns (tokens_used (view_added a)) old new
term_added ns a old new f = added_as ns (tokens_used (view_product (added.out-Added a).product)) (tokens_used (view_added a)) old new (sym (ap tokens_used (added_seen a))) f

-- ---- the other forms

pub not_added : (ns : Names) (e : not_.Not) (old new : List Found) → AreAdded ns (tokens_used (view_compare (not_.out-Not e).inner)) old new → AreAdded ns (tokens_used (view_not e)) old new
not_added ns e old new f = added_as ns (tokens_used (view_compare (not_.out-Not e).inner)) (tokens_used (view_not e)) old new (sym (ap tokens_used (not_seen e))) f

pub alone_added : (ns : Names) (e : compare.Compare) (old new : List Found) → (compare.out-Compare e).right ≡ None → AreAdded ns (tokens_used (view_sum (compare.out-Compare e).left)) old new → AreAdded ns (tokens_used (view_compare e)) old new
alone_added ns e old new is f = added_as ns (tokens_used (view_sum (compare.out-Compare e).left)) (tokens_used (view_compare e)) old new (sym (ap tokens_used (compare_alone e is))) f

pub compared_added : (ns : Names) (e : compare.Compare) (r : compared.Compared) (old mid new : List Found) → (compare.out-Compare e).right ≡ Some r → AreAdded ns (tokens_used (view_sum (compare.out-Compare e).left)) old mid → AreAdded ns (tokens_used (view_sum (compared.out-Compared r).sum)) mid new → AreAdded ns (tokens_used (view_compare e)) old new
compared_added ns e r old mid new is f g =
    let ts = tokens_used (view_sum (compare.out-Compare e).left) in
    let us = tokens_used (view_sum (compared.out-Compared r).sum) in
    added_as ns (ts ++ us) (tokens_used (view_compare e)) old new (sym (ap tokens_used (compare_seen e r is))) (both_added ns ts us old mid new f g)

pub branches_added : (ns : Names) (at : ℕ) (c x y : Tree AFull) (old f1 f2 new : List Found) (made : Bool) (n : ℕ) (answer : Option ℕ) → answer ≡ if_yes made n → AreAdded ns (tokens_used c) old f1 → AreAdded ns (tokens_used x) f1 f2 → AreAddedWhere ns (tokens_used y) f2 new made → AreAddedIf ns (tokens_used (If at c x y)) old new answer
branches_added ns at c x y old f1 f2 new made n answer answers f g h = subst (λ (r : Option ℕ). AreAddedIf ns (tokens_used (If at c x y)) old new r) (sym answers) (by_other made h) where
  by_other : (b : Bool) → AreAddedWhere ns (tokens_used y) f2 new b → AreAddedIf ns (tokens_used (If at c x y)) old new (if_yes b n)
  by_other true h = both_added ns (tokens_used c ++ tokens_used x) (tokens_used y) old f2 new (both_added ns (tokens_used c) (tokens_used x) old f1 f2 f g) h
  by_other false h = tt

-- ---- parts in parentheses

pub parts_used : (at : ℕ) (ts : List (Tree AFull)) → tokens_used (listed ts) ≡ tokens_used (tuple_of at (listed ts))
parts_used at [] = refl
parts_used at (f ∷ []) = append-nil (tokens_used f)
parts_used at (f ∷ g ∷ rest) = sym (append_assoc (tokens_used f) (tokens_used g) (tokens_used (listed rest)))

pub part_added : (ns : Names) (at : ℕ) (xs : List Full) (x : Full) (old new : List Found) (answer : Option ℕ) → length xs ≡ 1 → x ≡ get_or xs 0 x → AreAddedIf ns (tokens_used (view_full x)) old new answer → AreAddedIf ns (tokens_used (tuple_of at (listed (map view_full xs)))) old new answer
part_added ns at [] x old new answer is at_0 f = absurd (omega (arith, is))
part_added ns at (y ∷ []) x old new answer is at_0 f = subst (λ (z : Full). AreAddedIf ns (tokens_used (view_full z)) old new answer) at_0 f
part_added ns at (y ∷ z ∷ xs) x old new answer is at_0 f = absurd (omega (arith, is))

pub empty_added : (ns : Names) (at : ℕ) (xs : List Full) (fs : List Found) → length xs ≡ 0 → AreAdded ns (tokens_used (tuple_of at (listed (map view_full xs)))) fs fs
empty_added ns at [] fs is = none_added ns fs
empty_added ns at (x ∷ xs) fs is = absurd (omega (arith, is))

pub tuple_added : (ns : Names) (at : ℕ) (xs : List Full) (old new : List Found) → AreAdded ns (tokens_used (listed (map view_full xs))) old new → AreAdded ns (tokens_used (tuple_of at (listed (map view_full xs)))) old new
tuple_added ns at xs old new f = added_as ns (tokens_used (listed (map view_full xs))) (tokens_used (tuple_of at (listed (map view_full xs)))) old new (parts_used at (map view_full xs)) f

-- ---- calls

pub call_added : (ns : Names) (e : call.Call) (l : List arg.Arg) (old mid new : List Found) → l ≡ (call.out-Call e).args.items → AreAdded ns ((call.out-Call e).at ∷ []) old mid → AreAdded ns (tokens_used (listed (map view_arg l))) mid new → AreAdded ns (tokens_used (view_call e)) old new
call_added ns e l old mid new lis f g =
    added_as ns (((call.out-Call e).at ∷ []) ++ tokens_used (listed (map view_arg l))) (tokens_used (view_call e)) old new
    (sym (ap tokens_used (call_seen e) ∙ ap (λ (k : List arg.Arg). (call.out-Call e).at ∷ tokens_used (listed (map view_arg k))) (sym lis)))
    (both_added ns ((call.out-Call e).at ∷ []) (tokens_used (listed (map view_arg l))) old mid new f g)
