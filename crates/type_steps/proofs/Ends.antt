-- What the program's functions answer at loops, joins and the forms that are no chains.
use Rattle.std.proofs.Common.{◌≡◌, ◌∙◌, sym, ap, subst, refl, ℕ, zero, suc, ◌+◌, ◌<◌, ◌≤◌, length, List, [], ◌∷◌, ◌++◌, map, take, drop, get_or, arith, Some, None, Option, Bool, true, false}
use Rattle.std.proofs.lemmas.List.{take_more, take_all, map-append}
use Rattle.script_grammar.specs.View.{listed, tuple_of, view_not, view_compare, view_sum, view_product, view_added, view_full, view_arg}
use Rattle.script_grammar.specs.Tree.{Sort, Tree, Many, AFull, AnArg, AnOperand, ASum, none, more, Not, Alone, Compared, Added, Arg, If, Listed, Tuple, Paren, Nothing}
use Rattle.script_grammar.specs.Tree as tree
use Rattle.script_grammar.specs.declared.tree.Full.{Full}
use Rattle.script_grammar.specs.declared.tree.Not as not_
use Rattle.script_grammar.specs.declared.tree.Compare as compare
use Rattle.script_grammar.specs.declared.tree.Compared as compared
use Rattle.script_grammar.specs.declared.tree.Added as added
use Rattle.script_grammar.specs.declared.tree.Arg as arg
use Rattle.type_terms.specs.Ground.{Ground, IsNumber, base_type}
use Rattle.type_terms.specs.Term.{base_term, tuple_term, variable, terms_of}
use Rattle.type_terms.specs.declared.ty.Base.{Base}
use Rattle.type_terms.specs.declared.ty.Base.TheVariants as base
use Rattle.type_terms.specs.Table.{Table}
use Rattle.typing_rules.specs.Typing.{Sight, Has, truth}
use Rattle.typing_rules.specs.Arguments.{GivenArgument}
use Rattle.script_grammar.proofs.Rows.{compare_seen, not_seen, added_seen, compare_alone}
use Rattle.type_steps.specs.Environment.{Env, Found, AreUsesOver, IsEnvOver}
use Rattle.type_steps.specs.Flow.{Infers, HasNoType, InfersEach, HaveNoType, InfersAll, HaveNoTypes, InfersGiven, HaveNoGiven, Restricts, Defines, Never, IsMade, IsTypeOf, AreJoined, if_yes}
use Rattle.type_steps.proofs.Forms.{infers_as, known_infers, one_joined, one_differs, each_joined, each_joined_none, prefix_none}
use Rattle.type_steps.proofs.Shapes.{fact_infers, fact_none, compared_infers, compared_never, compared_first, compared_second, choice_infers, choice_other}
use Rattle.type_steps.proofs.Parts.{all_last_infers, all_last_none, all_front_none, given_last_infers, given_last_none, given_front_none, terms_last, tuple_infers, tuple_none}

-- ---- one more of the same type

pub join_done : {t : Sort} (s s1 s2 : Table) (env : Env) (x : Tree t) (n w : ℕ) (old new : List Found) (made : Bool) → IsEnvOver s env → AreUsesOver s old → n < length s.types → Infers s s1 env x (variable w) old new → IsMade made s1 s2 (λ a. a.type_of n ≡ a.type_of w) → AreJoined s s2 env (more x none) n old new made
join_done s s1 s2 env x n w old new true o us over f h = one_joined s s1 s2 env x (variable n) (variable w) old new o us over f h
join_done s s1 s2 env x n w old new false o us over f h = one_differs s s1 env x (variable n) (variable w) old new o us over f h

-- the same of a term of a sum, whose tree has an operator before it
pub added_done : (s s' : Table) (env : Env) (a : added.Added) (n : ℕ) (old new : List Found) (made : Bool) → AreJoined s s' env (more (view_product (added.out-Added a).product) none) n old new made → AreJoined s s' env (more (view_added a) none) n old new made
added_done s s' env a n old new made f = subst (λ x. AreJoined s s' env (more x none) n old new made) (sym (added_seen a)) (operator made f) where
  operator : (made : Bool) → AreJoined s s' env (more (view_product (added.out-Added a).product) none) n old new made → AreJoined s s' env (more (Added (added.out-Added a).at (added.out-Added a).minus (view_product (added.out-Added a).product)) none) n old new made
  operator true f = record { uses = f.uses; follows = f.follows; sound = f.sound; complete = f.complete }
  operator false f = f

pub factor_done : (s s' : Table) (env : Env) (at : ℕ) (divide : Bool) (x : Tree AnOperand) (n : ℕ) (old new : List Found) (made : Bool) → AreJoined s s' env (more x none) n old new made → AreJoined s s' env (more (tree.Multiplied at divide x) none) n old new made
factor_done s s' env at divide x n old new true f = record { uses = f.uses; follows = f.follows; sound = f.sound; complete = f.complete }
factor_done s s' env at divide x n old new false f = f

-- ---- loops

next_taken : {A : Type 0} {t : Sort} (view : A → Tree t) (xs : List A) (i : ℕ) (x : A) → i < length xs → x ≡ get_or xs i x → map view (take (i + 1) xs) ≡ map view (take i xs) ++ view x ∷ []
next_taken view xs i x lt is = ap (map view) (take_more xs i x lt ∙ ap (λ y. take i xs ++ y ∷ []) (sym is)) ∙ map-append view (take i xs) (x ∷ [])

halves : {A : Type 0} {t : Sort} (view : A → Tree t) (n : ℕ) (xs : List A) → map view xs ≡ map view (take n xs) ++ map view (drop n xs)
halves view zero xs = refl
halves view (suc n) [] = refl
halves view (suc n) (x ∷ xs) = ap (λ l. view x ∷ l) (halves view n xs)

module _ {A : Type 0} {t : Sort} (view : A → Tree t) (xs : List A) (i : ℕ) (x : A) (lt : i < length xs) (is : x ≡ get_or xs i x) (s s1 : Table) (env : Env) (n : ℕ) (old mid : List Found) (o : IsEnvOver s env) (over : n < length s.types)
    (f : InfersEach s s1 env (listed (map view (take i xs))) (variable n) old mid) where
  pub joins_next : (s2 : Table) (new : List Found) → InfersEach s1 s2 env (more (view x) none) (variable n) mid new → InfersEach s s2 env (listed (map view (take (i + 1) xs))) (variable n) old new
  joins_next s2 new g =
      subst (λ l. InfersEach s s2 env (listed l) (variable n) old new) (sym (next_taken view xs i x lt is))
      (each_joined s s1 env (map view (take i xs)) (view x) (variable n) old mid o over f s2 new g)

  pub joins_stop : HaveNoType s1 env (more (view x) none) (variable n) mid → HaveNoType s env (listed (map view xs)) (variable n) old
  joins_stop h =
      subst (λ l. HaveNoType s env (listed l) (variable n) old) (sym (halves view (i + 1) xs))
      (prefix_none s env (map view (take (i + 1) xs)) (map view (drop (i + 1) xs)) (variable n) old
      (subst (λ l. HaveNoType s env (listed l) (variable n) old) (sym (next_taken view xs i x lt is))
      (each_joined_none s s1 env (map view (take i xs)) (view x) (variable n) old mid o over f h)))

pub joins_end : {A : Type 0} {t : Sort} (view : A → Tree t) (xs : List A) (i : ℕ) (s s1 : Table) (env : Env) (n : ℕ) (old new : List Found) → length xs ≤ i → InfersEach s s1 env (listed (map view (take i xs))) (variable n) old new → InfersEach s s1 env (listed (map view xs)) (variable n) old new
joins_end view xs i s s1 env n old new le f = subst (λ l. InfersEach s s1 env (listed (map view l)) (variable n) old new) (take_all i xs le) f

-- ---- the types of several

module _ (xs : List Full) (i : ℕ) (x : Full) (lt : i < length xs) (is : x ≡ get_or xs i x) (s s1 : Table) (env : Env) (ns : List ℕ) (old mid : List Found) (o : IsEnvOver s env)
    (f : InfersAll s s1 env (listed (map view_full (take i xs))) (terms_of (map variable ns)) old mid) where
  pub fulls_next : (s2 : Table) (n : ℕ) (new : List Found) → Infers s1 s2 env (view_full x) (variable n) mid new → InfersAll s s2 env (listed (map view_full (take (i + 1) xs))) (terms_of (map variable (ns ++ n ∷ []))) old new
  fulls_next s2 n new g =
      subst (λ l. InfersAll s s2 env (listed l) (terms_of (map variable (ns ++ n ∷ []))) old new) (sym (next_taken view_full xs i x lt is))
      (subst (λ us. InfersAll s s2 env (listed (map view_full (take i xs) ++ view_full x ∷ [])) us old new) (sym (ap terms_of (map-append variable ns (n ∷ [])) ∙ terms_last (map variable ns) (variable n)))
      (all_last_infers s s1 env (map view_full (take i xs)) (view_full x) (terms_of (map variable ns)) old mid o f s2 (variable n) new g))

  pub fulls_stop : HasNoType s1 env (view_full x) mid → HaveNoTypes s env (listed (map view_full xs)) old
  fulls_stop h =
      subst (λ l. HaveNoTypes s env (listed l) old) (sym (halves view_full (i + 1) xs))
      (all_front_none s env (map view_full (take (i + 1) xs)) (map view_full (drop (i + 1) xs)) old
      (subst (λ l. HaveNoTypes s env (listed l) old) (sym (next_taken view_full xs i x lt is))
      (all_last_none s s1 env (map view_full (take i xs)) (view_full x) (terms_of (map variable ns)) old mid o f h)))

pub fulls_end : (xs : List Full) (i : ℕ) (s s1 : Table) (env : Env) (ns : List ℕ) (old new : List Found) → length xs ≤ i → InfersAll s s1 env (listed (map view_full (take i xs))) (terms_of (map variable ns)) old new → InfersAll s s1 env (listed (map view_full xs)) (terms_of (map variable ns)) old new
fulls_end xs i s s1 env ns old new le f = subst (λ l. InfersAll s s1 env (listed (map view_full l)) (terms_of (map variable ns)) old new) (take_all i xs le) f

-- ---- the arguments of a call

module _ (xs : List arg.Arg) (i : ℕ) (x : arg.Arg) (lt : i < length xs) (is : x ≡ get_or xs i x) (s s1 : Table) (env : Env) (gs : List (GivenArgument ℕ)) (old mid : List Found) (o : IsEnvOver s env)
    (f : InfersGiven s s1 env (listed (map view_arg (take i xs))) gs old mid) where
  pub args_next : (s2 : Table) (n : ℕ) (new : List Found) (hs : List (GivenArgument ℕ)) → hs ≡ gs ++ (x.label, n) ∷ [] → Infers s1 s2 env (view_full x.value) (variable n) mid new → InfersGiven s s2 env (listed (map view_arg (take (i + 1) xs))) hs old new
  args_next s2 n new hs his g =
      subst (λ l. InfersGiven s s2 env (listed l) hs old new) (sym (next_taken view_arg xs i x lt is))
      (subst (λ us. InfersGiven s s2 env (listed (map view_arg (take i xs) ++ view_arg x ∷ [])) us old new) (sym his)
      (given_last_infers s s1 env (map view_arg (take i xs)) x.at x.label (view_full x.value) gs old mid o f s2 n new g))

  pub args_stop : HasNoType s1 env (view_full x.value) mid → HaveNoGiven s env (listed (map view_arg xs)) old
  args_stop h =
      subst (λ l. HaveNoGiven s env (listed l) old) (sym (halves view_arg (i + 1) xs))
      (given_front_none s env (map view_arg (take (i + 1) xs)) (map view_arg (drop (i + 1) xs)) old
      (subst (λ l. HaveNoGiven s env (listed l) old) (sym (next_taken view_arg xs i x lt is))
      (given_last_none s s1 env (map view_arg (take i xs)) x.at x.label (view_full x.value) gs old mid o f h)))

pub args_end : (xs : List arg.Arg) (i : ℕ) (s s1 : Table) (env : Env) (gs : List (GivenArgument ℕ)) (old new : List Found) → length xs ≤ i → InfersGiven s s1 env (listed (map view_arg (take i xs))) gs old new → InfersGiven s s1 env (listed (map view_arg xs)) gs old new
args_end xs i s s1 env gs old new le f = subst (λ l. InfersGiven s s1 env (listed (map view_arg l)) gs old new) (take_all i xs le) f

-- ---- literals and other leaves

pub leaf_infers : {r : Sort} (s s' : Table) (env : Env) (e : Tree r) (b : Base) (n : ℕ) (fs : List Found) → ((z : Sight) → Has z e (base_type b)) → ((z : Sight) (g : Ground) → Has z e g → g ≡ base_type b) → IsEnvOver s env → AreUsesOver s fs → Defines s s' n (base_term b) → Infers s s' env e (variable n) fs fs
leaf_infers s s' env e b n fs has only o us d = known_infers s s' env e (variable n) (base_type b) fs has only o us d.inside d.follows d.sound d.complete

-- ---- `not`

pub not_done : (e : not_.Not) (s s1 s2 : Table) (env : Env) (n : ℕ) (old new : List Found) (made : Bool) (answer : Option ℕ) → IsEnvOver s env → (not_.out-Not e).negated ≡ true → answer ≡ if_yes made n → Infers s s1 env (view_compare (not_.out-Not e).inner) (variable n) old new → IsMade made s1 s2 (λ a. a.type_of n ≡ truth) → IsTypeOf s s2 env (view_not e) old new answer
not_done e s s1 s2 env n old new made answer o is answers f h =
    subst (λ (x : Option ℕ). IsTypeOf s s2 env (view_not e) old new x) (sym answers)
    (subst (λ t. IsTypeOf s s2 env t old new (if_yes made n)) (sym (not_seen e ∙ ap (λ b. Not b (view_compare (not_.out-Not e).inner)) is)) (negated made h)) where
      negated : (made : Bool) → IsMade made s1 s2 (λ a. a.type_of n ≡ truth) → IsTypeOf s s2 env (Not true (view_compare (not_.out-Not e).inner)) old new (if_yes made n)
      negated true h = fact_infers (Not true (view_compare (not_.out-Not e).inner)) (view_compare (not_.out-Not e).inner) (λ g. g ≡ truth) (λ z g p is. (is, subst (λ v. Has z (view_compare (not_.out-Not e).inner) v) is p)) (λ z g p. (subst (λ v. Has z (view_compare (not_.out-Not e).inner) v) (sym p.0) p.1, p.0)) s s1 env (variable n) old new o s2 f h
      negated false h = fact_none (Not true (view_compare (not_.out-Not e).inner)) (view_compare (not_.out-Not e).inner) (λ g. g ≡ truth) (λ z g p is. (is, subst (λ v. Has z (view_compare (not_.out-Not e).inner) v) is p)) (λ z g p. (subst (λ v. Has z (view_compare (not_.out-Not e).inner) v) (sym p.0) p.1, p.0)) s s1 env (variable n) old new o f h

pub not_plain : (e : not_.Not) (s s' : Table) (env : Env) (n : ℕ) (old new : List Found) → (not_.out-Not e).negated ≡ false → Infers s s' env (view_compare (not_.out-Not e).inner) (variable n) old new → Infers s s' env (view_not e) (variable n) old new
not_plain e s s' env n old new is f =
    subst (λ t. Infers s s' env t (variable n) old new) (sym (not_seen e ∙ ap (λ b. Not b (view_compare (not_.out-Not e).inner)) is))
    (infers_as (view_compare (not_.out-Not e).inner) (Not false (view_compare (not_.out-Not e).inner)) (λ z g h. h) (λ z g h. h) s s' env (variable n) old new f)

pub not_none : (e : not_.Not) (s : Table) (env : Env) (old : List Found) → HasNoType s env (view_compare (not_.out-Not e).inner) old → HasNoType s env (view_not e) old
not_none e s env old n = subst (λ t. HasNoType s env t old) (sym (not_seen e)) (by_sign (not_.out-Not e).negated) where
  by_sign : (b : Bool) → HasNoType s env (Not b (view_compare (not_.out-Not e).inner)) old
  by_sign true a m k v p q = n a m k truth p.1 q
  by_sign false a m k v p q = n a m k v p q

-- ---- comparisons

pub alone_infers : (e : compare.Compare) (s s' : Table) (env : Env) (n : ℕ) (old new : List Found) → (compare.out-Compare e).right ≡ None → Infers s s' env (view_sum (compare.out-Compare e).left) (variable n) old new → Infers s s' env (view_compare e) (variable n) old new
alone_infers e s s' env n old new is f =
    subst (λ t. Infers s s' env t (variable n) old new) (sym (compare_alone e is)) (infers_as (view_sum (compare.out-Compare e).left) (Alone (view_sum (compare.out-Compare e).left)) (λ z g h. h) (λ z g h. h) s s' env (variable n) old new f)

module _ (e : compare.Compare) (r : compared.Compared) (is : (compare.out-Compare e).right ≡ Some r) (s s1 : Table) (env : Env) (n : ℕ) (old mid : List Found) (o : IsEnvOver s env)
    (f : Infers s s1 env (view_sum (compare.out-Compare e).left) (variable n) old mid) where
  pub right_none : HaveNoType s1 env (more (view_sum (compared.out-Compared r).sum) none) (variable n) mid → HasNoType s env (view_compare e) old
  right_none h = subst (λ t. HasNoType s env t old) (sym (compare_seen e r is)) (compared_second s s1 env (view_sum (compare.out-Compare e).left) (view_sum (compared.out-Compared r).sum) (compared.out-Compared r).at (compared.out-Compared r).op (variable n) old mid o f h)

  pub numbers_never : (s2 : Table) (new : List Found) → InfersEach s1 s2 env (more (view_sum (compared.out-Compared r).sum) none) (variable n) mid new → Never s2 (λ a. IsNumber (a.type_of n)) → HasNoType s env (view_compare e) old
  numbers_never s2 new g h = subst (λ t. HasNoType s env t old) (sym (compare_seen e r is)) (compared_never s s1 s2 env (view_sum (compare.out-Compare e).left) (view_sum (compared.out-Compared r).sum) (compared.out-Compared r).at (compared.out-Compared r).op (variable n) old mid new o f g h)

  pub comparison_done : (s2 s3 s4 : Table) (new : List Found) (w : ℕ) → InfersEach s1 s2 env (more (view_sum (compared.out-Compared r).sum) none) (variable n) mid new → Restricts s2 s3 (λ a. IsNumber (a.type_of n)) → Defines s3 s4 w (base_term base.Bool) → Infers s s4 env (view_compare e) (variable w) old new
  comparison_done s2 s3 s4 new w g h d = subst (λ t. Infers s s4 env t (variable w) old new) (sym (compare_seen e r is)) (compared_infers s s1 s2 env (view_sum (compare.out-Compare e).left) (view_sum (compared.out-Compared r).sum) (compared.out-Compared r).at (compared.out-Compared r).op (variable n) old mid new o f g s3 s4 w h d)

pub left_none : (e : compare.Compare) (s : Table) (env : Env) (old : List Found) → HasNoType s env (view_sum (compare.out-Compare e).left) old → HasNoType s env (view_compare e) old
left_none e s env old n = by_right (compare.out-Compare e).right refl where
  by_right : (o : Option compared.Compared) → (compare.out-Compare e).right ≡ o → HasNoType s env (view_compare e) old
  by_right None is = subst (λ t. HasNoType s env t old) (sym (compare_alone e is)) (λ a m k v p q. n a m k v p q)
  by_right (Some r) is = subst (λ t. HasNoType s env t old) (sym (compare_seen e r is)) (compared_first s env (view_sum (compare.out-Compare e).left) (view_sum (compared.out-Compared r).sum) (compared.out-Compared r).at (compared.out-Compared r).op old n)

-- ---- tuples

pub tuple_empty : (s s' : Table) (env : Env) (at : ℕ) (xs : List Full) (n : ℕ) (fs : List Found) → length xs ≡ 0 → IsEnvOver s env → AreUsesOver s fs → Defines s s' n (base_term base.Unit) → Infers s s' env (tuple_of at (listed (map view_full xs))) (variable n) fs fs
tuple_empty s s' env at [] n fs is o us d = leaf_infers s s' env (Nothing at) base.Unit n fs (λ z. refl) (λ z g h. h) o us d
tuple_empty s s' env at (x ∷ xs) n fs is o us d = absurd (omega (arith, is))

pub tuple_one : (s s' : Table) (env : Env) (at : ℕ) (xs : List Full) (x : Full) (old new : List Found) (answer : Option ℕ) → length xs ≡ 1 → x ≡ get_or xs 0 x → IsTypeOf s s' env (view_full x) old new answer → IsTypeOf s s' env (tuple_of at (listed (map view_full xs))) old new answer
tuple_one s s' env at [] x old new answer is at_0 f = absurd (omega (arith, is))
tuple_one s s' env at (y ∷ []) x old new answer is at_0 f = in_parentheses answer (subst (λ (z : Full). IsTypeOf s s' env (view_full z) old new answer) at_0 f) where
  in_parentheses : (answer : Option ℕ) → IsTypeOf s s' env (view_full y) old new answer → IsTypeOf s s' env (Paren (view_full y)) old new answer
  in_parentheses None f = λ a m k v p q. f a m k v p q
  in_parentheses (Some n) f = infers_as (view_full y) (Paren (view_full y)) (λ z g h. h) (λ z g h. h) s s' env (variable n) old new f
tuple_one s s' env at (y ∷ z ∷ xs) x old new answer is at_0 f = absurd (omega (arith, is))

pub tuple_done : (s s1 s2 : Table) (env : Env) (at : ℕ) (xs : List Full) (ns : List ℕ) (n : ℕ) (old new : List Found) → 1 < length xs → IsEnvOver s env → InfersAll s s1 env (listed (map view_full xs)) (terms_of (map variable ns)) old new → Defines s1 s2 n (tuple_term (terms_of (map variable ns))) → Infers s s2 env (tuple_of at (listed (map view_full xs))) (variable n) old new
tuple_done s s1 s2 env at [] ns n old new lt o f d = absurd (omega (arith, lt))
tuple_done s s1 s2 env at (x ∷ []) ns n old new lt o f d = absurd (omega (arith, lt))
tuple_done s s1 s2 env at (x ∷ y ∷ xs) ns n old new lt o f d = tuple_infers s s1 s2 env at (view_full x) (view_full y) (listed (map view_full xs)) (terms_of (map variable ns)) n old new o f d

pub tuple_never : (s : Table) (env : Env) (at : ℕ) (xs : List Full) (old : List Found) → 1 < length xs → HaveNoTypes s env (listed (map view_full xs)) old → HasNoType s env (tuple_of at (listed (map view_full xs))) old
tuple_never s env at [] old lt h = absurd (omega (arith, lt))
tuple_never s env at (x ∷ []) old lt h = absurd (omega (arith, lt))
tuple_never s env at (x ∷ y ∷ xs) old lt h = tuple_none s env at (view_full x) (view_full y) (listed (map view_full xs)) old h

-- ---- choices

pub branches_done : (s s1 s2 s3 s4 : Table) (env : Env) (at : ℕ) (c x y : Tree AFull) (t n : ℕ) (old f1 f2 new : List Found) (made : Bool) (answer : Option ℕ) → IsEnvOver s env → answer ≡ if_yes made n → Infers s s1 env c (variable t) old f1 → Restricts s1 s2 (λ a. a.type_of t ≡ truth) → Infers s2 s3 env x (variable n) f1 f2 → AreJoined s3 s4 env (more y none) n f2 new made → IsTypeOf s s4 env (If at c x y) old new answer
branches_done s s1 s2 s3 s4 env at c x y t n old f1 f2 new made answer o answers f h g j = subst (λ (r : Option ℕ). IsTypeOf s s4 env (If at c x y) old new r) (sym answers) (by_other made j) where
  by_other : (made : Bool) → AreJoined s3 s4 env (more y none) n f2 new made → IsTypeOf s s4 env (If at c x y) old new (if_yes made n)
  by_other true j = choice_infers s s1 s2 s3 env at c x y (variable t) (variable n) old f1 f2 o f h g s4 new j
  by_other false j = choice_other s s1 s2 s3 env at c x y (variable t) (variable n) old f1 f2 o f h g j
