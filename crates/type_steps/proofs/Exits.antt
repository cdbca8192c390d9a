-- What the program's functions answer, from what their calls answered.
use Rattle.std.proofs.Common.{◌≡◌, ◌∙◌, sym, ap, subst, refl, ℕ, suc, length, List, [], ◌∷◌, map, Option, Bool, true, false}
use Rattle.script_grammar.specs.View.{listed, view_expr, view_and, view_not, view_sum, view_product, view_added, view_multiplied, view_operand}
use Rattle.script_grammar.specs.Tree.{Sort, Tree, Expr, And, Sum, Product}
use Rattle.script_grammar.specs.declared.tree.Expr as expr
use Rattle.script_grammar.specs.declared.tree.And as and_
use Rattle.script_grammar.specs.declared.tree.Not as not_
use Rattle.script_grammar.specs.declared.tree.Sum as sum
use Rattle.script_grammar.specs.declared.tree.Added as added
use Rattle.script_grammar.specs.declared.tree.Product as product
use Rattle.script_grammar.specs.declared.tree.Multiplied as multiplied
use Rattle.type_terms.specs.Ground.{Ground, Assignment, IsNumber}
use Rattle.type_terms.specs.Term.{variable}
use Rattle.type_terms.specs.Table.{Table}
use Rattle.typing_rules.specs.Typing.{Sight, Has, EachHas, IfAny, truth}
use Rattle.script_grammar.proofs.Rows.{expr_seen, and_seen, sum_seen, product_seen}
use Rattle.type_steps.specs.Environment.{Env, Found, IsEnvOver, sight_under}
use Rattle.type_steps.specs.Flow.{Infers, HasNoType, InfersEach, HaveNoType, Restricts, IsMade, IfMany, IsTypeOf, if_yes}
use Rattle.type_steps.proofs.Forms.{chain_infers, chain_others, chain_fact}

-- ---- facts that are asked for under another name

pub restricts_as : (s s' : Table) (C D : Assignment → Type 0) → ((a : Assignment) → C a → D a) → ((a : Assignment) → D a → C a) → Restricts s s' C → Restricts s s' D
restricts_as s s' C D to back h = record { follows = h.follows; sound = λ a m. to a (h.sound a m); complete = λ a m d. h.complete a m (back a d) }

made_as : (s s' : Table) (C D : Assignment → Type 0) → ((a : Assignment) → C a → D a) → ((a : Assignment) → D a → C a) → (made : Bool) → IsMade made s s' C → IsMade made s s' D
made_as s s' C D to back true h = restricts_as s s' C D to back h
made_as s s' C D to back false h = λ a m d. h a m (back a d)

many_any : {t : Sort} (xs : List (Tree t)) (P : Type 0) → IfMany (length xs) P → IfAny (listed xs) P
many_any [] P h = tt
many_any (x ∷ xs) P h = h

any_many : {t : Sort} (xs : List (Tree t)) (P : Type 0) → IfAny (listed xs) P → IfMany (length xs) P
any_many [] P h = tt
any_many (x ∷ xs) P h = h

-- ---- a chain of operands

module _ {r q t : Sort} (e : Tree r) (x : Tree q) (xs : List (Tree t)) (C : Ground → Type 0)
    (to : (z : Sight) (g : Ground) → Has z x g → EachHas z (listed xs) g → IfAny (listed xs) (C g) → Has z e g)
    (back : (z : Sight) (g : Ground) → Has z e g → Has z x g × EachHas z (listed xs) g × IfAny (listed xs) (C g))
    (s s1 s2 s3 : Table) (env : Env) (n : ℕ) (old mid new : List Found) (o : IsEnvOver s env) where
  by_answer : (made : Bool) → Infers s s1 env x (variable n) old mid → InfersEach s1 s2 env (listed xs) (variable n) mid new → IsMade made s2 s3 (λ a. IfAny (listed xs) (C (a.type_of n))) → IsTypeOf s s3 env e old new (if_yes made n)
  by_answer true f g h = chain_infers e x (listed xs) C to back s s1 env (variable n) old mid o s2 s3 new f g h
  by_answer false f g h = chain_fact e x (listed xs) C to back s s1 env (variable n) old mid o s2 new f g h

  pub chain_done : (made : Bool) (count : ℕ) (answer : Option ℕ) → count ≡ length xs → answer ≡ if_yes made n → Infers s s1 env x (variable n) old mid → InfersEach s1 s2 env (listed xs) (variable n) mid new → IsMade made s2 s3 (λ a. IfMany count (C (a.type_of n))) → IsTypeOf s s3 env e old new answer
  chain_done made count answer is answers f g h =
      subst (λ (x : Option ℕ). IsTypeOf s s3 env e old new x) (sym answers)
      (by_answer made f g (made_as s2 s3 (λ a. IfMany count (C (a.type_of n))) (λ a. IfAny (listed xs) (C (a.type_of n)))
      (λ a c. many_any xs (C (a.type_of n)) (subst (λ k. IfMany k (C (a.type_of n))) is c))
      (λ a d. subst (λ k. IfMany k (C (a.type_of n))) (sym is) (any_many xs (C (a.type_of n)) d)) made h))

map_length : {A B : Type 0} (f : A → B) (xs : List A) → length (map f xs) ≡ length xs
map_length f [] = refl
map_length f (x ∷ xs) = ap suc (map_length f xs)

-- ---- the four chains

module _ (e : expr.Expr) (l : List and_.And) (lis : l ≡ (expr.out-Expr e).rest.items) (s : Table) (env : Env) (old : List Found) (o : IsEnvOver s env) where
  expr_at : view_expr e ≡ Expr (view_and (expr.out-Expr e).first) (listed (map view_and l))
  expr_at = expr_seen e ∙ ap (λ (k : List and_.And). Expr (view_and (expr.out-Expr e).first) (listed (map view_and k))) (sym lis)

  to_expr : (z : Sight) (g : Ground) → Has z (view_and (expr.out-Expr e).first) g → EachHas z (listed (map view_and l)) g → IfAny (listed (map view_and l)) (g ≡ truth) → Has z (view_expr e) g
  to_expr z g a b c = subst (λ x. Has z x g) (sym expr_at) (a, b, c)

  of_expr : (z : Sight) (g : Ground) → Has z (view_expr e) g → Has z (view_and (expr.out-Expr e).first) g × EachHas z (listed (map view_and l)) g × IfAny (listed (map view_and l)) (g ≡ truth)
  of_expr z g h = subst (λ x. Has z x g) expr_at h

  pub expr_others : (s1 : Table) (n : ℕ) (mid : List Found) → Infers s s1 env (view_and (expr.out-Expr e).first) (variable n) old mid → HaveNoType s1 env (listed (map view_and l)) (variable n) mid → HasNoType s env (view_expr e) old
  expr_others s1 n mid f h = chain_others (view_expr e) (view_and (expr.out-Expr e).first) (listed (map view_and l)) (λ g. g ≡ truth) to_expr of_expr s s1 env (variable n) old mid o f h

  pub expr_done : (s1 s2 s3 : Table) (n : ℕ) (mid new : List Found) (made : Bool) (count : ℕ) (answer : Option ℕ) → count ≡ length l → answer ≡ if_yes made n → Infers s s1 env (view_and (expr.out-Expr e).first) (variable n) old mid → InfersEach s1 s2 env (listed (map view_and l)) (variable n) mid new →
      IsMade made s2 s3 (λ a. IfMany count (a.type_of n ≡ truth)) → IsTypeOf s s3 env (view_expr e) old new answer
  expr_done s1 s2 s3 n mid new made count answer is answers f g h = chain_done (view_expr e) (view_and (expr.out-Expr e).first) (map view_and l) (λ g. g ≡ truth) to_expr of_expr s s1 s2 s3 env n old mid new o made count answer (is ∙ sym (map_length view_and l)) answers f g h

pub expr_first : (e : expr.Expr) (s : Table) (env : Env) (old : List Found) → HasNoType s env (view_and (expr.out-Expr e).first) old → HasNoType s env (view_expr e) old
expr_first e s env old n a m k v p q = n a m k v (subst (λ x. Has (sight_under env a k) x v) (expr_seen e) p).0 q

module _ (e : and_.And) (l : List not_.Not) (lis : l ≡ (and_.out-And e).rest.items) (s : Table) (env : Env) (old : List Found) (o : IsEnvOver s env) where
  and_at : view_and e ≡ And (view_not (and_.out-And e).first) (listed (map view_not l))
  and_at = and_seen e ∙ ap (λ (k : List not_.Not). And (view_not (and_.out-And e).first) (listed (map view_not k))) (sym lis)

  to_and : (z : Sight) (g : Ground) → Has z (view_not (and_.out-And e).first) g → EachHas z (listed (map view_not l)) g → IfAny (listed (map view_not l)) (g ≡ truth) → Has z (view_and e) g
  to_and z g a b c = subst (λ x. Has z x g) (sym and_at) (a, b, c)

  of_and : (z : Sight) (g : Ground) → Has z (view_and e) g → Has z (view_not (and_.out-And e).first) g × EachHas z (listed (map view_not l)) g × IfAny (listed (map view_not l)) (g ≡ truth)
  of_and z g h = subst (λ x. Has z x g) and_at h

  pub and_others : (s1 : Table) (n : ℕ) (mid : List Found) → Infers s s1 env (view_not (and_.out-And e).first) (variable n) old mid → HaveNoType s1 env (listed (map view_not l)) (variable n) mid → HasNoType s env (view_and e) old
  and_others s1 n mid f h = chain_others (view_and e) (view_not (and_.out-And e).first) (listed (map view_not l)) (λ g. g ≡ truth) to_and of_and s s1 env (variable n) old mid o f h

  pub and_done : (s1 s2 s3 : Table) (n : ℕ) (mid new : List Found) (made : Bool) (count : ℕ) (answer : Option ℕ) → count ≡ length l → answer ≡ if_yes made n → Infers s s1 env (view_not (and_.out-And e).first) (variable n) old mid → InfersEach s1 s2 env (listed (map view_not l)) (variable n) mid new →
      IsMade made s2 s3 (λ a. IfMany count (a.type_of n ≡ truth)) → IsTypeOf s s3 env (view_and e) old new answer
  and_done s1 s2 s3 n mid new made count answer is answers f g h = chain_done (view_and e) (view_not (and_.out-And e).first) (map view_not l) (λ g. g ≡ truth) to_and of_and s s1 s2 s3 env n old mid new o made count answer (is ∙ sym (map_length view_not l)) answers f g h

pub and_first : (e : and_.And) (s : Table) (env : Env) (old : List Found) → HasNoType s env (view_not (and_.out-And e).first) old → HasNoType s env (view_and e) old
and_first e s env old n a m k v p q = n a m k v (subst (λ x. Has (sight_under env a k) x v) (and_seen e) p).0 q

module _ (e : sum.Sum) (l : List added.Added) (lis : l ≡ (sum.out-Sum e).rest.items) (s : Table) (env : Env) (old : List Found) (o : IsEnvOver s env) where
  sum_at : view_sum e ≡ Sum (view_product (sum.out-Sum e).first) (listed (map view_added l))
  sum_at = sum_seen e ∙ ap (λ (k : List added.Added). Sum (view_product (sum.out-Sum e).first) (listed (map view_added k))) (sym lis)

  to_sum : (z : Sight) (g : Ground) → Has z (view_product (sum.out-Sum e).first) g → EachHas z (listed (map view_added l)) g → IfAny (listed (map view_added l)) (IsNumber g) → Has z (view_sum e) g
  to_sum z g a b c = subst (λ x. Has z x g) (sym sum_at) (a, b, c)

  of_sum : (z : Sight) (g : Ground) → Has z (view_sum e) g → Has z (view_product (sum.out-Sum e).first) g × EachHas z (listed (map view_added l)) g × IfAny (listed (map view_added l)) (IsNumber g)
  of_sum z g h = subst (λ x. Has z x g) sum_at h

  pub sum_others : (s1 : Table) (n : ℕ) (mid : List Found) → Infers s s1 env (view_product (sum.out-Sum e).first) (variable n) old mid → HaveNoType s1 env (listed (map view_added l)) (variable n) mid → HasNoType s env (view_sum e) old
  sum_others s1 n mid f h = chain_others (view_sum e) (view_product (sum.out-Sum e).first) (listed (map view_added l)) IsNumber to_sum of_sum s s1 env (variable n) old mid o f h

  pub sum_done : (s1 s2 s3 : Table) (n : ℕ) (mid new : List Found) (made : Bool) (count : ℕ) (answer : Option ℕ) → count ≡ length l → answer ≡ if_yes made n → Infers s s1 env (view_product (sum.out-Sum e).first) (variable n) old mid → InfersEach s1 s2 env (listed (map view_added l)) (variable n) mid new →
      IsMade made s2 s3 (λ a. IfMany count (IsNumber (a.type_of n))) → IsTypeOf s s3 env (view_sum e) old new answer
  sum_done s1 s2 s3 n mid new made count answer is answers f g h = chain_done (view_sum e) (view_product (sum.out-Sum e).first) (map view_added l) IsNumber to_sum of_sum s s1 s2 s3 env n old mid new o made count answer (is ∙ sym (map_length view_added l)) answers f g h

pub sum_first : (e : sum.Sum) (s : Table) (env : Env) (old : List Found) → HasNoType s env (view_product (sum.out-Sum e).first) old → HasNoType s env (view_sum e) old
sum_first e s env old n a m k v p q = n a m k v (subst (λ x. Has (sight_under env a k) x v) (sum_seen e) p).0 q

module _ (e : product.Product) (l : List multiplied.Multiplied) (lis : l ≡ (product.out-Product e).rest.items) (s : Table) (env : Env) (old : List Found) (o : IsEnvOver s env) where
  product_at : view_product e ≡ Product (view_operand (product.out-Product e).first) (listed (map view_multiplied l))
  product_at = product_seen e ∙ ap (λ (k : List multiplied.Multiplied). Product (view_operand (product.out-Product e).first) (listed (map view_multiplied k))) (sym lis)

  to_product : (z : Sight) (g : Ground) → Has z (view_operand (product.out-Product e).first) g → EachHas z (listed (map view_multiplied l)) g → IfAny (listed (map view_multiplied l)) (IsNumber g) → Has z (view_product e) g
  to_product z g a b c = subst (λ x. Has z x g) (sym product_at) (a, b, c)

  of_product : (z : Sight) (g : Ground) → Has z (view_product e) g → Has z (view_operand (product.out-Product e).first) g × EachHas z (listed (map view_multiplied l)) g × IfAny (listed (map view_multiplied l)) (IsNumber g)
  of_product z g h = subst (λ x. Has z x g) product_at h

  pub product_others : (s1 : Table) (n : ℕ) (mid : List Found) → Infers s s1 env (view_operand (product.out-Product e).first) (variable n) old mid → HaveNoType s1 env (listed (map view_multiplied l)) (variable n) mid → HasNoType s env (view_product e) old
  product_others s1 n mid f h = chain_others (view_product e) (view_operand (product.out-Product e).first) (listed (map view_multiplied l)) IsNumber to_product of_product s s1 env (variable n) old mid o f h

  pub product_done : (s1 s2 s3 : Table) (n : ℕ) (mid new : List Found) (made : Bool) (count : ℕ) (answer : Option ℕ) → count ≡ length l → answer ≡ if_yes made n → Infers s s1 env (view_operand (product.out-Product e).first) (variable n) old mid → InfersEach s1 s2 env (listed (map view_multiplied l)) (variable n) mid new →
      IsMade made s2 s3 (λ a. IfMany count (IsNumber (a.type_of n))) → IsTypeOf s s3 env (view_product e) old new answer
  product_done s1 s2 s3 n mid new made count answer is answers f g h = chain_done (view_product e) (view_operand (product.out-Product e).first) (map view_multiplied l) IsNumber to_product of_product s s1 s2 s3 env n old mid new o made count answer (is ∙ sym (map_length view_multiplied l)) answers f g h

pub product_first : (e : product.Product) (s : Table) (env : Env) (old : List Found) → HasNoType s env (view_operand (product.out-Product e).first) old → HasNoType s env (view_product e) old
product_first e s env old n a m k v p q = n a m k v (subst (λ x. Has (sight_under env a k) x v) (product_seen e) p).0 q
