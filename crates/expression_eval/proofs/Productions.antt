-- What each production of the program's tree means.
use Rattle.std.proofs.Common.{◌≡◌, Bool, true, false, Some, None, ℕ, zero, suc, ◌+◌, ◌≤◌, arith, length, List, [], ◌∷◌, ◌++◌, Result, Ok, Err, refl, sym, ap, ◌∙◌}
use Rattle.std.proofs.lemmas.List.{map_push}
use Rattle.std.specs.Prelude.{map}
use Rattle.liq_base.specs.declared.memory.Kind.{Kind}
use Rattle.std.specs.Global.{Box, Vec}
use Rattle.script_grammar.specs.Tree.{Tree, Many, none, more, AFull, AnExpr, AnAnd, ANot, ACompare, ASum, AProduct, AnOperand, ACall, Listed, Not}
use Rattle.script_grammar.specs.View.{listed, tuple_of, view_expr, view_and, view_not, view_sum, view_added, view_product, view_multiplied, view_operand, view_full, view_call, view_arg, view_compare, view_if}
use Rattle.script_grammar.specs.declared.tree.Full.{Full}
use Rattle.script_grammar.specs.declared.tree.Expr as expr
use Rattle.script_grammar.specs.declared.tree.And as and_
use Rattle.script_grammar.specs.declared.tree.Not as not_
use Rattle.script_grammar.specs.declared.tree.Sum as sum
use Rattle.script_grammar.specs.declared.tree.Product as product
use Rattle.script_grammar.specs.declared.tree.Operand as operand
use Rattle.script_grammar.specs.declared.tree.Call as call
use Rattle.script_grammar.specs.declared.tree.Arg as arg
use Rattle.script_grammar.specs.declared.tree.Compare as compare
use Rattle.script_grammar.specs.declared.tree.Compared as compared
use Rattle.script_grammar.specs.declared.tree.If.{If}
use Rattle.script_grammar.specs.declared.tree.Added as added
use Rattle.script_grammar.specs.declared.tree.Multiplied as multiplied
use Rattle.script_grammar.proofs.Rows.{expr_seen, and_seen, sum_seen, product_seen, call_seen, fulls_listed, compare_alone, compare_seen, list_made, not_seen}
use Rattle.typing_rules.specs.Defs.{def_at}
use Rattle.typing_rules.specs.Uses.{use_at}
use Rattle.script_values.specs.Outcomes.{◌>>=◌, Outcome}
use Rattle.script_values.specs.declared.fault.Stop.{Stop}
use Rattle.script_values.specs.declared.machine.Machine.{Machine}
use Rattle.script_values.specs.Gives.{Fails}
use Rattle.script_values.specs.declared.fault.Stop.TheVariants.{TooLarge}
use Rattle.script_values.specs.declared.fault.Limit.TheVariants.{Calls}
use Rattle.script_values.specs.Values as value
use Rattle.script_values.specs.Values.{Value, many}
use Rattle.script_values.specs.Numbers.{either, both, compared as numbers_compared, opposite, truth_of}
use Rattle.script_values.specs.Machines.{count_work}
use Rattle.script_values.specs.Slots.{Argument, SlotValue}
use Rattle.eval_meaning.specs.Meaning as meaning
use Rattle.eval_meaning.specs.Meaning.{Surroundings, full, conjunction, negation, operator_applied}
use Rattle.expression_eval.specs.Steps.{after_count}
use Rattle.expression_eval.proofs.Loops.{Steps, fails_on, fails_same}

pub expr_means : (s : Surroundings) (e : expr.Expr) (l : List and_.And) (m : Machine) → l ≡ (expr.out-Expr e).rest.items → meaning.expr s (view_expr e) m ≡ (meaning.conjunction s (view_and (expr.out-Expr e).first) m >>= λ x. meaning.ors s (listed (map view_and l)) x.0 x.1)
unfolding meaning.expr
expr_means s e l m is = ap (λ (t : Tree AnExpr). meaning.expr s t m) (expr_seen e) ∙ ap (λ (k : List and_.And). meaning.conjunction s (view_and (expr.out-Expr e).first) m >>= λ x. meaning.ors s (listed (map view_and k)) x.0 x.1) (sym is)

pub conjunction_means : (s : Surroundings) (e : and_.And) (l : List not_.Not) (m : Machine) → l ≡ (and_.out-And e).rest.items → meaning.conjunction s (view_and e) m ≡ (meaning.negation s (view_not (and_.out-And e).first) m >>= λ x. meaning.ands s (listed (map view_not l)) x.0 x.1)
unfolding meaning.conjunction
conjunction_means s e l m is = ap (λ (t : Tree AnAnd). meaning.conjunction s t m) (and_seen e) ∙ ap (λ (k : List not_.Not). meaning.negation s (view_not (and_.out-And e).first) m >>= λ x. meaning.ands s (listed (map view_not k)) x.0 x.1) (sym is)

pub sum_means : (s : Surroundings) (e : sum.Sum) (l : List added.Added) (m : Machine) → l ≡ (sum.out-Sum e).rest.items → meaning.sum s (view_sum e) m ≡ (meaning.product s (view_product (sum.out-Sum e).first) m >>= λ x. meaning.addends s (listed (map view_added l)) x.0 x.1)
unfolding meaning.sum
sum_means s e l m is = ap (λ (t : Tree ASum). meaning.sum s t m) (sum_seen e) ∙ ap (λ (k : List added.Added). meaning.product s (view_product (sum.out-Sum e).first) m >>= λ x. meaning.addends s (listed (map view_added k)) x.0 x.1) (sym is)

pub product_means : (s : Surroundings) (e : product.Product) (l : List multiplied.Multiplied) (m : Machine) → l ≡ (product.out-Product e).rest.items → meaning.product s (view_product e) m ≡ (meaning.operand s (view_operand (product.out-Product e).first) m >>= λ x. meaning.factors s (listed (map view_multiplied l)) x.0 x.1)
unfolding meaning.product
product_means s e l m is = ap (λ (t : Tree AProduct). meaning.product s t m) (product_seen e) ∙ ap (λ (k : List multiplied.Multiplied). meaning.operand s (view_operand (product.out-Product e).first) m >>= λ x. meaning.factors s (listed (map view_multiplied k)) x.0 x.1) (sym is)

pub call_means : (s : Surroundings) (e : call.Call) (l : List arg.Arg) (m : Machine) → l ≡ (call.out-Call e).args.items → meaning.call s (view_call e) m ≡ (meaning.arguments s (listed (map view_arg l)) [] m >>= λ x. meaning.applied s (use_at (call.out-Call e).at s.uses) (call.out-Call e).at x.0 x.1)
unfolding meaning.call
call_means s e l m is = ap (λ (t : Tree ACall). meaning.call s t m) (call_seen e) ∙ ap (λ (k : List arg.Arg). meaning.arguments s (listed (map view_arg k)) [] m >>= λ x. meaning.applied s (use_at (call.out-Call e).at s.uses) (call.out-Call e).at x.0 x.1) (sym is)

-- ---- the loops

pub ors_steps : (s : Surroundings) → Steps (meaning.ors s) (λ t v m. operator_applied either v (conjunction s t m))
unfolding meaning.ors
ors_steps s = record { opens = λ t ts v m. refl }

pub ands_steps : (s : Surroundings) → Steps (meaning.ands s) (λ t v m. operator_applied both v (negation s t m))
unfolding meaning.ands
ands_steps s = record { opens = λ t ts v m. refl }

pub addends_steps : (s : Surroundings) → Steps (meaning.addends s) (meaning.plus s)
unfolding meaning.addends
addends_steps s = record { opens = λ t ts v m. refl }

pub factors_steps : (s : Surroundings) → Steps (meaning.factors s) (meaning.times s)
unfolding meaning.factors
factors_steps s = record { opens = λ t ts v m. refl }

abbrev pub with_last : {X : Type 0} → List X → X × Machine → Result (List X × Machine) Stop
with_last xs x = Ok (xs ++ x.0 ∷ [], x.1)

-- a value behind the others
pushed : {X B : Type 0} (r : Result (X × Machine) Stop) (xs : List X) (f : List X → Machine → Result B Stop) → (r >>= λ x. f (xs ++ x.0 ∷ []) x.1) ≡ ((r >>= with_last xs) >>= λ y. f y.0 y.1)
pushed (Ok x) xs f = refl
pushed (Err e) xs f = refl

pub fulls_steps : (s : Surroundings) → Steps (meaning.fulls s) (λ t vs m. full s t m >>= with_last vs)
unfolding meaning.fulls
fulls_steps s = record { opens = λ t ts vs m. pushed (full s t m) vs (λ ys n. meaning.fulls s ts ys n) }

pub arguments_steps : (s : Surroundings) → Steps (meaning.arguments s) (λ t gs m. meaning.argued s t m >>= with_last gs)
unfolding meaning.arguments
arguments_steps s = record { opens = λ t ts gs m. pushed (meaning.argued s t m) gs (λ ys n. meaning.arguments s ts ys n) }

pub inners_steps : (s : Surroundings) → Steps (meaning.inners s) (λ t vs m. meaning.inner s t vs m >>= with_last vs)
unfolding meaning.inners
inners_steps s = record { opens = λ t ts vs m. pushed (meaning.inner s t vs m) vs (λ ys n. meaning.inners s ts ys n) }

-- one value more, as the program pushes it
pub went : {X Y : Type 0} (view : X → Y) (r : Result (Y × Machine) Stop) (xs xs' : List X) (x : X) (n : Machine) → r ≡ Ok (view x, n) → xs' ≡ xs ++ x ∷ [] → (r >>= with_last (map view xs)) ≡ Ok (map view xs', n)
went view r xs xs' x n is grown = ap (λ (q : Result _ Stop). q >>= with_last (map view xs)) is ∙ ap (λ (l : List _). Ok (l, n)) (sym (ap (map view) grown ∙ map_push view xs x))

-- ---- the ends of the loops

pub ors_none : (s : Surroundings) (v : Value) (m : Machine) → meaning.ors s none v m ≡ Ok (v, m)
unfolding meaning.ors
ors_none s v m = refl

pub ands_none : (s : Surroundings) (v : Value) (m : Machine) → meaning.ands s none v m ≡ Ok (v, m)
unfolding meaning.ands
ands_none s v m = refl

pub addends_none : (s : Surroundings) (v : Value) (m : Machine) → meaning.addends s none v m ≡ Ok (v, m)
unfolding meaning.addends
addends_none s v m = refl

pub factors_none : (s : Surroundings) (v : Value) (m : Machine) → meaning.factors s none v m ≡ Ok (v, m)
unfolding meaning.factors
factors_none s v m = refl

pub fulls_none : (s : Surroundings) (vs : List Value) (m : Machine) → meaning.fulls s none vs m ≡ Ok (vs, m)
unfolding meaning.fulls
fulls_none s vs m = refl

pub arguments_none : (s : Surroundings) (gs : List Argument) (m : Machine) → meaning.arguments s none gs m ≡ Ok (gs, m)
unfolding meaning.arguments
arguments_none s gs m = refl

pub inners_none : (s : Surroundings) (vs : List SlotValue) (m : Machine) → meaning.inners s none vs m ≡ Ok (vs, m)
unfolding meaning.inners
inners_none s vs m = refl

-- ---- a first part, and what comes behind it

-- a fault of the first part is one of the whole
pub first_fails : {A B : Type 0} (e : Stop) (a : Result A Stop) (r : Result B Stop) (f : A → Result B Stop) → r ≡ (a >>= f) → Fails e a → Fails e r
first_fails e a r f is fault = fails_same e (a >>= f) r (sym is) (fails_on e a f fault)

-- ---- brackets

same_after : {A B : Type 0} (r : Result A Stop) (f g : A → Result B Stop) → ((x : A) → f x ≡ g x) → (r >>= f) ≡ (r >>= g)
same_after (Ok x) f g same = same x
same_after (Err e) f g same = refl

one_then : {A B C : Type 0} (a : Result A Stop) (k : A → Result B Stop) (f : B → Result C Stop) → (a >>= λ x. k x >>= f) ≡ ((a >>= k) >>= f)
one_then (Ok x) k f = refl
one_then (Err e) k f = refl

two_then : {A B C D : Type 0} (a : Result A Stop) (b : A → Result B Stop) (k : A → B → Result C Stop) (f : C → Result D Stop) → (a >>= λ x. b x >>= λ y. k x y >>= f) ≡ ((a >>= λ x. b x >>= λ y. k x y) >>= f)
two_then (Ok x) b k f = one_then (b x) (k x) f
two_then (Err e) b k f = refl

abbrev pub as_tuple : List Value × Machine → Outcome
as_tuple z = Ok (value.TupleValue (many z.0), z.1)

abbrev pub as_list : List Value × Machine → Outcome
as_list z = Ok (value.ListValue (many z.0), z.1)

-- a bracket of the program, whatever it holds
pub grouped_means : (s : Surroundings) (at : ℕ) (ts : Tree (Many AFull)) (m : Machine) → meaning.operand s (tuple_of at ts) m ≡ (count_work 1 m >>= meaning.grouped s ts)
unfolding meaning.operand meaning.fulls
grouped_means s at none m = refl
grouped_means s at (more f none) m = refl
grouped_means s at (more f (more g rest)) m =
    same_after (count_work 1 m) (λ c. full s f c >>= λ x. full s g x.1 >>= λ y. meaning.fulls s rest (x.0 ∷ y.0 ∷ []) y.1 >>= as_tuple) (λ c. meaning.grouped s (more f (more g rest)) c)
    (λ c. two_then (full s f c) (λ x. full s g x.1) (λ x y. meaning.fulls s rest (x.0 ∷ y.0 ∷ []) y.1) as_tuple)

pub pair_means : (s : Surroundings) (fs : List Full) (m : Machine) → 2 ≤ length fs → meaning.grouped s (listed (map view_full fs)) m ≡ (meaning.fulls s (listed (map view_full fs)) [] m >>= as_tuple)
pair_means s [] m two = absurd (omega arith)
pair_means s (f ∷ []) m two = absurd (omega arith)
pair_means s (f ∷ g ∷ rest) m two = refl

pub tuple_view : (at : ℕ) (v : Vec Full) → view_operand (operand.Tuple at v) ≡ tuple_of at (listed (map view_full v.items))
tuple_view at v = ap (tuple_of at) (fulls_listed v)

-- ---- productions of one part

pub not_means : (s : Surroundings) (e : not_.Not) (m : Machine) → (not_.out-Not e).negated ≡ true → meaning.negation s (view_not e) m ≡ (meaning.compare s (view_compare (not_.out-Not e).inner) m >>= λ x. after_count (opposite x.0) x.1)
unfolding meaning.negation
not_means s e m is = ap (λ (t : Tree ANot). meaning.negation s t m) (not_seen e) ∙ ap (λ (b : Bool). meaning.negation s (Not b (view_compare (not_.out-Not e).inner)) m) is

pub plain_means : (s : Surroundings) (e : not_.Not) (m : Machine) → (not_.out-Not e).negated ≡ false → meaning.negation s (view_not e) m ≡ meaning.compare s (view_compare (not_.out-Not e).inner) m
unfolding meaning.negation
plain_means s e m is = ap (λ (t : Tree ANot). meaning.negation s t m) (not_seen e) ∙ ap (λ (b : Bool). meaning.negation s (Not b (view_compare (not_.out-Not e).inner)) m) is

pub alone_means : (s : Surroundings) (e : compare.Compare) (m : Machine) → (compare.out-Compare e).right ≡ None → meaning.compare s (view_compare e) m ≡ meaning.sum s (view_sum (compare.out-Compare e).left) m
unfolding meaning.compare
alone_means s e m is = ap (λ (t : Tree ACompare). meaning.compare s t m) (compare_alone e is)

pub compared_means : (s : Surroundings) (e : compare.Compare) (r : compared.Compared) (m : Machine) → (compare.out-Compare e).right ≡ Some r
    → meaning.compare s (view_compare e) m ≡ (meaning.sum s (view_sum (compare.out-Compare e).left) m >>= λ x. operator_applied (numbers_compared (compared.out-Compared r).op) x.0 (meaning.sum s (view_sum (compared.out-Compared r).sum) x.1))
unfolding meaning.compare
compared_means s e r m is = ap (λ (t : Tree ACompare). meaning.compare s t m) (compare_seen e r is)

-- what a choice is behind its condition
abbrev pub chosen : Surroundings → If → Bool → Machine → Outcome
chosen s i true n = meaning.full s (view_full i.then_part.value) n
chosen s i false n = meaning.full s (view_full i.else_part.value) n

branch : (s : Surroundings) (i : If) (n : Machine) (b : Bool) → ◌≡◌ {A = Outcome} (elim b [ true ↦ meaning.full s (view_full i.then_part.value) n | false ↦ meaning.full s (view_full i.else_part.value) n ]) (chosen s i b n)
branch s i n true = refl
branch s i n false = refl

pub choice_means : (s : Surroundings) (i : If) (m : Machine) → meaning.choice s (view_if i) m ≡ (meaning.full s (view_full i.condition.value) m >>= λ x. truth_of x.0 >>= λ b. chosen s i b x.1)
unfolding meaning.choice
choice_means s i m =
    same_after (meaning.full s (view_full i.condition.value) m) (λ x. truth_of x.0 >>= λ b. elim b [ true ↦ meaning.full s (view_full i.then_part.value) x.1 | false ↦ meaning.full s (view_full i.else_part.value) x.1 ]) (λ x. truth_of x.0 >>= λ b. chosen s i b x.1)
    (λ x. same_after (truth_of x.0) (λ b. elim b [ true ↦ meaning.full s (view_full i.then_part.value) x.1 | false ↦ meaning.full s (view_full i.else_part.value) x.1 ]) (λ b. chosen s i b x.1) (branch s i x.1))

pub argued_means : (s : Surroundings) (a : arg.Arg) (m : Machine) → meaning.argued s (view_arg a) m ≡ (meaning.full s (view_full a.value) m >>= λ x. Ok ((a.label, x.0), x.1))
unfolding meaning.argued
argued_means s a m = refl

-- ---- operands with parts

pub call_counted : (s : Surroundings) (n : operand.Operand) (k : call.Call) (m : Machine) → n ≡ operand.Call k → meaning.operand s (view_operand n) m ≡ (count_work 1 m >>= λ c. meaning.call s (view_call k) c)
unfolding meaning.operand
call_counted s n k m is = ap (λ (x : operand.Operand). meaning.operand s (view_operand x) m) is

pub choice_counted : (s : Surroundings) (n : operand.Operand) (i : If) (m : Machine) → n ≡ operand.If i → meaning.operand s (view_operand n) m ≡ (count_work 1 m >>= λ c. meaning.choice s (view_if i) c)
unfolding meaning.operand
choice_counted s n i m is = ap (λ (x : operand.Operand). meaning.operand s (view_operand x) m) is

pub paren_counted : (s : Surroundings) (n : operand.Operand) (b : Box Full) (m : Machine) → n ≡ operand.Paren b → meaning.operand s (view_operand n) m ≡ (count_work 1 m >>= λ c. meaning.full s (view_full b.value) c)
unfolding meaning.operand
paren_counted s n b m is = ap (λ (x : operand.Operand). meaning.operand s (view_operand x) m) is

pub tuple_counted : (s : Surroundings) (n : operand.Operand) (at : ℕ) (v : Vec Full) (l : List Full) (m : Machine) → n ≡ operand.Tuple at v → l ≡ v.items → meaning.operand s (view_operand n) m ≡ (count_work 1 m >>= meaning.grouped s (listed (map view_full l)))
tuple_counted s n at v l m is same =
    ap (λ (x : operand.Operand). meaning.operand s (view_operand x) m) is ∙ ap (λ (t : Tree AnOperand). meaning.operand s t m) (tuple_view at v) ∙ ap (λ (k : List Full). meaning.operand s (tuple_of at (listed (map view_full k))) m) (sym same)
    ∙ grouped_means s at (listed (map view_full l)) m

list_means : (s : Surroundings) (at : ℕ) (ts : Tree (Many AFull)) (m : Machine) → meaning.operand s (Listed at ts) m ≡ (count_work 1 m >>= meaning.all_of s ts)
unfolding meaning.operand
list_means s at ts m = refl

pub list_counted : (s : Surroundings) (n : operand.Operand) (at : ℕ) (v : Vec Full) (l : List Full) (m : Machine) → n ≡ operand.List at v → l ≡ v.items → meaning.operand s (view_operand n) m ≡ (count_work 1 m >>= meaning.all_of s (listed (map view_full l)))
list_counted s n at v l m is same =
    ap (λ (x : operand.Operand). meaning.operand s (view_operand x) m) is ∙ ap (λ (t : Tree AnOperand). meaning.operand s t m) (list_made at v) ∙ ap (λ (k : List Full). meaning.operand s (Listed at (listed (map view_full k))) m) (sym same)
    ∙ list_means s at (listed (map view_full l)) m

-- ---- calls of defs

pub calls_end : (w : meaning.World) (n t : ℕ) (ks : List Kind) (gs : List Argument) (m : Machine) → n ≡ 0 → meaning.call_by w n t ks gs m ≡ Err (TooLarge Calls)
unfolding meaning.call_by
calls_end w zero t ks gs m e = refl
calls_end w (suc n) t ks gs m e = absurd (omega arith)

pub calls_turn : (w : meaning.World) (n k t : ℕ) (ks : List Kind) (gs : List Argument) (m : Machine) → n ≡ k + 1 → meaning.call_by w n t ks gs m ≡ meaning.run (record { uses = w.uses; slots = w.globals; kinds = ks; call = meaning.call_by w k }) (def_at t w.script) gs m
unfolding meaning.call_by
calls_turn w n k t ks gs m e =
    let next : n ≡ suc k = omega arith in
    ap (λ (j : ℕ). meaning.call_by w j t ks gs m) next
