-- Two scopes in which names lead to the same give each expression the same meaning.
use Rattle.std.proofs.Common.{◌≡◌, ℤ, inl, inr, ℕ, List, [], ◌∷◌, ◌++◌, Bool, true, false, Option, Some, None, Result, Ok, Err, refl, sym, ap, ◌∙◌}
use Rattle.liq_base.specs.declared.memory.Kind.{Kind}
use Rattle.script_grammar.specs.declared.tree.CompareOp.{CompareOp}
use Rattle.script_grammar.specs.declared.tree.Literal.{Literal}
use Rattle.script_grammar.specs.Tree.{Tree, APOr, Many, none, more, AFull, AnExpr, AnAnd, ANot, ACompare, ASum, AnAdded, AProduct, AMultiplied, AnOperand, ACall, AnArg, AnIf, AParam, AnInner, ADef, Negative, Plain, Expr, And, Not, Alone, Compared, Sum, Added, Product, Multiplied, Constant, Quoted, Truth, Named, Called, Chosen, Nothing, Paren, Tuple, Listed, Braces, PlaceFormat, NamedCall, Arg, If, Param, Labelled, Optional, Inner, Bind, Def, APart, BindPart, DefPart, CallPart, IfPart}
use Rattle.typing_rules.specs.declared.uses.Use.{Use}
use Rattle.typing_rules.specs.declared.uses.Target.{Target}
use Rattle.typing_rules.specs.declared.uses.Target.TheVariants as target
use Rattle.typing_rules.specs.Arguments.{argument}
use Rattle.typing_rules.specs.Kinds.{IsOneOf, kinds_of, target_said}
use Rattle.typing_rules.specs.Scoping as scoping
use Rattle.typing_rules.specs.Scoping.{Name, inner_names, names, tokens_given, call_meant, bound, with_inner, with_inners, with_params}
use Rattle.typing_rules.specs.Uses.{use_at}
use Rattle.script_values.specs.declared.fault.Stop.{Stop}
use Rattle.script_values.specs.declared.fault.Stop.TheVariants.{Stuck}
use Rattle.script_values.specs.declared.machine.Machine.{Machine}
use Rattle.script_values.specs.Machines.{count_work}
use Rattle.script_values.specs.Numbers.{added, multiplied, compared, either, both, opposite, truth_of}
use Rattle.script_values.specs.Outcomes.{◌>>=◌, Outcome, ascribed}
use Rattle.script_values.specs.Slots.{Argument, SlotValue, value_at_token}
use Rattle.script_values.specs.Values as value
use Rattle.script_values.specs.Values.{Value, many, size}
use Rattle.eval_meaning.specs.Meaning as meaning
use Rattle.eval_meaning.specs.Meaning.{Surroundings, applied, applied_to, full, operator_applied, slot_or_default, taken_slot, value_at, with_slots}
use Rattle.eval_meaning.specs.Scripts.{statement}

-- They have the same bindings and targets, and a call by one of these names does the same.
pub record Alike (s r : Surroundings) (ns : List Name) : Type 0 where
  pub slots : s.slots ≡ r.slots
  pub targets : (at : ℕ) → target_said (use_at at s.uses) ≡ target_said (use_at at r.uses)
  pub calls : (n : Name) → IsOneOf ns n → (given : List Argument) (m : Machine) → applied s (use_at n.at s.uses) n.at given m ≡ applied r (use_at n.at r.uses) n.at given m

-- ---- parts of a list of names

pub is_left : (xs ys : List Name) (n : Name) → IsOneOf xs n → IsOneOf (xs ++ ys) n
is_left [] ys n is = absurd is
is_left (x ∷ xs) ys n (inl same) = inl same
is_left (x ∷ xs) ys n (inr is) = inr (is_left xs ys n is)

pub is_right : (xs ys : List Name) (n : Name) → IsOneOf ys n → IsOneOf (xs ++ ys) n
is_right [] ys n is = is
is_right (x ∷ xs) ys n is = inr (is_right xs ys n is)

left : (s r : Surroundings) (xs ys : List Name) → Alike s r (xs ++ ys) → Alike s r xs
left s r xs ys alike = record { slots = alike.slots; targets = alike.targets; calls = λ n is given m. alike.calls n (is_left xs ys n is) given m }

right : (s r : Surroundings) (xs ys : List Name) → Alike s r (xs ++ ys) → Alike s r ys
right s r xs ys alike = record { slots = alike.slots; targets = alike.targets; calls = λ n is given m. alike.calls n (is_right xs ys n is) given m }

behind : (s r : Surroundings) (x : Name) (xs : List Name) → Alike s r (x ∷ xs) → Alike s r xs
behind s r x xs alike = record { slots = alike.slots; targets = alike.targets; calls = λ n is given m. alike.calls n (inr is) given m }

first_of : (s r : Surroundings) (xs ys zs : List Name) → Alike s r (xs ++ ys ++ zs) → Alike s r xs
first_of s r xs ys zs alike = left s r xs ys (left s r (xs ++ ys) zs alike)

second_of : (s r : Surroundings) (xs ys zs : List Name) → Alike s r (xs ++ ys ++ zs) → Alike s r ys
second_of s r xs ys zs alike = right s r xs ys (left s r (xs ++ ys) zs alike)

third_of : (s r : Surroundings) (xs ys zs : List Name) → Alike s r (xs ++ ys ++ zs) → Alike s r zs
third_of s r xs ys zs alike = right s r (xs ++ ys) zs alike

-- the name of a call
abbrev called : ℕ → List ℕ → scoping.Scope → Tree (Many AnArg) → Name
called at name sc args = record { at = at; meant = call_meant name (bound name sc); given = tokens_given args }

-- ---- more bindings

to_within : (s : Surroundings) (slots : List SlotValue) (t : Target) (at : ℕ) (kinds : Option (List Kind)) (given : List Argument) (m : Machine) → applied_to (with_slots s slots) t at kinds given m ≡ applied_to s t at kinds given m
to_within s slots t at None given m = refl
to_within s slots (target.Slot t) at (Some kinds) given m = refl
to_within s slots (target.Def t) at (Some kinds) given m = refl
to_within s slots (target.Builtin b) at (Some kinds) given m = refl

applied_within : (s : Surroundings) (slots : List SlotValue) (o : Option Use) (at : ℕ) (given : List Argument) (m : Machine) → applied (with_slots s slots) o at given m ≡ applied s o at given m
unfolding applied
applied_within s slots None at given m = refl
applied_within s slots (Some u) at given m = ap (ascribed at m) (to_within s slots u.target at (kinds_of s.kinds u.kinds) given m)

alike_within : (s r : Surroundings) (ns : List Name) (slots : List SlotValue) → Alike s r ns → Alike (with_slots s slots) (with_slots r slots) ns
alike_within s r ns slots alike = record {
  slots = ap (λ (l : List SlotValue). slots ++ l) alike.slots;
  targets = alike.targets;
  calls = λ n is given m. applied_within s slots (use_at n.at s.uses) n.at given m ∙ alike.calls n is given m ∙ sym (applied_within r slots (use_at n.at r.uses) n.at given m);
}

-- ---- steps behind steps

then_each : {A B : Type 0} (r : Result A Stop) (f g : A → Result B Stop) → ((x : A) → f x ≡ g x) → (r >>= f) ≡ (r >>= g)
then_each (Ok x) f g each = each x
then_each (Err e) f g each = refl

then_same : {A B : Type 0} (p r : Result A Stop) (f g : A → Result B Stop) → p ≡ r → ((x : A) → f x ≡ g x) → (p >>= f) ≡ (r >>= g)
then_same p r f g same each = ap (λ x. x >>= f) same ∙ then_each r f g each

joined_same : (op : Value → Value → Result Value Stop) (v : Value) (p r : Outcome) → p ≡ r → operator_applied op v p ≡ operator_applied op v r
joined_same op v p r same = ap (λ (x : Outcome). operator_applied op v x) same

branch_same : (b : Bool) (p r p' r' : Outcome) → p ≡ p' → r ≡ r' → ◌≡◌ {A = Outcome} (elim b [ true ↦ p | false ↦ r ]) (elim b [ true ↦ p' | false ↦ r' ])
branch_same true p r p' r' first second = first
branch_same false p r p' r' first second = second

-- ---- names

some_same : (t u : Target) → Some t ≡ Some u → t ≡ u
some_same t u is = cc

named_same : (s r : Surroundings) (o p : Option Use) (m : Machine) → s.slots ≡ r.slots → target_said o ≡ target_said p → meaning.named s o m ≡ meaning.named r p m
unfolding meaning.named
named_same s r None None m slots same = refl
named_same s r None (Some v) m slots same = absurd cc
named_same s r (Some u) None m slots same = absurd cc
named_same s r (Some u) (Some v) m slots same =
    let first : List SlotValue → Outcome = λ ss. elim u.target [ target.Slot t ↦ value_at (value_at_token t ss) m | target.Def t ↦ Err Stuck | target.Builtin b ↦ Err Stuck ] in
    let second : Target → Outcome = λ w. elim w [ target.Slot t ↦ value_at (value_at_token t r.slots) m | target.Def t ↦ Err Stuck | target.Builtin b ↦ Err Stuck ] in
    ap first slots ∙ ap second (some_same u.target v.target same)

-- ---- what the same means of each part

abbrev pub SameFull : Surroundings → Surroundings → Tree AFull → Type 0
SameFull s r e = (m : Machine) → full s e m ≡ full r e m

abbrev pub SameExpr : Surroundings → Surroundings → Tree AnExpr → Type 0
SameExpr s r e = (m : Machine) → meaning.expr s e m ≡ meaning.expr r e m

abbrev SameOrs : Surroundings → Surroundings → Tree (Many AnAnd) → Type 0
SameOrs s r e = (v : Value) (m : Machine) → meaning.ors s e v m ≡ meaning.ors r e v m

abbrev SameConjunction : Surroundings → Surroundings → Tree AnAnd → Type 0
SameConjunction s r e = (m : Machine) → meaning.conjunction s e m ≡ meaning.conjunction r e m

abbrev SameAnds : Surroundings → Surroundings → Tree (Many ANot) → Type 0
SameAnds s r e = (v : Value) (m : Machine) → meaning.ands s e v m ≡ meaning.ands r e v m

abbrev SameNegation : Surroundings → Surroundings → Tree ANot → Type 0
SameNegation s r e = (m : Machine) → meaning.negation s e m ≡ meaning.negation r e m

abbrev SameCompare : Surroundings → Surroundings → Tree ACompare → Type 0
SameCompare s r e = (m : Machine) → meaning.compare s e m ≡ meaning.compare r e m

abbrev SameSum : Surroundings → Surroundings → Tree ASum → Type 0
SameSum s r e = (m : Machine) → meaning.sum s e m ≡ meaning.sum r e m

abbrev SameAddends : Surroundings → Surroundings → Tree (Many AnAdded) → Type 0
SameAddends s r e = (v : Value) (m : Machine) → meaning.addends s e v m ≡ meaning.addends r e v m

abbrev SameProduct : Surroundings → Surroundings → Tree AProduct → Type 0
SameProduct s r e = (m : Machine) → meaning.product s e m ≡ meaning.product r e m

abbrev SameFactors : Surroundings → Surroundings → Tree (Many AMultiplied) → Type 0
SameFactors s r e = (v : Value) (m : Machine) → meaning.factors s e v m ≡ meaning.factors r e v m

abbrev SameOperand : Surroundings → Surroundings → Tree AnOperand → Type 0
SameOperand s r e = (m : Machine) → meaning.operand s e m ≡ meaning.operand r e m

abbrev SameFulls : Surroundings → Surroundings → Tree (Many AFull) → Type 0
SameFulls s r e = (vs : List Value) (m : Machine) → meaning.fulls s e vs m ≡ meaning.fulls r e vs m

abbrev pub SameChoice : Surroundings → Surroundings → Tree AnIf → Type 0
SameChoice s r e = (m : Machine) → meaning.choice s e m ≡ meaning.choice r e m

abbrev pub SameCall : Surroundings → Surroundings → Tree ACall → Type 0
SameCall s r e = (m : Machine) → meaning.call s e m ≡ meaning.call r e m

abbrev SameArguments : Surroundings → Surroundings → Tree (Many AnArg) → Type 0
SameArguments s r e = (given : List Argument) (m : Machine) → meaning.arguments s e given m ≡ meaning.arguments r e given m

abbrev SameArgued : Surroundings → Surroundings → Tree AnArg → Type 0
SameArgued s r e = (m : Machine) → meaning.argued s e m ≡ meaning.argued r e m

-- ---- a part from its own parts

negative_of : (s r : Surroundings) (at : ℕ) (n : Literal) → SameFull s r (Negative at n)
unfolding full
negative_of s r at n m = refl

plain_of : (s r : Surroundings) (e : Tree AnExpr) → SameExpr s r e → SameFull s r (Plain e)
unfolding full
plain_of s r e same m = same m

expr_of : (s r : Surroundings) (a : Tree AnAnd) (rest : Tree (Many AnAnd)) → SameConjunction s r a → SameOrs s r rest → SameExpr s r (Expr a rest)
unfolding meaning.expr
expr_of s r a rest first second m = then_same (meaning.conjunction s a m) (meaning.conjunction r a m) (λ x. meaning.ors s rest x.0 x.1) (λ x. meaning.ors r rest x.0 x.1) (first m) (λ x. second x.0 x.1)

no_ors : (s r : Surroundings) → SameOrs s r none
unfolding meaning.ors
no_ors s r v m = refl

ors_of : (s r : Surroundings) (a : Tree AnAnd) (rest : Tree (Many AnAnd)) → SameConjunction s r a → SameOrs s r rest → SameOrs s r (more a rest)
unfolding meaning.ors
ors_of s r a rest first second v m =
    then_same (operator_applied either v (meaning.conjunction s a m)) (operator_applied either v (meaning.conjunction r a m)) (λ x. meaning.ors s rest x.0 x.1) (λ x. meaning.ors r rest x.0 x.1)
    (joined_same either v (meaning.conjunction s a m) (meaning.conjunction r a m) (first m)) (λ x. second x.0 x.1)

conjunction_of : (s r : Surroundings) (a : Tree ANot) (rest : Tree (Many ANot)) → SameNegation s r a → SameAnds s r rest → SameConjunction s r (And a rest)
unfolding meaning.conjunction
conjunction_of s r a rest first second m = then_same (meaning.negation s a m) (meaning.negation r a m) (λ x. meaning.ands s rest x.0 x.1) (λ x. meaning.ands r rest x.0 x.1) (first m) (λ x. second x.0 x.1)

no_ands : (s r : Surroundings) → SameAnds s r none
unfolding meaning.ands
no_ands s r v m = refl

ands_of : (s r : Surroundings) (a : Tree ANot) (rest : Tree (Many ANot)) → SameNegation s r a → SameAnds s r rest → SameAnds s r (more a rest)
unfolding meaning.ands
ands_of s r a rest first second v m =
    then_same (operator_applied both v (meaning.negation s a m)) (operator_applied both v (meaning.negation r a m)) (λ x. meaning.ands s rest x.0 x.1) (λ x. meaning.ands r rest x.0 x.1)
    (joined_same both v (meaning.negation s a m) (meaning.negation r a m) (first m)) (λ x. second x.0 x.1)

not_of : (s r : Surroundings) (negated : Bool) (inside : Tree ACompare) → SameCompare s r inside → SameNegation s r (Not negated inside)
unfolding meaning.negation
not_of s r true inside same m =
    then_same (meaning.compare s inside m) (meaning.compare r inside m) (λ x. count_work 1 x.1 >>= λ c. opposite x.0 >>= λ u. Ok (u, c)) (λ x. count_work 1 x.1 >>= λ c. opposite x.0 >>= λ u. Ok (u, c)) (same m) (λ x. refl)
not_of s r false inside same m = same m

alone_of : (s r : Surroundings) (one : Tree ASum) → SameSum s r one → SameCompare s r (Alone one)
unfolding meaning.compare
alone_of s r one same m = same m

compared_of : (s r : Surroundings) (one : Tree ASum) (at : ℕ) (o : CompareOp) (other : Tree ASum) → SameSum s r one → SameSum s r other → SameCompare s r (Compared one at o other)
unfolding meaning.compare
compared_of s r one at o other first second m =
    then_same (meaning.sum s one m) (meaning.sum r one m) (λ x. meaning.sum s other x.1 >>= λ y. count_work 1 y.1 >>= λ c. compared o x.0 y.0 >>= λ u. Ok (u, c)) (λ x. meaning.sum r other x.1 >>= λ y. count_work 1 y.1 >>= λ c. compared o x.0 y.0 >>= λ u. Ok (u, c))
    (first m) (λ x.
    then_same (meaning.sum s other x.1) (meaning.sum r other x.1) (λ y. count_work 1 y.1 >>= λ c. compared o x.0 y.0 >>= λ u. Ok (u, c)) (λ y. count_work 1 y.1 >>= λ c. compared o x.0 y.0 >>= λ u. Ok (u, c)) (second x.1) (λ y. refl))

sum_of : (s r : Surroundings) (p : Tree AProduct) (rest : Tree (Many AnAdded)) → SameProduct s r p → SameAddends s r rest → SameSum s r (Sum p rest)
unfolding meaning.sum
sum_of s r p rest first second m = then_same (meaning.product s p m) (meaning.product r p m) (λ x. meaning.addends s rest x.0 x.1) (λ x. meaning.addends r rest x.0 x.1) (first m) (λ x. second x.0 x.1)

no_addends : (s r : Surroundings) → SameAddends s r none
unfolding meaning.addends
no_addends s r v m = refl

addends_of : (s r : Surroundings) (at : ℕ) (minus : Bool) (p : Tree AProduct) (rest : Tree (Many AnAdded)) → SameProduct s r p → SameAddends s r rest → SameAddends s r (more (Added at minus p) rest)
unfolding meaning.addends meaning.plus
addends_of s r at minus p rest first second v m =
    then_same (operator_applied (added minus at) v (meaning.product s p m)) (operator_applied (added minus at) v (meaning.product r p m)) (λ x. meaning.addends s rest x.0 x.1) (λ x. meaning.addends r rest x.0 x.1)
    (joined_same (added minus at) v (meaning.product s p m) (meaning.product r p m) (first m)) (λ x. second x.0 x.1)

product_of : (s r : Surroundings) (p : Tree AnOperand) (rest : Tree (Many AMultiplied)) → SameOperand s r p → SameFactors s r rest → SameProduct s r (Product p rest)
unfolding meaning.product
product_of s r p rest first second m = then_same (meaning.operand s p m) (meaning.operand r p m) (λ x. meaning.factors s rest x.0 x.1) (λ x. meaning.factors r rest x.0 x.1) (first m) (λ x. second x.0 x.1)

no_factors : (s r : Surroundings) → SameFactors s r none
unfolding meaning.factors
no_factors s r v m = refl

factors_of : (s r : Surroundings) (at : ℕ) (divide : Bool) (p : Tree AnOperand) (rest : Tree (Many AMultiplied)) → SameOperand s r p → SameFactors s r rest → SameFactors s r (more (Multiplied at divide p) rest)
unfolding meaning.factors meaning.times
factors_of s r at divide p rest first second v m =
    then_same (operator_applied (multiplied divide at) v (meaning.operand s p m)) (operator_applied (multiplied divide at) v (meaning.operand r p m)) (λ x. meaning.factors s rest x.0 x.1) (λ x. meaning.factors r rest x.0 x.1)
    (joined_same (multiplied divide at) v (meaning.operand s p m) (meaning.operand r p m) (first m)) (λ x. second x.0 x.1)

constant_of : (s r : Surroundings) (at : ℕ) (n : Literal) → SameOperand s r (Constant at n)
unfolding meaning.operand
constant_of s r at n m = refl

quoted_of : (s r : Surroundings) (at : ℕ) (text : List ℕ) → SameOperand s r (Quoted at text)
unfolding meaning.operand
quoted_of s r at text m = refl

truth_of_operand : (s r : Surroundings) (at : ℕ) (b : Bool) → SameOperand s r (Truth at b)
unfolding meaning.operand
truth_of_operand s r at b m = refl

nothing_of : (s r : Surroundings) (at : ℕ) → SameOperand s r (Nothing at)
unfolding meaning.operand
nothing_of s r at m = refl

braces_of : (s r : Surroundings) (at : ℕ) (pred : Tree APOr) → SameOperand s r (Braces at pred)
unfolding meaning.operand
braces_of s r at pred m = refl

format_of : (s r : Surroundings) (at : ℕ) (bits : Option ℤ) → SameOperand s r (PlaceFormat at bits)
unfolding meaning.operand
format_of s r at bits m = refl

named_of : (s r : Surroundings) (at : ℕ) (name : List ℕ) → s.slots ≡ r.slots → target_said (use_at at s.uses) ≡ target_said (use_at at r.uses) → SameOperand s r (Named at name)
unfolding meaning.operand
named_of s r at name slots target m = named_same s r (use_at at s.uses) (use_at at r.uses) m slots target

called_of : (s r : Surroundings) (k : Tree ACall) → SameCall s r k → SameOperand s r (Called k)
unfolding meaning.operand
called_of s r k same m = then_each (count_work 1 m) (λ c. meaning.call s k c) (λ c. meaning.call r k c) (λ c. same c)

chosen_of : (s r : Surroundings) (i : Tree AnIf) → SameChoice s r i → SameOperand s r (Chosen i)
unfolding meaning.operand
chosen_of s r i same m = then_each (count_work 1 m) (λ c. meaning.choice s i c) (λ c. meaning.choice r i c) (λ c. same c)

paren_of : (s r : Surroundings) (f : Tree AFull) → SameFull s r f → SameOperand s r (Paren f)
unfolding meaning.operand
paren_of s r f same m = then_each (count_work 1 m) (λ c. full s f c) (λ c. full r f c) (λ c. same c)

tuple_of : (s r : Surroundings) (at : ℕ) (f g : Tree AFull) (rest : Tree (Many AFull)) → SameFull s r f → SameFull s r g → SameFulls s r rest → SameOperand s r (Tuple at f g rest)
unfolding meaning.operand
tuple_of s r at f g rest first second third m =
    then_each (count_work 1 m) (λ c. full s f c >>= λ x. full s g x.1 >>= λ y. meaning.fulls s rest (x.0 ∷ y.0 ∷ []) y.1 >>= λ z. Ok (value.TupleValue (many z.0), z.1)) (λ c. full r f c >>= λ x. full r g x.1 >>= λ y. meaning.fulls r rest (x.0 ∷ y.0 ∷ []) y.1 >>= λ z. Ok (value.TupleValue (many z.0), z.1)) (λ c.
    then_same (full s f c) (full r f c) (λ x. full s g x.1 >>= λ y. meaning.fulls s rest (x.0 ∷ y.0 ∷ []) y.1 >>= λ z. Ok (value.TupleValue (many z.0), z.1)) (λ x. full r g x.1 >>= λ y. meaning.fulls r rest (x.0 ∷ y.0 ∷ []) y.1 >>= λ z. Ok (value.TupleValue (many z.0), z.1)) (first c) (λ x.
    then_same (full s g x.1) (full r g x.1) (λ y. meaning.fulls s rest (x.0 ∷ y.0 ∷ []) y.1 >>= λ z. Ok (value.TupleValue (many z.0), z.1)) (λ y. meaning.fulls r rest (x.0 ∷ y.0 ∷ []) y.1 >>= λ z. Ok (value.TupleValue (many z.0), z.1)) (second x.1) (λ y.
    then_same (meaning.fulls s rest (x.0 ∷ y.0 ∷ []) y.1) (meaning.fulls r rest (x.0 ∷ y.0 ∷ []) y.1) (λ z. Ok (value.TupleValue (many z.0), z.1)) (λ z. Ok (value.TupleValue (many z.0), z.1)) (third (x.0 ∷ y.0 ∷ []) y.1) (λ z. refl))))

listed_of : (s r : Surroundings) (at : ℕ) (parts : Tree (Many AFull)) → SameFulls s r parts → SameOperand s r (Listed at parts)
unfolding meaning.operand
listed_of s r at parts same m =
    then_each (count_work 1 m) (λ c. meaning.fulls s parts [] c >>= λ z. Ok (value.ListValue (many z.0), z.1)) (λ c. meaning.fulls r parts [] c >>= λ z. Ok (value.ListValue (many z.0), z.1)) (λ c.
    then_same (meaning.fulls s parts [] c) (meaning.fulls r parts [] c) (λ z. Ok (value.ListValue (many z.0), z.1)) (λ z. Ok (value.ListValue (many z.0), z.1)) (same [] c) (λ z. refl))

no_fulls : (s r : Surroundings) → SameFulls s r none
unfolding meaning.fulls
no_fulls s r vs m = refl

fulls_of : (s r : Surroundings) (f : Tree AFull) (rest : Tree (Many AFull)) → SameFull s r f → SameFulls s r rest → SameFulls s r (more f rest)
unfolding meaning.fulls
fulls_of s r f rest first second vs m = then_same (full s f m) (full r f m) (λ x. meaning.fulls s rest (vs ++ x.0 ∷ []) x.1) (λ x. meaning.fulls r rest (vs ++ x.0 ∷ []) x.1) (first m) (λ x. second (vs ++ x.0 ∷ []) x.1)

choice_of : (s r : Surroundings) (at : ℕ) (c t e : Tree AFull) → SameFull s r c → SameFull s r t → SameFull s r e → SameChoice s r (If at c t e)
unfolding meaning.choice
choice_of s r at c t e first second third m =
    then_same (full s c m) (full r c m) (λ x. truth_of x.0 >>= λ b. elim b [ true ↦ full s t x.1 | false ↦ full s e x.1 ]) (λ x. truth_of x.0 >>= λ b. elim b [ true ↦ full r t x.1 | false ↦ full r e x.1 ]) (first m) (λ x.
    then_each (truth_of x.0) (λ b. elim b [ true ↦ full s t x.1 | false ↦ full s e x.1 ]) (λ b. elim b [ true ↦ full r t x.1 | false ↦ full r e x.1 ]) (λ b.
    branch_same b (full s t x.1) (full s e x.1) (full r t x.1) (full r e x.1) (second x.1) (third x.1)))

call_of : (s r : Surroundings) (at : ℕ) (name : List ℕ) (args : Tree (Many AnArg)) → SameArguments s r args → ((given : List Argument) (m : Machine) → applied s (use_at at s.uses) at given m ≡ applied r (use_at at r.uses) at given m) → SameCall s r (NamedCall at name args)
unfolding meaning.call
call_of s r at name args first second m = then_same (meaning.arguments s args [] m) (meaning.arguments r args [] m) (λ x. applied s (use_at at s.uses) at x.0 x.1) (λ x. applied r (use_at at r.uses) at x.0 x.1) (first [] m) (λ x. second x.0 x.1)

no_arguments : (s r : Surroundings) → SameArguments s r none
unfolding meaning.arguments
no_arguments s r given m = refl

arguments_of : (s r : Surroundings) (a : Tree AnArg) (rest : Tree (Many AnArg)) → SameArgued s r a → SameArguments s r rest → SameArguments s r (more a rest)
unfolding meaning.arguments
arguments_of s r a rest first second given m = then_same (meaning.argued s a m) (meaning.argued r a m) (λ x. meaning.arguments s rest (given ++ x.0 ∷ []) x.1) (λ x. meaning.arguments r rest (given ++ x.0 ∷ []) x.1) (first m) (λ x. second (given ++ x.0 ∷ []) x.1)

argued_of : (s r : Surroundings) (at : ℕ) (label : Option (List ℕ)) (f : Tree AFull) → SameFull s r f → SameArgued s r (Arg at label f)
unfolding meaning.argued
argued_of s r at label f same m = then_same (full s f m) (full r f m) (λ x. Ok ((label, x.0), x.1)) (λ x. Ok ((label, x.0), x.1)) (same m) (λ x. refl)

-- ---- expressions

mutual
  pub full_same : (s r : Surroundings) (sc : scoping.Scope) (e : Tree AFull) → Alike s r (names sc e) → SameFull s r e
  full_same s r sc (Negative at n) alike = negative_of s r at n
  full_same s r sc (Plain e) alike = plain_of s r e (expr_same s r sc e alike)

  pub expr_same : (s r : Surroundings) (sc : scoping.Scope) (e : Tree AnExpr) → Alike s r (names sc e) → SameExpr s r e
  expr_same s r sc (Expr a rest) alike = expr_of s r a rest (conjunction_same s r sc a (left s r (names sc a) (names sc rest) alike)) (ors_same s r sc rest (right s r (names sc a) (names sc rest) alike))

  ors_same : (s r : Surroundings) (sc : scoping.Scope) (rest : Tree (Many AnAnd)) → Alike s r (names sc rest) → SameOrs s r rest
  ors_same s r sc none alike = no_ors s r
  ors_same s r sc (more a rest) alike = ors_of s r a rest (conjunction_same s r sc a (left s r (names sc a) (names sc rest) alike)) (ors_same s r sc rest (right s r (names sc a) (names sc rest) alike))

  conjunction_same : (s r : Surroundings) (sc : scoping.Scope) (e : Tree AnAnd) → Alike s r (names sc e) → SameConjunction s r e
  conjunction_same s r sc (And a rest) alike = conjunction_of s r a rest (negation_same s r sc a (left s r (names sc a) (names sc rest) alike)) (ands_same s r sc rest (right s r (names sc a) (names sc rest) alike))

  ands_same : (s r : Surroundings) (sc : scoping.Scope) (rest : Tree (Many ANot)) → Alike s r (names sc rest) → SameAnds s r rest
  ands_same s r sc none alike = no_ands s r
  ands_same s r sc (more a rest) alike = ands_of s r a rest (negation_same s r sc a (left s r (names sc a) (names sc rest) alike)) (ands_same s r sc rest (right s r (names sc a) (names sc rest) alike))

  negation_same : (s r : Surroundings) (sc : scoping.Scope) (e : Tree ANot) → Alike s r (names sc e) → SameNegation s r e
  negation_same s r sc (Not negated inside) alike = not_of s r negated inside (compare_same s r sc inside alike)

  compare_same : (s r : Surroundings) (sc : scoping.Scope) (e : Tree ACompare) → Alike s r (names sc e) → SameCompare s r e
  compare_same s r sc (Alone one) alike = alone_of s r one (sum_same s r sc one alike)
  compare_same s r sc (Compared one at o other) alike = compared_of s r one at o other (sum_same s r sc one (left s r (names sc one) (names sc other) alike)) (sum_same s r sc other (right s r (names sc one) (names sc other) alike))

  sum_same : (s r : Surroundings) (sc : scoping.Scope) (e : Tree ASum) → Alike s r (names sc e) → SameSum s r e
  sum_same s r sc (Sum p rest) alike = sum_of s r p rest (product_same s r sc p (left s r (names sc p) (names sc rest) alike)) (addends_same s r sc rest (right s r (names sc p) (names sc rest) alike))

  addends_same : (s r : Surroundings) (sc : scoping.Scope) (rest : Tree (Many AnAdded)) → Alike s r (names sc rest) → SameAddends s r rest
  addends_same s r sc none alike = no_addends s r
  addends_same s r sc (more (Added at minus p) rest) alike = addends_of s r at minus p rest (product_same s r sc p (left s r (names sc p) (names sc rest) alike)) (addends_same s r sc rest (right s r (names sc p) (names sc rest) alike))

  product_same : (s r : Surroundings) (sc : scoping.Scope) (e : Tree AProduct) → Alike s r (names sc e) → SameProduct s r e
  product_same s r sc (Product p rest) alike = product_of s r p rest (operand_same s r sc p (left s r (names sc p) (names sc rest) alike)) (factors_same s r sc rest (right s r (names sc p) (names sc rest) alike))

  factors_same : (s r : Surroundings) (sc : scoping.Scope) (rest : Tree (Many AMultiplied)) → Alike s r (names sc rest) → SameFactors s r rest
  factors_same s r sc none alike = no_factors s r
  factors_same s r sc (more (Multiplied at divide p) rest) alike = factors_of s r at divide p rest (operand_same s r sc p (left s r (names sc p) (names sc rest) alike)) (factors_same s r sc rest (right s r (names sc p) (names sc rest) alike))

  operand_same : (s r : Surroundings) (sc : scoping.Scope) (e : Tree AnOperand) → Alike s r (names sc e) → SameOperand s r e
  operand_same s r sc (Constant at n) alike = constant_of s r at n
  operand_same s r sc (Quoted at text) alike = quoted_of s r at text
  operand_same s r sc (Truth at b) alike = truth_of_operand s r at b
  operand_same s r sc (Named at name) alike = named_of s r at name alike.slots (alike.targets at)
  operand_same s r sc (Called k) alike = called_of s r k (call_same s r sc k alike)
  operand_same s r sc (Chosen i) alike = chosen_of s r i (choice_same s r sc i alike)
  operand_same s r sc (Nothing at) alike = nothing_of s r at
  operand_same s r sc (Paren f) alike = paren_of s r f (full_same s r sc f alike)
  operand_same s r sc (Tuple at f g rest) alike = tuple_of s r at f g rest (full_same s r sc f (first_of s r (names sc f) (names sc g) (names sc rest) alike)) (full_same s r sc g (second_of s r (names sc f) (names sc g) (names sc rest) alike)) (fulls_same s r sc rest (third_of s r (names sc f) (names sc g) (names sc rest) alike))
  operand_same s r sc (Listed at parts) alike = listed_of s r at parts (fulls_same s r sc parts alike)
  operand_same s r sc (Braces at pred) alike = braces_of s r at pred
  operand_same s r sc (PlaceFormat at bits) alike = format_of s r at bits

  fulls_same : (s r : Surroundings) (sc : scoping.Scope) (rest : Tree (Many AFull)) → Alike s r (names sc rest) → SameFulls s r rest
  fulls_same s r sc none alike = no_fulls s r
  fulls_same s r sc (more f rest) alike = fulls_of s r f rest (full_same s r sc f (left s r (names sc f) (names sc rest) alike)) (fulls_same s r sc rest (right s r (names sc f) (names sc rest) alike))

  pub choice_same : (s r : Surroundings) (sc : scoping.Scope) (e : Tree AnIf) → Alike s r (names sc e) → SameChoice s r e
  choice_same s r sc (If at c t e) alike = choice_of s r at c t e (full_same s r sc c (first_of s r (names sc c) (names sc t) (names sc e) alike)) (full_same s r sc t (second_of s r (names sc c) (names sc t) (names sc e) alike)) (full_same s r sc e (third_of s r (names sc c) (names sc t) (names sc e) alike))

  pub call_same : (s r : Surroundings) (sc : scoping.Scope) (e : Tree ACall) → Alike s r (names sc e) → SameCall s r e
  call_same s r sc (NamedCall at name args) alike = call_of s r at name args (arguments_same s r sc args (behind s r (called at name sc args) (names sc args) alike)) (alike.calls (called at name sc args) (inl refl))

  arguments_same : (s r : Surroundings) (sc : scoping.Scope) (rest : Tree (Many AnArg)) → Alike s r (names sc rest) → SameArguments s r rest
  arguments_same s r sc none alike = no_arguments s r
  arguments_same s r sc (more a rest) alike = arguments_of s r a rest (argued_same s r sc a (left s r (names sc a) (names sc rest) alike)) (arguments_same s r sc rest (right s r (names sc a) (names sc rest) alike))

  argued_same : (s r : Surroundings) (sc : scoping.Scope) (a : Tree AnArg) → Alike s r (names sc a) → SameArgued s r a
  argued_same s r sc (Arg at label f) alike = argued_of s r at label f (full_same s r sc f alike)

-- ---- defs

parameter_same : (s r : Surroundings) (sc : scoping.Scope) (p : Tree AParam) (given : List Argument) (m : Machine) → Alike s r (names sc p) → meaning.parameter s p given m ≡ meaning.parameter r p given m
unfolding meaning.parameter
parameter_same s r sc (Param at name) given m alike = refl
parameter_same s r sc (Labelled at name) given m alike = refl
parameter_same s r sc (Optional at name d) given m alike = ap (λ (x : Outcome). slot_or_default at (argument (Some name) given) given x m) (full_same s r sc d alike m)

parameters_same : (s r : Surroundings) (sc : scoping.Scope) (ps : Tree (Many AParam)) (given : List Argument) (slots : List SlotValue) (m : Machine) → Alike s r (names sc ps) → meaning.parameters s ps given slots m ≡ meaning.parameters r ps given slots m
unfolding meaning.parameters
parameters_same s r sc none given slots m alike = refl
parameters_same s r sc (more p ps) given slots m alike =
    then_same (meaning.parameter s p given m) (meaning.parameter r p given m) (λ x. meaning.parameters s ps x.0.1 (slots ++ x.0.0 ∷ []) x.1) (λ x. meaning.parameters r ps x.0.1 (slots ++ x.0.0 ∷ []) x.1)
    (parameter_same s r sc p given m (left s r (names sc p) (names sc ps) alike)) (λ x. parameters_same s r sc ps x.0.1 (slots ++ x.0.0 ∷ []) x.1 (right s r (names sc p) (names sc ps) alike))

inner_same : (s r : Surroundings) (sc : scoping.Scope) (i : Tree AnInner) (slots : List SlotValue) (m : Machine) → Alike s r (names sc i) → meaning.inner s i slots m ≡ meaning.inner r i slots m
unfolding meaning.inner
inner_same s r sc (Inner (Bind at name f) semicolon) slots m alike =
    then_same (full (with_slots s slots) f m) (full (with_slots r slots) f m) (λ x. Ok ((at, x.0), x.1)) (λ x. Ok ((at, x.0), x.1))
    (full_same (with_slots s slots) (with_slots r slots) sc f (alike_within s r (names sc f) slots alike) m) (λ x. refl)

inners_same : (s r : Surroundings) (sc : scoping.Scope) (is : Tree (Many AnInner)) (slots : List SlotValue) (m : Machine) → Alike s r (inner_names sc is) → meaning.inners s is slots m ≡ meaning.inners r is slots m
unfolding meaning.inners
inners_same s r sc none slots m alike = refl
inners_same s r sc (more i is) slots m alike =
    then_same (meaning.inner s i slots m) (meaning.inner r i slots m) (λ x. meaning.inners s is (slots ++ x.0 ∷ []) x.1) (λ x. meaning.inners r is (slots ++ x.0 ∷ []) x.1)
    (inner_same s r sc i slots m (left s r (names sc i) (inner_names (with_inner i sc) is) alike)) (λ x. inners_same s r (with_inner i sc) is (slots ++ x.0 ∷ []) x.1 (right s r (names sc i) (inner_names (with_inner i sc) is) alike))

pub body_same : (s r : Surroundings) (sc : scoping.Scope) (d : Tree ADef) (given : List Argument) (m : Machine) → Alike s r (names sc d) → meaning.body s d given m ≡ meaning.body r d given m
unfolding meaning.body
body_same s r sc (Def at name params equals bindings result) given m alike =
    let a : List Name = names sc params in
    let b : List Name = inner_names (with_params params sc) bindings in
    let c : List Name = names (with_inners bindings (with_params params sc)) result in
    then_same (meaning.parameters s params given [] m) (meaning.parameters r params given [] m) (λ x. meaning.inners s bindings x.0 x.1 >>= λ y. meaning.expr (with_slots s y.0) result y.1) (λ x. meaning.inners r bindings x.0 x.1 >>= λ y. meaning.expr (with_slots r y.0) result y.1)
    (parameters_same s r sc params given [] m (first_of s r a b c alike)) (λ x.
    then_same (meaning.inners s bindings x.0 x.1) (meaning.inners r bindings x.0 x.1) (λ y. meaning.expr (with_slots s y.0) result y.1) (λ y. meaning.expr (with_slots r y.0) result y.1)
    (inners_same s r (with_params params sc) bindings x.0 x.1 (second_of s r a b c alike)) (λ y.
    expr_same (with_slots s y.0) (with_slots r y.0) (with_inners bindings (with_params params sc)) result (alike_within s r c y.0 (third_of s r a b c alike)) y.1))

-- ---- statements

pub part_same : (s r : Surroundings) (sc : scoping.Scope) (part : Tree APart) (slots : List SlotValue) (m : Machine) → Alike s r (names sc part) → statement s part slots m ≡ statement r part slots m
unfolding statement
part_same s r sc (BindPart (Bind at name f)) slots m alike = then_same (full s f m) (full r f m) (λ x. Ok (slots ++ (at, x.0) ∷ [], x.1)) (λ x. Ok (slots ++ (at, x.0) ∷ [], x.1)) (full_same s r sc f alike m) (λ x. refl)
part_same s r sc (DefPart d) slots m alike = refl
part_same s r sc (CallPart c) slots m alike = then_same (meaning.call s c m) (meaning.call r c m) (λ x. Ok (slots, x.1)) (λ x. Ok (slots, x.1)) (call_same s r sc c alike m) (λ x. refl)
part_same s r sc (IfPart i) slots m alike = then_same (meaning.choice s i m) (meaning.choice r i m) (λ x. Ok (slots, x.1)) (λ x. Ok (slots, x.1)) (choice_same s r sc i alike m) (λ x. refl)
