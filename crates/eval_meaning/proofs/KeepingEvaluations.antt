-- What counting and the builtins keep true of the state, evaluation keeps.
use Rattle.std.proofs.Common.{ℕ, zero, suc, List, [], ◌∷◌, ◌++◌, length, Bool, true, false, Option, Some, None, Result, Ok, Err}
use Rattle.liq_base.specs.declared.memory.Kind.{Kind}
use Rattle.script_grammar.specs.Tree.{Tree, Many, none, more, AFull, AnExpr, AnAnd, ANot, ACompare, ASum, AnAdded, AProduct, AMultiplied, AnOperand, ACall, AnArg, AnIf, AParam, AnInner, ADef, Negative, Plain, Expr, And, Not, Alone, Compared, Sum, Added, Product, Multiplied, Constant, Quoted, Truth, Named, Called, Chosen, Nothing, Paren, Tuple, Listed, Braces, PlaceFormat, NamedCall, Arg, If, Param, Labelled, Optional, Inner, Bind, Def, APart, BindPart, DefPart, CallPart, IfPart}
use Rattle.typing_rules.specs.declared.uses.Use.{Use}
use Rattle.typing_rules.specs.declared.uses.Target.{Target}
use Rattle.typing_rules.specs.declared.uses.Target.TheVariants as target
use Rattle.typing_rules.specs.Arguments.{argument}
use Rattle.typing_rules.specs.Defs.{def_at}
use Rattle.typing_rules.specs.Kinds.{kinds_of}
use Rattle.typing_rules.specs.Uses.{use_at}
use Rattle.script_values.specs.declared.fault.Stop.{Stop}
use Rattle.script_values.specs.declared.fault.Stop.TheVariants.{Stuck}
use Rattle.script_values.specs.declared.machine.Machine.{Machine}
use Rattle.script_values.specs.Machines.{count_work}
use Rattle.script_values.specs.Numbers.{literal_value, negative, added, multiplied, compared, either, both, opposite, truth_of}
use Rattle.script_values.specs.Outcomes.{◌>>=◌, Outcome, ascribed}
use Rattle.script_values.specs.Slots.{Argument, SlotValue, value_at_token}
use Rattle.script_values.specs.Values as value
use Rattle.script_values.specs.Values.{Value, many, size}
use Rattle.eval_meaning.specs.Keeping.{IsKept, HoldsBehind, Leaves}
use Rattle.eval_meaning.specs.Meaning as meaning
use Rattle.eval_meaning.specs.Meaning.{Surroundings, World, call_by, full, operator_applied, slot_or_default, taken_slot, value_at, with_slots}
use Rattle.eval_meaning.specs.Preds.{or_pred}
use Rattle.eval_meaning.specs.Scripts.{statement}

-- ---- steps behind steps

after : {A B : Type 0} (P : Machine → Type 0) (r : Result (A × Machine) Stop) (f : A × Machine → Result (B × Machine) Stop) → HoldsBehind P r → ((x : A × Machine) → P x.1 → HoldsBehind P (f x)) → HoldsBehind P (r >>= f)
after P (Ok x) f is later = later x is
after P (Err e) f is later = tt

counted : {B : Type 0} {P : Machine → Type 0} → IsKept P → (n : ℕ) (m : Machine) (f : Machine → Result (B × Machine) Stop) → P m → ((c : Machine) → P c → HoldsBehind P (f c)) → HoldsBehind P (count_work n m >>= f)
counted {P = P} kept n m f is later = behind (count_work n m) (kept.counts n m is) where
  behind : (r : Result Machine Stop) → Leaves P r → HoldsBehind P (r >>= f)
  behind (Ok c) held = later c held
  behind (Err e) held = tt

-- a step that has no state
fixed : {A B : Type 0} (P : Machine → Type 0) (r : Result A Stop) (f : A → Result (B × Machine) Stop) → ((x : A) → HoldsBehind P (f x)) → HoldsBehind P (r >>= f)
fixed P (Ok x) f later = later x
fixed P (Err e) f later = tt

joined_keeps : {P : Machine → Type 0} → IsKept P → (op : Value → Value → Result Value Stop) (v : Value) (right : Outcome) → HoldsBehind P right → HoldsBehind P (operator_applied op v right)
joined_keeps {P = P} kept op v right is =
    after P right (λ x. count_work 1 x.1 >>= λ c. op v x.0 >>= λ u. Ok (u, c)) is (λ x held.
    counted kept 1 x.1 (λ c. op v x.0 >>= λ u. Ok (u, c)) held (λ c still. fixed P (op v x.0) (λ u. Ok (u, c)) (λ u. still)))

branch_keeps : (P : Machine → Type 0) (b : Bool) (r q : Outcome) → HoldsBehind P r → HoldsBehind P q → HoldsBehind P (elim b [ true ↦ r | false ↦ q ])
branch_keeps P true r q first second = first
branch_keeps P false r q first second = second

-- ---- names and calls

found_keeps : {P : Machine → Type 0} → IsKept P → (o : Option Value) (m : Machine) → P m → HoldsBehind P (value_at o m)
found_keeps kept None m is = tt
found_keeps kept (Some v) m is = counted kept (size v) m (λ c. Ok (v, c)) is (λ c still. still)

slot_keeps : {P : Machine → Type 0} → IsKept P → (s : Surroundings) (t : Target) (m : Machine) → P m → HoldsBehind P (elim t [ target.Slot t ↦ value_at (value_at_token t s.slots) m | target.Def t ↦ Err Stuck | target.Builtin b ↦ Err Stuck ])
slot_keeps kept s (target.Slot t) m is = found_keeps kept (value_at_token t s.slots) m is
slot_keeps kept s (target.Def t) m is = tt
slot_keeps kept s (target.Builtin b) m is = tt

named_keeps : {P : Machine → Type 0} → IsKept P → (s : Surroundings) (o : Option Use) (m : Machine) → P m → HoldsBehind P (meaning.named s o m)
unfolding meaning.named
named_keeps kept s None m is = tt
named_keeps kept s (Some u) m is = slot_keeps kept s u.target m is

-- calls of defs keep it too
abbrev KeepsCalls : (Machine → Type 0) → Surroundings → Type 0
KeepsCalls P s = (t : ℕ) (kinds : List Kind) (given : List Argument) (m : Machine) → P m → HoldsBehind P (s.call t kinds given m)

noted_keeps : {P : Machine → Type 0} → IsKept P → (at : ℕ) (m : Machine) (made : Outcome) → HoldsBehind P made → HoldsBehind P (ascribed at m made)
noted_keeps kept at m (Ok x) is = kept.notes at (length m.plan.nodes) x.1 is
noted_keeps kept at m (Err e) is = tt

called_keeps : {P : Machine → Type 0} → IsKept P → (s : Surroundings) → KeepsCalls P s → (t : Target) (at : ℕ) (o : Option (List Kind)) (given : List Argument) (m : Machine) → P m → HoldsBehind P (ascribed at m (meaning.applied_to s t at o given m))
called_keeps kept s calls t at None given m is = tt
called_keeps kept s calls (target.Slot t) at (Some kinds) given m is = tt
called_keeps kept s calls (target.Def t) at (Some kinds) given m is = noted_keeps kept at m (s.call t kinds given m) (calls t kinds given m is)
called_keeps kept s calls (target.Builtin b) at (Some kinds) given m is = kept.builtins b at kinds given m is

applied_keeps : {P : Machine → Type 0} → IsKept P → (s : Surroundings) → KeepsCalls P s → (o : Option Use) (at : ℕ) (given : List Argument) (m : Machine) → P m → HoldsBehind P (meaning.applied s o at given m)
unfolding meaning.applied
applied_keeps kept s calls None at given m is = tt
applied_keeps kept s calls (Some u) at given m is = called_keeps kept s calls u.target at (kinds_of s.kinds u.kinds) given m is

-- ---- expressions

mutual
  unfolding full meaning.expr meaning.ors meaning.conjunction meaning.ands meaning.negation meaning.compare meaning.sum meaning.addends meaning.plus meaning.product meaning.factors meaning.times meaning.operand meaning.fulls meaning.choice meaning.call meaning.arguments meaning.argued

  pub full_keeps : {P : Machine → Type 0} → IsKept P → (s : Surroundings) → KeepsCalls P s → (e : Tree AFull) (m : Machine) → P m → HoldsBehind P (full s e m)
  full_keeps {P = P} kept s calls (Negative at n) m is = counted kept 1 m (λ c. negative at n >>= λ v. Ok (v, c)) is (λ c still. fixed P (negative at n) (λ v. Ok (v, c)) (λ v. still))
  full_keeps kept s calls (Plain e) m is = expr_keeps kept s calls e m is

  pub expr_keeps : {P : Machine → Type 0} → IsKept P → (s : Surroundings) → KeepsCalls P s → (e : Tree AnExpr) (m : Machine) → P m → HoldsBehind P (meaning.expr s e m)
  expr_keeps {P = P} kept s calls (Expr a rest) m is = after P (meaning.conjunction s a m) (λ x. meaning.ors s rest x.0 x.1) (conjunction_keeps kept s calls a m is) (λ x held. ors_keeps kept s calls rest x.0 x.1 held)

  ors_keeps : {P : Machine → Type 0} → IsKept P → (s : Surroundings) → KeepsCalls P s → (rest : Tree (Many AnAnd)) (v : Value) (m : Machine) → P m → HoldsBehind P (meaning.ors s rest v m)
  ors_keeps kept s calls none v m is = is
  ors_keeps {P = P} kept s calls (more a rest) v m is = after P (operator_applied either v (meaning.conjunction s a m)) (λ x. meaning.ors s rest x.0 x.1) (joined_keeps kept either v (meaning.conjunction s a m) (conjunction_keeps kept s calls a m is)) (λ x held. ors_keeps kept s calls rest x.0 x.1 held)

  conjunction_keeps : {P : Machine → Type 0} → IsKept P → (s : Surroundings) → KeepsCalls P s → (e : Tree AnAnd) (m : Machine) → P m → HoldsBehind P (meaning.conjunction s e m)
  conjunction_keeps {P = P} kept s calls (And n rest) m is = after P (meaning.negation s n m) (λ x. meaning.ands s rest x.0 x.1) (negation_keeps kept s calls n m is) (λ x held. ands_keeps kept s calls rest x.0 x.1 held)

  ands_keeps : {P : Machine → Type 0} → IsKept P → (s : Surroundings) → KeepsCalls P s → (rest : Tree (Many ANot)) (v : Value) (m : Machine) → P m → HoldsBehind P (meaning.ands s rest v m)
  ands_keeps kept s calls none v m is = is
  ands_keeps {P = P} kept s calls (more n rest) v m is = after P (operator_applied both v (meaning.negation s n m)) (λ x. meaning.ands s rest x.0 x.1) (joined_keeps kept both v (meaning.negation s n m) (negation_keeps kept s calls n m is)) (λ x held. ands_keeps kept s calls rest x.0 x.1 held)

  negation_keeps : {P : Machine → Type 0} → IsKept P → (s : Surroundings) → KeepsCalls P s → (e : Tree ANot) (m : Machine) → P m → HoldsBehind P (meaning.negation s e m)
  negation_keeps {P = P} kept s calls (Not true inner) m is =
      after P (meaning.compare s inner m) (λ x. count_work 1 x.1 >>= λ c. opposite x.0 >>= λ u. Ok (u, c)) (compare_keeps kept s calls inner m is) (λ x held.
      counted kept 1 x.1 (λ c. opposite x.0 >>= λ u. Ok (u, c)) held (λ c still. fixed P (opposite x.0) (λ u. Ok (u, c)) (λ u. still)))
  negation_keeps kept s calls (Not false inner) m is = compare_keeps kept s calls inner m is

  compare_keeps : {P : Machine → Type 0} → IsKept P → (s : Surroundings) → KeepsCalls P s → (e : Tree ACompare) (m : Machine) → P m → HoldsBehind P (meaning.compare s e m)
  compare_keeps kept s calls (Alone left) m is = sum_keeps kept s calls left m is
  compare_keeps {P = P} kept s calls (Compared left at o right) m is =
      after P (meaning.sum s left m) (λ x. meaning.sum s right x.1 >>= λ y. count_work 1 y.1 >>= λ c. compared o x.0 y.0 >>= λ u. Ok (u, c)) (sum_keeps kept s calls left m is) (λ x held.
      after P (meaning.sum s right x.1) (λ y. count_work 1 y.1 >>= λ c. compared o x.0 y.0 >>= λ u. Ok (u, c)) (sum_keeps kept s calls right x.1 held) (λ y still.
      counted kept 1 y.1 (λ c. compared o x.0 y.0 >>= λ u. Ok (u, c)) still (λ c yet. fixed P (compared o x.0 y.0) (λ u. Ok (u, c)) (λ u. yet))))

  sum_keeps : {P : Machine → Type 0} → IsKept P → (s : Surroundings) → KeepsCalls P s → (e : Tree ASum) (m : Machine) → P m → HoldsBehind P (meaning.sum s e m)
  sum_keeps {P = P} kept s calls (Sum p rest) m is = after P (meaning.product s p m) (λ x. meaning.addends s rest x.0 x.1) (product_keeps kept s calls p m is) (λ x held. addends_keeps kept s calls rest x.0 x.1 held)

  addends_keeps : {P : Machine → Type 0} → IsKept P → (s : Surroundings) → KeepsCalls P s → (rest : Tree (Many AnAdded)) (v : Value) (m : Machine) → P m → HoldsBehind P (meaning.addends s rest v m)
  addends_keeps kept s calls none v m is = is
  addends_keeps {P = P} kept s calls (more (Added at minus p) rest) v m is = after P (operator_applied (added minus at) v (meaning.product s p m)) (λ x. meaning.addends s rest x.0 x.1) (joined_keeps kept (added minus at) v (meaning.product s p m) (product_keeps kept s calls p m is)) (λ x held. addends_keeps kept s calls rest x.0 x.1 held)

  product_keeps : {P : Machine → Type 0} → IsKept P → (s : Surroundings) → KeepsCalls P s → (e : Tree AProduct) (m : Machine) → P m → HoldsBehind P (meaning.product s e m)
  product_keeps {P = P} kept s calls (Product p rest) m is = after P (meaning.operand s p m) (λ x. meaning.factors s rest x.0 x.1) (operand_keeps kept s calls p m is) (λ x held. factors_keeps kept s calls rest x.0 x.1 held)

  factors_keeps : {P : Machine → Type 0} → IsKept P → (s : Surroundings) → KeepsCalls P s → (rest : Tree (Many AMultiplied)) (v : Value) (m : Machine) → P m → HoldsBehind P (meaning.factors s rest v m)
  factors_keeps kept s calls none v m is = is
  factors_keeps {P = P} kept s calls (more (Multiplied at divide p) rest) v m is = after P (operator_applied (multiplied divide at) v (meaning.operand s p m)) (λ x. meaning.factors s rest x.0 x.1) (joined_keeps kept (multiplied divide at) v (meaning.operand s p m) (operand_keeps kept s calls p m is)) (λ x held. factors_keeps kept s calls rest x.0 x.1 held)

  operand_keeps : {P : Machine → Type 0} → IsKept P → (s : Surroundings) → KeepsCalls P s → (e : Tree AnOperand) (m : Machine) → P m → HoldsBehind P (meaning.operand s e m)
  operand_keeps kept s calls (Constant at n) m is = counted kept 1 m (λ c. Ok (literal_value n, c)) is (λ c still. still)
  operand_keeps kept s calls (Quoted at text) m is = counted kept 1 m (λ c. Ok (value.TextValue text, c)) is (λ c still. still)
  operand_keeps kept s calls (Truth at b) m is = counted kept 1 m (λ c. Ok (value.TruthValue b, c)) is (λ c still. still)
  operand_keeps kept s calls (Named at name) m is = named_keeps kept s (use_at at s.uses) m is
  operand_keeps kept s calls (Called k) m is = counted kept 1 m (λ c. meaning.call s k c) is (λ c still. call_keeps kept s calls k c still)
  operand_keeps kept s calls (Chosen i) m is = counted kept 1 m (λ c. meaning.choice s i c) is (λ c still. choice_keeps kept s calls i c still)
  operand_keeps kept s calls (Nothing at) m is = counted kept 1 m (λ c. Ok (value.UnitValue, c)) is (λ c still. still)
  operand_keeps kept s calls (Paren f) m is = counted kept 1 m (λ c. full s f c) is (λ c still. full_keeps kept s calls f c still)
  operand_keeps {P = P} kept s calls (Tuple at f g rest) m is =
      counted kept 1 m (λ c. full s f c >>= λ x. full s g x.1 >>= λ y. meaning.fulls s rest (x.0 ∷ y.0 ∷ []) y.1 >>= λ z. Ok (value.TupleValue (many z.0), z.1)) is (λ c still.
      after P (full s f c) (λ x. full s g x.1 >>= λ y. meaning.fulls s rest (x.0 ∷ y.0 ∷ []) y.1 >>= λ z. Ok (value.TupleValue (many z.0), z.1)) (full_keeps kept s calls f c still) (λ x held.
      after P (full s g x.1) (λ y. meaning.fulls s rest (x.0 ∷ y.0 ∷ []) y.1 >>= λ z. Ok (value.TupleValue (many z.0), z.1)) (full_keeps kept s calls g x.1 held) (λ y yet.
      after P (meaning.fulls s rest (x.0 ∷ y.0 ∷ []) y.1) (λ z. Ok (value.TupleValue (many z.0), z.1)) (fulls_keeps kept s calls rest (x.0 ∷ y.0 ∷ []) y.1 yet) (λ z last. last))))
  operand_keeps {P = P} kept s calls (Listed at parts) m is =
      counted kept 1 m (λ c. meaning.fulls s parts [] c >>= λ z. Ok (value.ListValue (many z.0), z.1)) is (λ c still.
      after P (meaning.fulls s parts [] c) (λ z. Ok (value.ListValue (many z.0), z.1)) (fulls_keeps kept s calls parts [] c still) (λ z last. last))
  operand_keeps kept s calls (Braces at pred) m is = counted kept 1 m (λ c. Ok (value.PredValue (or_pred pred), c)) is (λ c still. still)
  operand_keeps {P = P} kept s calls (PlaceFormat at bits) m is = counted kept 1 m (λ c. meaning.format at bits >>= λ v. Ok (v, c)) is (λ c still. fixed P (meaning.format at bits) (λ v. Ok (v, c)) (λ v. still))

  fulls_keeps : {P : Machine → Type 0} → IsKept P → (s : Surroundings) → KeepsCalls P s → (rest : Tree (Many AFull)) (vs : List Value) (m : Machine) → P m → HoldsBehind P (meaning.fulls s rest vs m)
  fulls_keeps kept s calls none vs m is = is
  fulls_keeps {P = P} kept s calls (more f rest) vs m is = after P (full s f m) (λ x. meaning.fulls s rest (vs ++ x.0 ∷ []) x.1) (full_keeps kept s calls f m is) (λ x held. fulls_keeps kept s calls rest (vs ++ x.0 ∷ []) x.1 held)

  pub choice_keeps : {P : Machine → Type 0} → IsKept P → (s : Surroundings) → KeepsCalls P s → (e : Tree AnIf) (m : Machine) → P m → HoldsBehind P (meaning.choice s e m)
  choice_keeps {P = P} kept s calls (If at c t e) m is =
      after P (full s c m) (λ x. truth_of x.0 >>= λ b. elim b [ true ↦ full s t x.1 | false ↦ full s e x.1 ]) (full_keeps kept s calls c m is) (λ x held.
      fixed P (truth_of x.0) (λ b. elim b [ true ↦ full s t x.1 | false ↦ full s e x.1 ]) (λ b.
      branch_keeps P b (full s t x.1) (full s e x.1) (full_keeps kept s calls t x.1 held) (full_keeps kept s calls e x.1 held)))

  pub call_keeps : {P : Machine → Type 0} → IsKept P → (s : Surroundings) → KeepsCalls P s → (e : Tree ACall) (m : Machine) → P m → HoldsBehind P (meaning.call s e m)
  call_keeps {P = P} kept s calls (NamedCall at name args) m is = after P (meaning.arguments s args [] m) (λ x. meaning.applied s (use_at at s.uses) at x.0 x.1) (arguments_keeps kept s calls args [] m is) (λ x held. applied_keeps kept s calls (use_at at s.uses) at x.0 x.1 held)

  arguments_keeps : {P : Machine → Type 0} → IsKept P → (s : Surroundings) → KeepsCalls P s → (rest : Tree (Many AnArg)) (given : List Argument) (m : Machine) → P m → HoldsBehind P (meaning.arguments s rest given m)
  arguments_keeps kept s calls none given m is = is
  arguments_keeps {P = P} kept s calls (more a rest) given m is = after P (meaning.argued s a m) (λ x. meaning.arguments s rest (given ++ x.0 ∷ []) x.1) (argued_keeps kept s calls a m is) (λ x held. arguments_keeps kept s calls rest (given ++ x.0 ∷ []) x.1 held)

  argued_keeps : {P : Machine → Type 0} → IsKept P → (s : Surroundings) → KeepsCalls P s → (a : Tree AnArg) (m : Machine) → P m → HoldsBehind P (meaning.argued s a m)
  argued_keeps {P = P} kept s calls (Arg at label f) m is = after P (full s f m) (λ x. Ok ((label, x.0), x.1)) (full_keeps kept s calls f m is) (λ x held. held)

-- ---- defs

taken_keeps : (P : Machine → Type 0) (at : ℕ) (o : Option (Value × List Argument)) (m : Machine) → P m → HoldsBehind P (taken_slot at o m)
taken_keeps P at None m is = tt
taken_keeps P at (Some x) m is = is

default_keeps : (P : Machine → Type 0) (at : ℕ) (o : Option (Value × List Argument)) (given : List Argument) (default : Outcome) (m : Machine) → P m → HoldsBehind P default → HoldsBehind P (slot_or_default at o given default m)
default_keeps P at None given default m is held = after P default (λ x. Ok (((at, x.0), given), x.1)) held (λ x still. still)
default_keeps P at (Some x) given default m is held = is

parameter_keeps : {P : Machine → Type 0} → IsKept P → (s : Surroundings) → KeepsCalls P s → (p : Tree AParam) (given : List Argument) (m : Machine) → P m → HoldsBehind P (meaning.parameter s p given m)
unfolding meaning.parameter
parameter_keeps {P = P} kept s calls (Param at name) given m is = taken_keeps P at (argument None given) m is
parameter_keeps {P = P} kept s calls (Labelled at name) given m is = taken_keeps P at (argument (Some name) given) m is
parameter_keeps {P = P} kept s calls (Optional at name d) given m is = default_keeps P at (argument (Some name) given) given (full s d m) m is (full_keeps kept s calls d m is)

parameters_keeps : {P : Machine → Type 0} → IsKept P → (s : Surroundings) → KeepsCalls P s → (ps : Tree (Many AParam)) (given : List Argument) (slots : List SlotValue) (m : Machine) → P m → HoldsBehind P (meaning.parameters s ps given slots m)
unfolding meaning.parameters
parameters_keeps kept s calls none given slots m is = is
parameters_keeps {P = P} kept s calls (more p ps) given slots m is = after P (meaning.parameter s p given m) (λ x. meaning.parameters s ps x.0.1 (slots ++ x.0.0 ∷ []) x.1) (parameter_keeps kept s calls p given m is) (λ x held. parameters_keeps kept s calls ps x.0.1 (slots ++ x.0.0 ∷ []) x.1 held)

inner_keeps : {P : Machine → Type 0} → IsKept P → (s : Surroundings) → KeepsCalls P s → (i : Tree AnInner) (slots : List SlotValue) (m : Machine) → P m → HoldsBehind P (meaning.inner s i slots m)
unfolding meaning.inner
inner_keeps {P = P} kept s calls (Inner (Bind at name f) semicolon) slots m is = after P (full (with_slots s slots) f m) (λ x. Ok ((at, x.0), x.1)) (full_keeps kept (with_slots s slots) calls f m is) (λ x held. held)

inners_keeps : {P : Machine → Type 0} → IsKept P → (s : Surroundings) → KeepsCalls P s → (is : Tree (Many AnInner)) (slots : List SlotValue) (m : Machine) → P m → HoldsBehind P (meaning.inners s is slots m)
unfolding meaning.inners
inners_keeps kept s calls none slots m held = held
inners_keeps {P = P} kept s calls (more i is) slots m held = after P (meaning.inner s i slots m) (λ x. meaning.inners s is (slots ++ x.0 ∷ []) x.1) (inner_keeps kept s calls i slots m held) (λ x still. inners_keeps kept s calls is (slots ++ x.0 ∷ []) x.1 still)

body_keeps : {P : Machine → Type 0} → IsKept P → (s : Surroundings) → KeepsCalls P s → (d : Tree ADef) (given : List Argument) (m : Machine) → P m → HoldsBehind P (meaning.body s d given m)
unfolding meaning.body
body_keeps {P = P} kept s calls (Def at name params equals bindings result) given m is =
    after P (meaning.parameters s params given [] m) (λ x. meaning.inners s bindings x.0 x.1 >>= λ y. meaning.expr (with_slots s y.0) result y.1) (parameters_keeps kept s calls params given [] m is) (λ x held.
    after P (meaning.inners s bindings x.0 x.1) (λ y. meaning.expr (with_slots s y.0) result y.1) (inners_keeps kept s calls bindings x.0 x.1 held) (λ y still.
    expr_keeps kept (with_slots s y.0) calls result y.1 still))

run_keeps : {P : Machine → Type 0} → IsKept P → (s : Surroundings) → KeepsCalls P s → (o : Option (Tree ADef)) (given : List Argument) (m : Machine) → P m → HoldsBehind P (meaning.run s o given m)
run_keeps kept s calls None given m is = tt
run_keeps kept s calls (Some d) given m is = body_keeps kept s calls d given m is

pub calls_keep : {P : Machine → Type 0} → IsKept P → (w : World) (n t : ℕ) (kinds : List Kind) (given : List Argument) (m : Machine) → P m → HoldsBehind P (call_by w n t kinds given m)
unfolding call_by
calls_keep kept w zero t kinds given m is = tt
calls_keep kept w (suc n) t kinds given m is = run_keeps kept (record { uses = w.uses; slots = w.globals; kinds = kinds; call = call_by w n }) (λ u ks gs k held. calls_keep kept w n u ks gs k held) (def_at t w.script) given m is

pub statement_keeps : {P : Machine → Type 0} → IsKept P → (s : Surroundings) → KeepsCalls P s → (part : Tree APart) (slots : List SlotValue) (m : Machine) → P m → HoldsBehind P (statement s part slots m)
unfolding statement
statement_keeps {P = P} kept s calls (BindPart (Bind at name f)) slots m is = after P (full s f m) (λ x. Ok (slots ++ (at, x.0) ∷ [], x.1)) (full_keeps kept s calls f m is) (λ x held. held)
statement_keeps kept s calls (DefPart d) slots m is = is
statement_keeps {P = P} kept s calls (CallPart c) slots m is = after P (meaning.call s c m) (λ x. Ok (slots, x.1)) (call_keeps kept s calls c m is) (λ x held. held)
statement_keeps {P = P} kept s calls (IfPart i) slots m is = after P (meaning.choice s i m) (λ x. Ok (slots, x.1)) (choice_keeps kept s calls i m is) (λ x held. held)
