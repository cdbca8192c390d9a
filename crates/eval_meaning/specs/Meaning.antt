-- What an expression means: a value and the state behind it, or the first fault, by cases on the tree.
use Rattle.std.specs.Prelude.{ℕ, zero, suc, ℤ, pos, List, [], ◌∷◌, ◌++◌, true, false, Option, Some, None, Result, Ok, Err, int_le, ◌&&◌}
use Rattle.liq_base.specs.declared.memory.Kind.{Kind}
use Rattle.script_grammar.specs.Tree.{Tree, Many, none, more, AFull, AnExpr, AnAnd, ANot, ACompare, ASum, AnAdded, AProduct, AMultiplied, AnOperand, ACall, AnArg, AnIf, AParam, AnInner, ADef, Negative, Plain, Expr, And, Not, Alone, Compared, Sum, Added, Product, Multiplied, Constant, Quoted, Truth, Named, Called, Chosen, Nothing, Paren, Tuple, Listed, Braces, PlaceFormat, NamedCall, Arg, If, Param, Labelled, Optional, Inner, Bind, Def, Script}
use Rattle.typing_rules.specs.declared.uses.Use.{Use}
use Rattle.typing_rules.specs.declared.uses.Target.{Target}
use Rattle.typing_rules.specs.declared.uses.Target.TheVariants as target
use Rattle.typing_rules.specs.Arguments.{argument}
use Rattle.typing_rules.specs.Defs.{def_at}
use Rattle.typing_rules.specs.Kinds.{kinds_of}
use Rattle.typing_rules.specs.Uses.{use_at}
use Rattle.script_values.specs.declared.fault.Stop.{Stop}
use Rattle.script_values.specs.declared.fault.Stop.TheVariants.{BadValue, TooLarge, Stuck}
use Rattle.script_values.specs.declared.fault.Limit.TheVariants.{Calls}
use Rattle.script_values.specs.declared.machine.Machine.{Machine}
use Rattle.script_values.specs.Values.{Value, many, size}
use Rattle.script_values.specs.Values as value
use Rattle.script_values.specs.Numbers.{literal_value, negative, added, multiplied, compared, either, both, opposite, truth_of}
use Rattle.script_values.specs.Machines.{count_work}
use Rattle.script_values.specs.Outcomes.{Outcome, ascribed, ◌>>=◌}
use Rattle.builtin_calls.specs.Builtins.{builtin}
use Rattle.eval_meaning.specs.Preds.{or_pred}
use Rattle.script_values.specs.Slots.{Argument, SlotValue, value_at_token}

-- What a call of a def makes of the state of evaluation, the Machine. It is given the token of the def's name, the
-- arguments, and mono or stereo for each kind over which the def's type is generalised.
abbrev pub Caller : Type 0
Caller = ℕ → List Kind → List Argument → Machine → Outcome

-- The environment of an expression, all that its value depends on besides the state: what names stand for, the values
-- of bindings, and what a call of a def makes. In a def, `kinds` has mono or stereo for each kind over which the def's
-- type is generalised.
pub record Surroundings : Type 0 where
  pub uses : List Use
  pub slots : List SlotValue
  pub kinds : List Kind
  pub call : Caller

-- The value of a binding with the state after it; its size counts as work. Without a value evaluation is stuck, which
-- no typed script comes to.
abbrev pub value_at : Option Value → Machine → Outcome
value_at None m = Err Stuck
value_at (Some v) m = count_work (size v) m >>= λ c. Ok (v, c)

-- The value of a name by its use, which tells what the name stands for. Evaluation is stuck where that is no binding,
-- which no typed script comes to.
unfoldable pub named : Surroundings → Option Use → Machine → Outcome
named s None m = Err Stuck
named s (Some u) m =
    elim u.target [
      | target.Slot t ↦ value_at (value_at_token t s.slots) m
      | target.Def t ↦ Err Stuck
      | target.Builtin b ↦ Err Stuck
    ]

-- What a call at token `at` comes to, by what its name means (`target`), the kinds of this use, and the arguments.
-- Evaluation is stuck without kinds, or where the name is a binding's; no typed script comes to that.
abbrev pub applied_to : Surroundings → Target → ℕ → Option (List Kind) → List Argument → Machine → Outcome
applied_to s target at None given m = Err Stuck
applied_to s (target.Slot t) at (Some kinds) given m = Err Stuck
applied_to s (target.Def t) at (Some kinds) given m = s.call t kinds given m
applied_to s (target.Builtin b) at (Some kinds) given m = builtin b at kinds given m

-- What a call at token `at` of a name with this use comes to. The sources that the call makes are noted as its own;
-- those of its arguments, which were evaluated before, are not. Without a use evaluation is stuck.
unfoldable pub applied : Surroundings → Option Use → ℕ → List Argument → Machine → Outcome
applied s None at given m = Err Stuck
applied s (Some u) at given m = ascribed at m (applied_to s u.target at (kinds_of s.kinds u.kinds) given m)

-- the format that `%wav` at this token names: of 16 bits a sample without a size and with 16, of 24 with 24; any other
-- size is a bad value
abbrev pub format : ℕ → Option ℤ → Result Value Stop
format at None = Ok (value.FormatValue false)
format at (Some n) =
    elim (int_le n (pos 16) && int_le (pos 16) n) [
      | true ↦ Ok (value.FormatValue false)
      | false ↦ elim (int_le n (pos 24) && int_le (pos 24) n) [
        | true ↦ Ok (value.FormatValue true)
        | false ↦ Err (BadValue at)
      ]
    ]

-- an operator applied to the value v on its left and to what the operand on its right gave; it counts as one step of
-- work, and the first fault ends it
abbrev pub operator_applied : (Value → Value → Result Value Stop) → Value → Outcome → Outcome
operator_applied operator v right = right >>= λ x. count_work 1 x.1 >>= λ c. operator v x.0 >>= λ u. Ok (u, c)

-- Operands are evaluated from the left. Work is counted when an operand begins, and when an operator is about to be
-- applied.
unfoldable mutual
  -- the value of a full value, an expression or a number behind a minus, and the state after it
  pub full : Surroundings → Tree AFull → Machine → Outcome
  full s (Negative at n) m = count_work 1 m >>= λ c. negative at n >>= λ v. Ok (v, c)
  full s (Plain e) m = expr s e m

  -- the value of an expression, parts joined by `or`, and the state after it
  pub expr : Surroundings → Tree AnExpr → Machine → Outcome
  expr s (Expr a rest) m = conjunction s a m >>= λ x. ors s rest x.0 x.1

  -- the value of an `or`: v is that of the parts before, and these are the parts behind them
  pub ors : Surroundings → Tree (Many AnAnd) → Value → Machine → Outcome
  ors s none v m = Ok (v, m)
  ors s (more a rest) v m = operator_applied either v (conjunction s a m) >>= λ x. ors s rest x.0 x.1

  -- the value of one part of an `or`, parts joined by `and`
  pub conjunction : Surroundings → Tree AnAnd → Machine → Outcome
  conjunction s (And n rest) m = negation s n m >>= λ x. ands s rest x.0 x.1

  -- the value of an `and`: v is that of the parts before, and these are the parts behind them
  pub ands : Surroundings → Tree (Many ANot) → Value → Machine → Outcome
  ands s none v m = Ok (v, m)
  ands s (more n rest) v m = operator_applied both v (negation s n m) >>= λ x. ands s rest x.0 x.1

  -- the value of one part of an `and`: a comparison, or behind `not` its opposite
  pub negation : Surroundings → Tree ANot → Machine → Outcome
  negation s (Not true inner) m = compare s inner m >>= λ x. count_work 1 x.1 >>= λ c. opposite x.0 >>= λ u. Ok (u, c)
  negation s (Not false inner) m = compare s inner m

  -- the value of a sum, or the truth of its comparison with another one
  pub compare : Surroundings → Tree ACompare → Machine → Outcome
  compare s (Alone left) m = sum s left m
  compare s (Compared left at o right) m = sum s left m >>= λ x. sum s right x.1 >>= λ y. count_work 1 y.1 >>= λ c.
      compared o x.0 y.0 >>= λ u. Ok (u, c)

  -- the value of a sum: products joined by `+` and `-`
  pub sum : Surroundings → Tree ASum → Machine → Outcome
  sum s (Sum p rest) m = product s p m >>= λ x. addends s rest x.0 x.1

  -- the value of a sum: v is that of the terms before, and these are added or subtracted one after another
  pub addends : Surroundings → Tree (Many AnAdded) → Value → Machine → Outcome
  addends s none v m = Ok (v, m)
  addends s (more a rest) v m = plus s a v m >>= λ x. addends s rest x.0 x.1

  -- the value v, that of a sum so far, with one more term added or subtracted
  pub plus : Surroundings → Tree AnAdded → Value → Machine → Outcome
  plus s (Added at minus p) v m = operator_applied (added minus at) v (product s p m)

  -- the value of a product: operands joined by `*` and `/`
  pub product : Surroundings → Tree AProduct → Machine → Outcome
  product s (Product p rest) m = operand s p m >>= λ x. factors s rest x.0 x.1

  -- the value of a product: v is that of the factors before, and by these it is multiplied or divided one after
  -- another
  pub factors : Surroundings → Tree (Many AMultiplied) → Value → Machine → Outcome
  factors s none v m = Ok (v, m)
  factors s (more a rest) v m = times s a v m >>= λ x. factors s rest x.0 x.1

  -- the value v, that of a product so far, multiplied or divided by one more factor
  pub times : Surroundings → Tree AMultiplied → Value → Machine → Outcome
  times s (Multiplied at divide p) v m = operator_applied (multiplied divide at) v (operand s p m)

  -- the value of an operand: a literal, a name, a call, an `if`, parentheses, a tuple, a list, a predicate or a
  -- format
  pub operand : Surroundings → Tree AnOperand → Machine → Outcome
  operand s (Constant at n) m = count_work 1 m >>= λ c. Ok (literal_value n, c)
  operand s (Quoted at text) m = count_work 1 m >>= λ c. Ok (value.TextValue text, c)
  operand s (Truth at b) m = count_work 1 m >>= λ c. Ok (value.TruthValue b, c)
  operand s (Named at name) m = named s (use_at at s.uses) m
  operand s (Called k) m = count_work 1 m >>= λ c. call s k c
  operand s (Chosen i) m = count_work 1 m >>= λ c. choice s i c
  operand s (Nothing at) m = count_work 1 m >>= λ c. Ok (value.UnitValue, c)
  operand s (Paren f) m = count_work 1 m >>= λ c. full s f c
  operand s (Tuple at f g rest) m = count_work 1 m >>= λ c. full s f c >>= λ x. full s g x.1 >>= λ y. fulls s rest (x.0
      ∷ y.0 ∷ []) y.1 >>= λ z. Ok (value.TupleValue (many z.0), z.1)
  operand s (Listed at parts) m = count_work 1 m >>= λ c. fulls s parts [] c >>= λ z. Ok
      (value.ListValue (many z.0), z.1)
  operand s (Braces at pred) m = count_work 1 m >>= λ c. Ok (value.PredValue (or_pred pred), c)
  operand s (PlaceFormat at bits) m = count_work 1 m >>= λ c. format at bits >>= λ v. Ok (v, c)

  -- the values of further parts of a tuple or list, evaluated from the left: vs are those that were evaluated already
  pub fulls : Surroundings → Tree (Many AFull) → List Value → Machine → Result (List Value × Machine) Stop
  fulls s none vs m = Ok (vs, m)
  fulls s (more f rest) vs m = full s f m >>= λ x. fulls s rest (vs ++ x.0 ∷ []) x.1

  -- the value of an `if`; only the chosen branch is evaluated
  pub choice : Surroundings → Tree AnIf → Machine → Outcome
  choice s (If at c t e) m = full s c m >>= λ x. truth_of x.0 >>= λ b. elim b
      [ true ↦ full s t x.1 | false ↦ full s e x.1 ]

  -- the value of a call: its arguments are evaluated in the order in which they are written, and then what its name
  -- stands for is applied to them
  pub call : Surroundings → Tree ACall → Machine → Outcome
  call s (NamedCall at name args) m = arguments s args [] m >>= λ x. applied s (use_at at s.uses) at x.0 x.1

  -- the arguments of a call, evaluated from the left: `given` are those that were evaluated already
  pub arguments : Surroundings → Tree (Many AnArg) → List Argument → Machine → Result (List Argument × Machine) Stop
  arguments s none given m = Ok (given, m)
  arguments s (more a rest) given m = argued s a m >>= λ x. arguments s rest (given ++ x.0 ∷ []) x.1

  -- the value of one argument of a call, with its label
  pub argued : Surroundings → Tree AnArg → Machine → Result (Argument × Machine) Stop
  argued s (Arg at label f) m = full s f m >>= λ x. Ok ((label, x.0), x.1)

-- the value of an operand in parentheses: without parts the value of `()`, with one part its value, with several a
-- tuple of theirs; the step of work for the operand was counted before
abbrev pub grouped : Surroundings → Tree (Many AFull) → Machine → Outcome
grouped s none m = Ok (value.UnitValue, m)
grouped s (more f none) m = full s f m
grouped s (more f (more g rest)) m = fulls s (more f (more g rest)) [] m >>= λ z. Ok (value.TupleValue (many z.0), z.1)

-- the list of the values of these parts; the step of work for the operand was counted before
abbrev pub all_of : Surroundings → Tree (Many AFull) → Machine → Outcome
all_of s parts m = fulls s parts [] m >>= λ z. Ok (value.ListValue (many z.0), z.1)

-- For a parameter whose name stands at token `at`, and the argument that it takes with those that are left: its
-- binding, with those that are left. Without an argument evaluation is stuck, which no typed script comes to.
abbrev pub taken_slot : ℕ → Option (Value × List Argument) → Machine
    → Result ((SlotValue × List Argument) × Machine) Stop
taken_slot at None m = Err Stuck
taken_slot at (Some x) m = Ok (((at, x.0), x.1), m)

-- For a parameter whose name stands at token `at`: its binding, with the arguments that are left. It is bound to the
-- argument that it takes, if there is one; otherwise to its default, and all of `given` are left.
abbrev pub slot_or_default : ℕ → Option (Value × List Argument) → List Argument → Outcome → Machine
    → Result ((SlotValue × List Argument) × Machine) Stop
slot_or_default at None given default m = default >>= λ x. Ok (((at, x.0), given), x.1)
slot_or_default at (Some x) given default m = Ok (((at, x.0), x.1), m)

-- The binding of one parameter of a def in a call with the arguments `given`, and the arguments that are left. A
-- default is evaluated in s, the environment before the def.
unfoldable pub parameter : Surroundings → Tree AParam → List Argument → Machine
    → Result ((SlotValue × List Argument) × Machine) Stop
parameter s (Param at name) given m = taken_slot at (argument None given) m
parameter s (Labelled at name) given m = taken_slot at (argument (Some name) given) m
parameter s (Optional at name d) given m = slot_or_default at (argument (Some name) given) given (full s d m) m

-- the bindings `slots` of earlier parameters, and behind them those of these parameters, in the order in which they
-- stand; `given` are the arguments that the earlier ones left
unfoldable pub parameters : Surroundings → Tree (Many AParam) → List Argument → List SlotValue → Machine
    → Result (List SlotValue × Machine) Stop
parameters s none given slots m = Ok (slots, m)
parameters s (more p ps) given slots m = parameter s p given m >>= λ x. parameters s ps x.0.1 (slots ++ x.0.0 ∷ []) x.1

-- the surroundings s, with these values of bindings, each by its token, before those that were there
abbrev pub with_slots : Surroundings → List SlotValue → Surroundings
with_slots s slots = record s { slots = slots ++ s.slots }

-- the value that an inner binding of a def gets, with the token of its name; `slots` are the bindings of the def before
-- it
unfoldable pub inner : Surroundings → Tree AnInner → List SlotValue → Machine → Result (SlotValue × Machine) Stop
inner s (Inner (Bind at name f) semicolon) slots m = full (with_slots s slots) f m >>= λ x. Ok ((at, x.0), x.1)

-- the bindings `slots` of a def, and behind them those that these inner bindings make, each evaluated over those before
-- it
unfoldable pub inners : Surroundings → Tree (Many AnInner) → List SlotValue → Machine
    → Result (List SlotValue × Machine) Stop
inners s none slots m = Ok (slots, m)
inners s (more i is) slots m = inner s i slots m >>= λ x. inners s is (slots ++ x.0 ∷ []) x.1

-- the value of a call of a def with these arguments: its parameters are bound to them, then its inner bindings are
-- made, and then its result is evaluated; names around it are those before the def
unfoldable pub body : Surroundings → Tree ADef → List Argument → Machine → Outcome
body s (Def at name params equals bindings result) given m =
    parameters s params given [] m >>= λ x. inners s bindings x.0 x.1 >>= λ y. expr (with_slots s y.0) result y.1

-- what stays the same in all calls of defs within a statement: the script, what its names stand for, and the values
-- of the statements before
pub record World : Type 0 where
  pub script : Script
  pub uses : List Use
  pub globals : List SlotValue

-- the value of a call of this def with these arguments; without a def evaluation is stuck, which no typed script comes
-- to
abbrev pub run : Surroundings → Option (Tree ADef) → List Argument → Machine → Outcome
run s None given m = Err Stuck
run s (Some d) given m = body s d given m

-- A call of the def whose name stands at token t, where at most n calls may run within each other; past that the script
-- is too large. Each call evaluates the def's body anew, over the values `w.globals` of the statements before.
unfoldable pub call_by : World → ℕ → Caller
call_by w zero t kinds given m = Err (TooLarge Calls)
call_by w (suc n) t kinds given m = run (record {
  uses = w.uses;
  slots = w.globals;
  kinds = kinds;
  call = call_by w n;
}) (def_at t w.script) given m
