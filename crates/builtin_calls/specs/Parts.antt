-- The values that a call's arguments give its parameters. A value of another type is stuck: typing refuses it.
use Rattle.std.specs.Prelude.{ℕ, ℤ, List, [], ◌∷◌, ◌++◌, Option, Some, None, Bool, true, false, slice_get, Result, Ok, Err}
use Rattle.liq_base.specs.declared.memory.Kind.{Kind}
use Rattle.liq_base.specs.declared.memory.Kind.TheVariants.{Mono, Stereo}
use Rattle.fixed_text.specs.declared.decimal.Decimal.{Decimal}
use Rattle.time_pred.specs.Predicates.{Predicate}
use Rattle.plan_core.specs.declared.node.Node.{Node}
use Rattle.typing_rules.specs.Arguments.{argument}
use Rattle.script_values.specs.declared.fault.Stop.{Stop}
use Rattle.script_values.specs.declared.fault.Stop.TheVariants.{Stuck}
use Rattle.script_values.specs.Outcomes.{◌>>=◌}
use Rattle.script_values.specs.Slots.{Argument}
use Rattle.script_values.specs.Values.{ValueTree, ManyValues, no_values, more_values, Value, Int, Number, TextValue, TruthValue, FormatValue, PredValue, Source, ListValue, TupleValue}

-- The first of the kinds (mono or stereo) that typing found for a call. A call that needs a kind has one, so an empty
-- list is the fault `Stuck`, to which no typed script comes.
abbrev pub one_kind : List Kind → Result Kind Stop
one_kind [] = Err Stuck
one_kind (k ∷ ks) = Ok k

-- The bytes of a value that is a text. Any other value is stuck: typing refuses such a call.
unfoldable pub as_text : Value → Result (List ℕ) Stop
as_text (TextValue t) = Ok t
as_text v = Err Stuck

-- The number of a value that is a decimal. Any other value is stuck: typing refuses such a call.
unfoldable pub as_decimal : Value → Result Decimal Stop
as_decimal (Number d) = Ok d
as_decimal v = Err Stuck

-- The number of a value that is an int. Any other value is stuck: typing refuses such a call.
unfoldable pub as_int : Value → Result ℤ Stop
as_int (Int n) = Ok n
as_int v = Err Stuck

-- The truth of a value that is a bool. Any other value is stuck: typing refuses such a call.
unfoldable pub as_bool : Value → Result Bool Stop
as_bool (TruthValue b) = Ok b
as_bool v = Err Stuck

-- Whether a value that is an output format has samples of 24 bits, and not of 16. Any other value is stuck: typing
-- refuses such a call.
unfoldable pub as_format : Value → Result Bool Stop
as_format (FormatValue wide) = Ok wide
as_format v = Err Stuck

-- Whether two kinds, each mono or stereo, are the same.
abbrev pub is_kind : Kind → Kind → Bool
is_kind Mono Mono = true
is_kind Mono Stereo = false
is_kind Stereo Mono = false
is_kind Stereo Stereo = true

-- Checks that node number n is of kind k (mono or stereo), and gives n. The node is given too, or `None` where the plan
-- has none of this number. What fails the check is the fault `Stuck`, to which no typed script comes.
abbrev pub of_kind : Kind → ℕ → Option Node → Result ℕ Stop
of_kind k n None = Err Stuck
of_kind k n (Some node) =
    elim (is_kind k node.kind) [
      | true ↦ Ok n
      | false ↦ Err Stuck
    ]

-- The number of the node that a value stands for, which is a source of kind k among these nodes. Any other value is
-- stuck, for typing refuses it.
unfoldable pub source_of : List Node → Kind → Value → Result ℕ Stop
source_of nodes k (Source n) = of_kind k n (slice_get nodes n)
source_of nodes k v = Err Stuck

-- Reads a list of values as sources of kind k, one by one: the numbers ns that were read before, and behind them those
-- of the values left.
unfoldable pub nodes_from : List Node → Kind → ValueTree ManyValues → List ℕ → Result (List ℕ) Stop
nodes_from nodes k no_values ns = Ok ns
nodes_from nodes k (more_values v vs) ns = source_of nodes k v >>= λ n. nodes_from nodes k vs (ns ++ n ∷ [])

-- The numbers of the nodes of a value that is a list of sources of kind k. Any other value is stuck, for typing refuses
-- it.
unfoldable pub sources_of : List Node → Kind → Value → Result (List ℕ) Stop
sources_of nodes k (ListValue vs) = nodes_from nodes k vs []
sources_of nodes k v = Err Stuck

-- The predicate of time, such as `8h-12h`, that a value is. Any other value is stuck, for typing refuses it.
unfoldable pub pred_of : Value → Result Predicate Stop
pred_of (PredValue p) = Ok p
pred_of v = Err Stuck

-- Reads the parts of a tuple as a case of a `switch`: a predicate of time, and the node of a source of kind k. Anything
-- but two parts is stuck.
unfoldable pub pair_in : List Node → Kind → ValueTree ManyValues → Result (Predicate × ℕ) Stop
pair_in nodes k no_values = Err Stuck
pair_in nodes k (more_values v no_values) = Err Stuck
pair_in nodes k (more_values v (more_values w no_values)) = pred_of v >>= λ p. source_of nodes k w >>= λ n. Ok (p, n)
pair_in nodes k (more_values v (more_values w (more_values x rest))) = Err Stuck

-- A case of a `switch` from a value that is a tuple: its predicate of time, and the node of its source of kind k.
unfoldable pub case_of : List Node → Kind → Value → Result (Predicate × ℕ) Stop
case_of nodes k (TupleValue vs) = pair_in nodes k vs
case_of nodes k v = Err Stuck

-- Reads a list of values as cases of a `switch`, one by one: the predicates ps and nodes ns that were read before, and
-- behind them those of the cases left.
unfoldable pub pairs_from : List Node → Kind → ValueTree ManyValues → List Predicate → List ℕ
    → Result (List Predicate × List ℕ) Stop
pairs_from nodes k no_values ps ns = Ok (ps, ns)
pairs_from nodes k (more_values v vs) ps ns = case_of nodes k v >>= λ x. pairs_from nodes k vs (ps ++ x.0 ∷ []) (ns
    ++ x.1 ∷ [])

-- The cases of a `switch` from a value that is a list: the predicates of all, and the nodes of the sources of all, in
-- the same order.
unfoldable pub pairs_of : List Node → Kind → Value → Result (List Predicate × List ℕ) Stop
pairs_of nodes k (ListValue vs) = pairs_from nodes k vs [] []
pairs_of nodes k v = Err Stuck

-- The argument that a search for it found, as its value and the arguments left. If none was found, it is the fault
-- `Stuck`, to which no typed script comes.
abbrev pub needed : Option (Value × List Argument) → Result (Value × List Argument) Stop
needed None = Err Stuck
needed (Some x) = Ok x

-- Takes the first argument without a label out of a call's arguments: gives its value and the arguments left.
unfoldable pub plain_argument : List Argument → Result (Value × List Argument) Stop
plain_argument given = needed (argument None given)

-- Takes the first argument without a label, which is a text: gives its bytes and the arguments left.
unfoldable pub plain_text : List Argument → Result (List ℕ × List Argument) Stop
plain_text given = do
  x ← plain_argument given
  text ← as_text x.0
  Ok (text, x.1)

-- Takes the first argument without a label, which is a decimal: gives its number and the arguments left.
unfoldable pub plain_decimal : List Argument → Result (Decimal × List Argument) Stop
plain_decimal given = do
  x ← plain_argument given
  number ← as_decimal x.0
  Ok (number, x.1)

-- Takes the first argument without a label, which is an output format: gives true for samples of 24 bits and false for
-- 16, and the arguments left.
unfoldable pub plain_format : List Argument → Result (Bool × List Argument) Stop
plain_format given = do
  x ← plain_argument given
  wide ← as_format x.0
  Ok (wide, x.1)

-- Takes the first argument without a label, which is a source of kind k: gives the number of its node and the arguments
-- left.
unfoldable pub plain_source : List Node → Kind → List Argument → Result (ℕ × List Argument) Stop
plain_source nodes k given = do
  x ← plain_argument given
  source ← source_of nodes k x.0
  Ok (source, x.1)

-- Takes the first argument without a label, which is a list of sources of kind k: gives the numbers of their nodes and
-- the arguments left.
unfoldable pub plain_sources : List Node → Kind → List Argument → Result (List ℕ × List Argument) Stop
plain_sources nodes k given = do
  x ← plain_argument given
  sources ← sources_of nodes k x.0
  Ok (sources, x.1)

-- Takes the first argument without a label, which lists the cases of a `switch`: gives all predicates of time, the
-- nodes of all sources, and the arguments left.
unfoldable pub plain_pairs : List Node → Kind → List Argument → Result ((List Predicate × List ℕ) × List Argument) Stop
plain_pairs nodes k given = do
  x ← plain_argument given
  pairs ← pairs_of nodes k x.0
  Ok (pairs, x.1)

-- The value of an optional parameter of type A. If a search of the arguments found one, `read` reads its value, and the
-- arguments left are given with it. If not, it is `default`, with all arguments, which are `given`.
abbrev pub or_default : {A : Type 0} → (Value → Result A Stop) → A → List Argument → Option (Value × List Argument)
    → Result (A × List Argument) Stop
or_default read default given None = Ok (default, given)
or_default read default given (Some x) = read x.0 >>= λ a. Ok (a, x.1)

-- Takes the argument with this label, which is a bool: gives it, or the default where there is none, and the arguments
-- left.
unfoldable pub bool_or : List ℕ → Bool → List Argument → Result (Bool × List Argument) Stop
bool_or label default given = or_default as_bool default given (argument (Some label) given)

-- Takes the argument with this label, which is a decimal: gives it, or the default where there is none, and the
-- arguments left.
unfoldable pub decimal_or : List ℕ → Decimal → List Argument → Result (Decimal × List Argument) Stop
decimal_or label default given = or_default as_decimal default given (argument (Some label) given)

-- Takes the argument with this label, which is an int: gives it, or the default where there is none, and the arguments
-- left.
unfoldable pub int_or : List ℕ → ℤ → List Argument → Result (ℤ × List Argument) Stop
int_or label default given = or_default as_int default given (argument (Some label) given)

-- Takes the argument with this label, which is a text: gives its bytes, or the default where there is none, and the
-- arguments left.
unfoldable pub text_or : List ℕ → List ℕ → List Argument → Result (List ℕ × List Argument) Stop
text_or label default given = or_default as_text default given (argument (Some label) given)
