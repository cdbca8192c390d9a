-- The steps of a builtin call at arguments of their types: none is stuck.
use Rattle.std.proofs.Common.{◌≡◌, ℕ, List, [], ◌∷◌, ◌++◌, length, Bool, true, false, ◌&&◌, Option, Some, None, Result, Ok, Err, refl, sym, ap, subst, ◌∙◌, pos, nat_le, nat_lt, nat_eq}
use Rattle.std.specs.Prelude.{ℤ, slice_get, ⊤, codes, bytes_eq, int_le, int_lt, unsigned_abs, count_by}
use Rattle.std.specs.List.{list_any}
use Rattle.liq_base.specs.declared.limits.TheConstants.{MAX_NODES, MAX_CHILDREN, MAX_CROSSFADES, MAX_OUTPUTS, MIN_RATE, MAX_RATE, MAX_OVERLAP, MAX_PREFILL, MAX_CAPACITY}
use Rattle.liq_base.specs.declared.memory.Kind.{Kind}
use Rattle.liq_base.specs.declared.memory.Kind.TheVariants.{Mono, Stereo}
use Rattle.fixed_text.specs.declared.decimal.Decimal.{Decimal}
use Rattle.fixed_text.specs.Texts.{samples_in}
use Rattle.time_pred.specs.Predicates.{Predicate}
use Rattle.plan_core.specs.declared.node.Node.{Node}
use Rattle.plan_core.specs.declared.plan.Plan.{Plan}
use Rattle.plan_core.specs.declared.sink.BufferPlan.{BufferPlan}
use Rattle.plan_core.specs.Plans.{crossfades_from, with_node, with_buffer, with_output, reader_of, is_output}
use Rattle.type_terms.specs.Ground.{Ground, Grounds, base_type, list, tuple, source}
use Rattle.type_terms.specs.Ground as ground
use Rattle.type_terms.specs.declared.ty.Base.TheVariants as base
use Rattle.typing_rules.specs.Arguments.{Parameter, argument}
use Rattle.script_values.specs.declared.fault.Stop.{Stop}
use Rattle.script_values.specs.declared.fault.Stop.TheVariants.{Stuck, BadValue, BadSetting, TooLarge, TooManySources, SameOutput}
use Rattle.script_values.specs.declared.fault.Limit.{Limit}
use Rattle.script_values.specs.declared.fault.Limit.TheVariants.{Children, Crossfades, Overlap, Prefill, Capacity, Outputs}
use Rattle.script_values.specs.declared.machine.Machine.{Machine}
use Rattle.script_values.specs.Outcomes.{◌>>=◌, Outcome}
use Rattle.script_values.specs.Slots.{Argument}
use Rattle.script_values.specs.Values as value
use Rattle.script_values.specs.Values.{Value}
use Rattle.builtin_calls.specs.Parts.{one_kind, is_kind, of_kind, as_text, as_decimal, as_int, as_bool, as_format, source_of, nodes_from, sources_of, pred_of, pair_in, case_of, pairs_from, pairs_of, needed, or_default, plain_argument, plain_text, plain_decimal, plain_format, plain_source, plain_sources, plain_pairs, bool_or, int_or, decimal_or, text_or}
use Rattle.builtin_calls.specs.Nodes.{at_most, few, push, add, add_buffer, crossfades_with}
use Rattle.builtin_calls.specs.Times.{some_samples, overlap_samples, track_of, samples_of, pitch_of, chunks}
use Rattle.builtin_calls.specs.Sinks.{is_named, add_output}
use Rattle.builtin_calls.specs.Settings.{rate_of, duration_of, set_rate, set_duration, setting}
use Rattle.builtin_calls.specs.Builtins.{is_normal, seed_of, few_sources, few_pairs, short_overlap, buffer_plan, sensitive_or}
use Rattle.builtin_calls.proofs.Adding.{stays, last_is}
use Rattle.eval_meaning.specs.BuiltinSafety.{IsA, AllAre, EachIs, IsTold, NotStuck, Safe, Of}
use Rattle.eval_meaning.proofs.BuiltinGrowth.{fixed}
use Rattle.eval_meaning.proofs.BuiltinTaking.{Taken, Taking, Commutes, Perhaps_found, missing, there, in_place, perhaps, take_plain, take_labelled}

-- ---- steps behind steps, without a state

pub then_not : {A B : Type 0} (P : A → Type 0) (Q : B → Type 0) (r : Result A Stop) (f : A → Result B Stop) → NotStuck P r → ((a : A) → P a → NotStuck Q (f a)) → NotStuck Q (r >>= f)
then_not P Q (Ok a) f is later = later a is
then_not P Q (Err e) f is later = is

plain_by : {A : Type 0} (read : Value → Result A Stop) (P : A × List Argument → Type 0) (o : Taken) (x : Value × List Argument) → o ≡ Some x → NotStuck (λ a. P (a, x.1)) (read x.0) → NotStuck P (needed o >>= λ y. read y.0 >>= λ a. Ok (a, y.1))
plain_by read P o x is done =
    subst (λ (p : Taken). NotStuck P (needed p >>= λ y. read y.0 >>= λ a. Ok (a, y.1))) (sym is)
    (then_not (λ a. P (a, x.1)) P (read x.0) (λ a. Ok (a, x.1)) done (λ a p. p))

-- whatever is read, what holds of the arguments behind it
pub weaker : {A : Type 0} (P : A → Type 0) (Q : Type 0) (r : Result A Stop) → Q → NotStuck P r → NotStuck (λ _. Q) r
weaker P Q (Ok a) q is = q
weaker P Q (Err e) q is = is

-- ---- values of their types

text_read : (ns : List Node) (v : Value) → IsA ns v (base_type base.Text) → NotStuck (λ _. ⊤) (as_text v)
unfolding as_text
text_read ns (value.TextValue t) is = tt
text_read ns (value.Int n) is = absurd cc
text_read ns (value.Number d) is = absurd cc
text_read ns (value.TruthValue b) is = absurd cc
text_read ns value.UnitValue is = absurd cc
text_read ns (value.FormatValue wide) is = absurd cc
text_read ns (value.PredValue p) is = absurd cc
text_read ns (value.Source n) is = let e = is.2 in absurd cc
text_read ns (value.ListValue vs) is = let e = is.1 in absurd cc
text_read ns (value.TupleValue vs) is = let e = is.1 in absurd cc

decimal_read : (ns : List Node) (v : Value) → IsA ns v (base_type base.Decimal) → NotStuck (λ _. ⊤) (as_decimal v)
unfolding as_decimal
decimal_read ns (value.Number d) is = tt
decimal_read ns (value.TextValue t) is = absurd cc
decimal_read ns (value.Int n) is = absurd cc
decimal_read ns (value.TruthValue b) is = absurd cc
decimal_read ns value.UnitValue is = absurd cc
decimal_read ns (value.FormatValue wide) is = absurd cc
decimal_read ns (value.PredValue p) is = absurd cc
decimal_read ns (value.Source n) is = let e = is.2 in absurd cc
decimal_read ns (value.ListValue vs) is = let e = is.1 in absurd cc
decimal_read ns (value.TupleValue vs) is = let e = is.1 in absurd cc

int_read : (ns : List Node) (v : Value) → IsA ns v (base_type base.Int) → NotStuck (λ _. ⊤) (as_int v)
unfolding as_int
int_read ns (value.Int n) is = tt
int_read ns (value.Number d) is = absurd cc
int_read ns (value.TextValue t) is = absurd cc
int_read ns (value.TruthValue b) is = absurd cc
int_read ns value.UnitValue is = absurd cc
int_read ns (value.FormatValue wide) is = absurd cc
int_read ns (value.PredValue p) is = absurd cc
int_read ns (value.Source n) is = let e = is.2 in absurd cc
int_read ns (value.ListValue vs) is = let e = is.1 in absurd cc
int_read ns (value.TupleValue vs) is = let e = is.1 in absurd cc

bool_read : (ns : List Node) (v : Value) → IsA ns v (base_type base.Bool) → NotStuck (λ _. ⊤) (as_bool v)
unfolding as_bool
bool_read ns (value.TruthValue b) is = tt
bool_read ns (value.TextValue t) is = absurd cc
bool_read ns (value.Int n) is = absurd cc
bool_read ns (value.Number d) is = absurd cc
bool_read ns value.UnitValue is = absurd cc
bool_read ns (value.FormatValue wide) is = absurd cc
bool_read ns (value.PredValue p) is = absurd cc
bool_read ns (value.Source n) is = let e = is.2 in absurd cc
bool_read ns (value.ListValue vs) is = let e = is.1 in absurd cc
bool_read ns (value.TupleValue vs) is = let e = is.1 in absurd cc

format_read : (ns : List Node) (v : Value) → IsA ns v (base_type base.Format) → NotStuck (λ _. ⊤) (as_format v)
unfolding as_format
format_read ns (value.FormatValue wide) is = tt
format_read ns (value.TextValue t) is = absurd cc
format_read ns (value.Int n) is = absurd cc
format_read ns (value.Number d) is = absurd cc
format_read ns (value.TruthValue b) is = absurd cc
format_read ns value.UnitValue is = absurd cc
format_read ns (value.PredValue p) is = absurd cc
format_read ns (value.Source n) is = let e = is.2 in absurd cc
format_read ns (value.ListValue vs) is = let e = is.1 in absurd cc
format_read ns (value.TupleValue vs) is = let e = is.1 in absurd cc

pred_read : (ns : List Node) (v : Value) → IsA ns v (base_type base.Pred) → NotStuck (λ _. ⊤) (pred_of v)
unfolding pred_of
pred_read ns (value.PredValue p) is = tt
pred_read ns (value.FormatValue wide) is = absurd cc
pred_read ns (value.TextValue t) is = absurd cc
pred_read ns (value.Int n) is = absurd cc
pred_read ns (value.Number d) is = absurd cc
pred_read ns (value.TruthValue b) is = absurd cc
pred_read ns value.UnitValue is = absurd cc
pred_read ns (value.Source n) is = let e = is.2 in absurd cc
pred_read ns (value.ListValue vs) is = let e = is.1 in absurd cc
pred_read ns (value.TupleValue vs) is = let e = is.1 in absurd cc

same_kind : (k : Kind) → is_kind k k ≡ true
same_kind Mono = refl
same_kind Stereo = refl

of_by : (b : Bool) (n : ℕ) → b ≡ true → NotStuck (λ _. ⊤) (elim b as (λ _. Result ℕ Stop) [ true ↦ Ok n | false ↦ Err Stuck ])
of_by true n is = tt
of_by false n is = absurd cc

source_there : (ns : List Node) (k : Kind) (n : ℕ) (one : Node) → slice_get ns n ≡ Some one → source k ≡ source one.kind → NotStuck (λ _. ⊤) (of_kind k n (slice_get ns n))
source_there ns k n one stands same =
    let kind : k ≡ one.kind = cc in
    subst (λ (o : Option Node). NotStuck (λ _. ⊤) (of_kind k n o)) (sym stands) (of_by (is_kind k one.kind) n (ap (λ (i : Kind). is_kind k i) (sym kind) ∙ same_kind k))

source_read : (ns : List Node) (k : Kind) (v : Value) → IsA ns v (source k) → NotStuck (λ _. ⊤) (source_of ns k v)
unfolding source_of
source_read ns k (value.Source n) is = source_there ns k n is.0 is.1 is.2
source_read ns k (value.FormatValue wide) is = absurd cc
source_read ns k (value.TextValue t) is = absurd cc
source_read ns k (value.Int n) is = absurd cc
source_read ns k (value.Number d) is = absurd cc
source_read ns k (value.TruthValue b) is = absurd cc
source_read ns k value.UnitValue is = absurd cc
source_read ns k (value.PredValue p) is = absurd cc
source_read ns k (value.ListValue vs) is = let e = is.1 in absurd cc
source_read ns k (value.TupleValue vs) is = let e = is.1 in absurd cc

nodes_read : (ns : List Node) (k : Kind) (vs : value.ValueTree value.ManyValues) (acc : List ℕ) → AllAre ns vs (source k) → NotStuck (λ _. ⊤) (nodes_from ns k vs acc)
unfolding nodes_from
nodes_read ns k value.no_values acc is = tt
nodes_read ns k (value.more_values v vs) acc is =
    then_not (λ _. ⊤) (λ _. ⊤) (source_of ns k v) (λ n. nodes_from ns k vs (acc ++ n ∷ [])) (source_read ns k v is.0) (λ n _. nodes_read ns k vs (acc ++ n ∷ []) is.1)

sources_read : (ns : List Node) (k : Kind) (v : Value) → IsA ns v (list (source k)) → NotStuck (λ _. ⊤) (sources_of ns k v)
unfolding sources_of
sources_read ns k (value.ListValue vs) is =
    let same : is.0 ≡ source k = (let e = is.1 in cc) in
    nodes_read ns k vs [] (subst (λ (t : Ground). AllAre ns vs t) same is.2)
sources_read ns k (value.FormatValue wide) is = absurd cc
sources_read ns k (value.TextValue t) is = absurd cc
sources_read ns k (value.Int n) is = absurd cc
sources_read ns k (value.Number d) is = absurd cc
sources_read ns k (value.TruthValue b) is = absurd cc
sources_read ns k value.UnitValue is = absurd cc
sources_read ns k (value.PredValue p) is = absurd cc
sources_read ns k (value.Source n) is = let e = is.2 in absurd cc
sources_read ns k (value.TupleValue vs) is = let e = is.1 in absurd cc

abbrev pub pair_types : Kind → Grounds
pair_types k = ground.and_more (base_type base.Pred) (ground.and_more (source k) ground.no_more)

in_pair : (ns : List Node) (k : Kind) (vs : value.ValueTree value.ManyValues) → EachIs ns vs (pair_types k) → NotStuck (λ _. ⊤) (pair_in ns k vs)
unfolding pair_in
in_pair ns k value.no_values is = absurd cc
in_pair ns k (value.more_values v value.no_values) is = let e = is.2 in let f = is.4 in absurd cc
in_pair ns k (value.more_values v (value.more_values w value.no_values)) is =
    let e = is.2 in
    let f = is.4.2 in
    let first : is.0 ≡ base_type base.Pred = cc in
    let second : is.4.0 ≡ source k = cc in
    then_not (λ _. ⊤) (λ _. ⊤) (pred_of v) (λ p. source_of ns k w >>= λ n. Ok (p, n)) (pred_read ns v (subst (λ (t : Ground). IsA ns v t) first is.3)) (λ p _.
    then_not (λ _. ⊤) (λ _. ⊤) (source_of ns k w) (λ n. Ok (p, n)) (source_read ns k w (subst (λ (t : Ground). IsA ns w t) second is.4.3)) (λ n _. tt))
in_pair ns k (value.more_values v (value.more_values w (value.more_values x rest))) is = let e = is.2 in let f = is.4.2 in let g = is.4.4.2 in absurd cc

pair_read : (ns : List Node) (k : Kind) (v : Value) → IsA ns v (tuple (pair_types k)) → NotStuck (λ _. ⊤) (case_of ns k v)
unfolding case_of
pair_read ns k (value.TupleValue vs) is =
    let same : is.0 ≡ pair_types k = (let e = is.1 in cc) in
    in_pair ns k vs (subst (λ (t : Grounds). EachIs ns vs t) same is.2)
pair_read ns k (value.FormatValue wide) is = absurd cc
pair_read ns k (value.TextValue t) is = absurd cc
pair_read ns k (value.Int n) is = absurd cc
pair_read ns k (value.Number d) is = absurd cc
pair_read ns k (value.TruthValue b) is = absurd cc
pair_read ns k value.UnitValue is = absurd cc
pair_read ns k (value.PredValue p) is = absurd cc
pair_read ns k (value.Source n) is = let e = is.2 in absurd cc
pair_read ns k (value.ListValue vs) is = let e = is.1 in absurd cc

pairs_read : (ns : List Node) (k : Kind) (vs : value.ValueTree value.ManyValues) (ps : List Predicate) (acc : List ℕ) → AllAre ns vs (tuple (pair_types k)) → NotStuck (λ _. ⊤) (pairs_from ns k vs ps acc)
unfolding pairs_from
pairs_read ns k value.no_values ps acc is = tt
pairs_read ns k (value.more_values v vs) ps acc is =
    then_not (λ _. ⊤) (λ _. ⊤) (case_of ns k v) (λ x. pairs_from ns k vs (ps ++ x.0 ∷ []) (acc ++ x.1 ∷ [])) (pair_read ns k v is.0) (λ x _. pairs_read ns k vs (ps ++ x.0 ∷ []) (acc ++ x.1 ∷ []) is.1)

all_pairs_read : (ns : List Node) (k : Kind) (v : Value) → IsA ns v (list (tuple (pair_types k))) → NotStuck (λ _. ⊤) (pairs_of ns k v)
unfolding pairs_of
all_pairs_read ns k (value.ListValue vs) is =
    let same : is.0 ≡ tuple (pair_types k) = (let e = is.1 in cc) in
    pairs_read ns k vs [] [] (subst (λ (t : Ground). AllAre ns vs t) same is.2)
all_pairs_read ns k (value.FormatValue wide) is = absurd cc
all_pairs_read ns k (value.TextValue t) is = absurd cc
all_pairs_read ns k (value.Int n) is = absurd cc
all_pairs_read ns k (value.Number d) is = absurd cc
all_pairs_read ns k (value.TruthValue b) is = absurd cc
all_pairs_read ns k value.UnitValue is = absurd cc
all_pairs_read ns k (value.PredValue p) is = absurd cc
all_pairs_read ns k (value.Source n) is = let e = is.2 in absurd cc
all_pairs_read ns k (value.TupleValue vs) is = let e = is.1 in absurd cc

-- ---- parameters

module _ (S : List Argument → List Argument) (ns : List Node) (name : List ℕ) (ps : List Parameter) (ts : List Ground) (given : List Argument) where
  needed_step : {A : Type 0} (t : Ground) (read : Value → Result A Stop) → ((v : Value) → IsA ns v t → NotStuck (λ _. ⊤) (read v)) → Commutes S None → Taking S ns (in_place name ∷ ps) (t ∷ ts) given
      → NotStuck (λ (y : A × List Argument). Taking S ns ps ts y.1) (needed (argument None given) >>= λ y. read y.0 >>= λ a. Ok (a, y.1))
  needed_step {A = A} t read reads commutes taking =
      let found = take_plain S ns name ps t ts given commutes taking in
      plain_by read (λ (y : A × List Argument). Taking S ns ps ts y.1) (argument None given) found.taken found.is (weaker (λ _. ⊤) (Taking S ns ps ts found.taken.1) (read found.taken.0) found.others (reads found.taken.0 found.type_of))

  pub text_step : Commutes S None → Taking S ns (in_place name ∷ ps) (base_type base.Text ∷ ts) given → NotStuck (λ (y : List ℕ × List Argument). Taking S ns ps ts y.1) (plain_text given)
  unfolding plain_text plain_argument
  text_step commutes taking = needed_step (base_type base.Text) as_text (text_read ns) commutes taking

  pub decimal_step : Commutes S None → Taking S ns (in_place name ∷ ps) (base_type base.Decimal ∷ ts) given → NotStuck (λ (y : Decimal × List Argument). Taking S ns ps ts y.1) (plain_decimal given)
  unfolding plain_decimal plain_argument
  decimal_step commutes taking = needed_step (base_type base.Decimal) as_decimal (decimal_read ns) commutes taking

  pub format_step : Commutes S None → Taking S ns (in_place name ∷ ps) (base_type base.Format ∷ ts) given → NotStuck (λ (y : Bool × List Argument). Taking S ns ps ts y.1) (plain_format given)
  unfolding plain_format plain_argument
  format_step commutes taking = needed_step (base_type base.Format) as_format (format_read ns) commutes taking

  pub source_step : (k : Kind) → Commutes S None → Taking S ns (in_place name ∷ ps) (source k ∷ ts) given → NotStuck (λ (y : ℕ × List Argument). Taking S ns ps ts y.1) (plain_source ns k given)
  unfolding plain_source plain_argument
  source_step k commutes taking = needed_step (source k) (source_of ns k) (source_read ns k) commutes taking

  pub sources_step : (k : Kind) → Commutes S None → Taking S ns (in_place name ∷ ps) (list (source k) ∷ ts) given → NotStuck (λ (y : List ℕ × List Argument). Taking S ns ps ts y.1) (plain_sources ns k given)
  unfolding plain_sources plain_argument
  sources_step k commutes taking = needed_step (list (source k)) (sources_of ns k) (sources_read ns k) commutes taking

  pub pairs_step : (k : Kind) → Commutes S None → Taking S ns (in_place name ∷ ps) (list (tuple (pair_types k)) ∷ ts) given → NotStuck (λ (y : (List Predicate × List ℕ) × List Argument). Taking S ns ps ts y.1) (plain_pairs ns k given)
  unfolding plain_pairs plain_argument
  pairs_step k commutes taking = needed_step (list (tuple (pair_types k))) (pairs_of ns k) (all_pairs_read ns k) commutes taking

  -- of any type
  pub value_step : (t : Ground) → Commutes S None → Taking S ns (in_place name ∷ ps) (t ∷ ts) given → NotStuck (λ (y : Value × List Argument). Taking S ns ps ts y.1) (plain_argument given)
  unfolding plain_argument
  value_step t commutes taking =
      let found = take_plain S ns name ps t ts given commutes taking in
      subst (λ (o : Taken). NotStuck (λ (y : Value × List Argument). Taking S ns ps ts y.1) (needed o)) (sym found.is) found.others

  optional_by : {A : Type 0} (t : Ground) (read : Value → Result A Stop) (default : A) → ((v : Value) → IsA ns v t → NotStuck (λ _. ⊤) (read v)) → (o : Taken) → Perhaps_found S ns ps t ts given o
      → NotStuck (λ (y : A × List Argument). Taking S ns ps ts y.1) (or_default read default given o)
  optional_by {A = A} t read default reads o (missing is rest) = subst (λ (p : Taken). NotStuck (λ (y : A × List Argument). Taking S ns ps ts y.1) (or_default read default given p)) (sym is) rest
  optional_by {A = A} t read default reads o (there found) =
      subst (λ (p : Taken). NotStuck (λ (y : A × List Argument). Taking S ns ps ts y.1) (or_default read default given p)) (sym found.is)
      (then_not (λ _. Taking S ns ps ts found.taken.1) (λ (y : A × List Argument). Taking S ns ps ts y.1) (read found.taken.0) (λ a. Ok (a, found.taken.1))
      (weaker (λ _. ⊤) (Taking S ns ps ts found.taken.1) (read found.taken.0) found.others (reads found.taken.0 found.type_of)) (λ a rest. rest))

  pub text_or_step : (default : List ℕ) → Commutes S (Some name) → Taking S ns (perhaps name ∷ ps) (base_type base.Text ∷ ts) given → NotStuck (λ (y : List ℕ × List Argument). Taking S ns ps ts y.1) (text_or name default given)
  unfolding text_or
  text_or_step default commutes taking = optional_by (base_type base.Text) as_text default (text_read ns) (argument (Some name) given) (take_labelled S ns name ps (base_type base.Text) ts given commutes taking)

  pub bool_or_step : (default : Bool) → Commutes S (Some name) → Taking S ns (perhaps name ∷ ps) (base_type base.Bool ∷ ts) given → NotStuck (λ (y : Bool × List Argument). Taking S ns ps ts y.1) (bool_or name default given)
  unfolding bool_or
  bool_or_step default commutes taking = optional_by (base_type base.Bool) as_bool default (bool_read ns) (argument (Some name) given) (take_labelled S ns name ps (base_type base.Bool) ts given commutes taking)

  pub decimal_or_step : (default : Decimal) → Commutes S (Some name) → Taking S ns (perhaps name ∷ ps) (base_type base.Decimal ∷ ts) given → NotStuck (λ (y : Decimal × List Argument). Taking S ns ps ts y.1) (decimal_or name default given)
  unfolding decimal_or
  decimal_or_step default commutes taking = optional_by (base_type base.Decimal) as_decimal default (decimal_read ns) (argument (Some name) given) (take_labelled S ns name ps (base_type base.Decimal) ts given commutes taking)

  pub int_or_step : (default : ℤ) → Commutes S (Some name) → Taking S ns (perhaps name ∷ ps) (base_type base.Int ∷ ts) given → NotStuck (λ (y : ℤ × List Argument). Taking S ns ps ts y.1) (int_or name default given)
  unfolding int_or
  int_or_step default commutes taking = optional_by (base_type base.Int) as_int default (int_read ns) (argument (Some name) given) (take_labelled S ns name ps (base_type base.Int) ts given commutes taking)

-- ---- kinds, bad values and limits

pub kind_step : (kinds : List Kind) (j : Kind) → j ∷ [] ≡ kinds → NotStuck (λ (k : Kind). k ≡ j) (one_kind kinds)
kind_step kinds j is = subst (λ (l : List Kind). NotStuck (λ (k : Kind). k ≡ j) (one_kind l)) is refl

told_by : {A : Type 0} (b : Bool) (e : Stop) (r : Result A Stop) → IsTold e → NotStuck (λ _. ⊤) r → NotStuck (λ _. ⊤) (elim b as (λ _. Result A Stop) [ true ↦ Err e | false ↦ r ])
told_by true e r told is = told
told_by false e r told is = is

good_by : {A : Type 0} (b : Bool) (e : Stop) (x : A) → IsTold e → NotStuck (λ _. ⊤) (elim b as (λ _. Result A Stop) [ true ↦ Ok x | false ↦ Err e ])
good_by true e x told = tt
good_by false e x told = told

pub at_most_step : (most : ℕ) (limit : Limit) (n : ℕ) → NotStuck (λ _. ⊤) (at_most most limit n)
at_most_step most limit n = good_by (nat_le n most) (TooLarge limit) n tt

pub few_step : (ns : List ℕ) → NotStuck (λ _. ⊤) (few ns)
few_step ns = good_by (nat_le (length ns) MAX_CHILDREN) (TooLarge Children) ns tt

pub normal_step : (at : ℕ) (mode : List ℕ) → NotStuck (λ _. ⊤) (is_normal at mode)
normal_step at mode = good_by (bytes_eq mode (codes "normal")) (BadValue at) tt tt

pub seed_step : (at : ℕ) (n : ℤ) → NotStuck (λ _. ⊤) (seed_of at n)
seed_step at n = told_by (int_lt n (pos 0)) (BadValue at) (Ok (unsigned_abs n)) tt tt

some_step : (at n : ℕ) → NotStuck (λ _. ⊤) (some_samples at n)
some_step at n = told_by (nat_eq n 0) (BadValue at) (Ok n) tt tt

pub overlap_step : (at rate : ℕ) (d : Decimal) → NotStuck (λ _. ⊤) (overlap_samples at rate d)
unfolding overlap_samples
overlap_step at rate d = told_by (int_le d.millionths (pos 0)) (BadValue at) (some_samples at (samples_in d.millionths rate)) tt (some_step at (samples_in d.millionths rate))

track_by : (b : Bool) (at n : ℕ) → NotStuck (λ _. ⊤) (elim b as (λ _. Result ℕ Stop) [ true ↦ Ok 0 | false ↦ some_samples at n ])
track_by true at n = tt
track_by false at n = some_step at n

pub track_step : (at rate : ℕ) (d : Decimal) → NotStuck (λ _. ⊤) (track_of at rate d)
unfolding track_of
track_step at rate d = track_by (int_le d.millionths (pos 0)) at (samples_in d.millionths rate)

pub samples_step : (at rate : ℕ) (d : Decimal) → NotStuck (λ _. ⊤) (samples_of at rate d)
unfolding samples_of
samples_step at rate d = told_by (int_lt d.millionths (pos 0)) (BadValue at) (Ok (samples_in d.millionths rate)) tt tt

pub pitch_step : (at : ℕ) (d : Decimal) → NotStuck (λ _. ⊤) (pitch_of at d)
unfolding pitch_of
pitch_step at d = told_by (int_le d.millionths (pos 0)) (BadValue at) (Ok d) tt tt

pub short_step : (at s : ℕ) (d : Decimal) (p : Plan) → NotStuck (λ _. ⊤) (short_overlap at s d p)
unfolding short_overlap
short_step at s d p =
    then_not (λ _. ⊤) (λ _. ⊤) (overlap_samples at p.rate d) (λ overlap. at_most MAX_CROSSFADES Crossfades (crossfades_with s p) >>= λ crossfades. at_most MAX_OVERLAP Overlap overlap) (overlap_step at p.rate d) (λ overlap _.
    then_not (λ _. ⊤) (λ _. ⊤) (at_most MAX_CROSSFADES Crossfades (crossfades_with s p)) (λ crossfades. at_most MAX_OVERLAP Overlap overlap) (at_most_step MAX_CROSSFADES Crossfades (crossfades_with s p)) (λ crossfades _. at_most_step MAX_OVERLAP Overlap overlap))

pub buffer_step : (at : ℕ) (held most : Decimal) (p : Plan) → NotStuck (λ _. ⊤) (buffer_plan at held most p)
unfolding buffer_plan
buffer_step at held most p =
    then_not (λ _. ⊤) (λ _. ⊤) (samples_of at p.rate held) (λ pre. samples_of at p.rate most >>= λ room. at_most MAX_PREFILL Prefill pre >>= λ prefill. at_most MAX_CAPACITY Capacity (chunks room p.frame) >>= λ capacity. Ok (record { pre = prefill; capacity = capacity })) (samples_step at p.rate held) (λ pre _.
    then_not (λ _. ⊤) (λ _. ⊤) (samples_of at p.rate most) (λ room. at_most MAX_PREFILL Prefill pre >>= λ prefill. at_most MAX_CAPACITY Capacity (chunks room p.frame) >>= λ capacity. Ok (record { pre = prefill; capacity = capacity })) (samples_step at p.rate most) (λ room _.
    then_not (λ _. ⊤) (λ _. ⊤) (at_most MAX_PREFILL Prefill pre) (λ prefill. at_most MAX_CAPACITY Capacity (chunks room p.frame) >>= λ capacity. Ok (record { pre = prefill; capacity = capacity })) (at_most_step MAX_PREFILL Prefill pre) (λ prefill _.
    then_not (λ _. ⊤) (λ (b : BufferPlan). ⊤) (at_most MAX_CAPACITY Capacity (chunks room p.frame)) (λ capacity. Ok (record { pre = prefill; capacity = capacity })) (at_most_step MAX_CAPACITY Capacity (chunks room p.frame)) (λ capacity _. tt))))

pub few_sources_step : (S : List Argument → List Argument) (ns : List Node) (k : Kind) (name : List ℕ) (ps : List Parameter) (ts : List Ground) (given : List Argument) → Commutes S None → Taking S ns (in_place name ∷ ps) (list (source k) ∷ ts) given → NotStuck (λ _. ⊤) (few_sources ns k given)
unfolding few_sources
few_sources_step S ns k name ps ts given commutes taking =
    then_not (λ (y : List ℕ × List Argument). Taking S ns ps ts y.1) (λ _. ⊤) (plain_sources ns k given) (λ sources. few sources.0) (sources_step S ns name ps ts given k commutes taking) (λ sources _. few_step sources.0)

pub few_pairs_step : (S : List Argument → List Argument) (ns : List Node) (k : Kind) (name : List ℕ) (ps : List Parameter) (ts : List Ground) (given : List Argument) → Commutes S None → Taking S ns (in_place name ∷ ps) (list (tuple (pair_types k)) ∷ ts) given → NotStuck (λ _. ⊤) (few_pairs ns k given)
unfolding few_pairs
few_pairs_step S ns k name ps ts given commutes taking =
    then_not (λ (y : (List Predicate × List ℕ) × List Argument). Taking S ns ps ts y.1) (λ _. ⊤) (plain_pairs ns k given) (λ pairs. few pairs.0.1 >>= λ children. Ok (pairs.0.0, children)) (pairs_step S ns name ps ts given k commutes taking) (λ pairs _.
    then_not (λ _. ⊤) (λ _. ⊤) (few pairs.0.1) (λ children. Ok (pairs.0.0, children)) (few_step pairs.0.1) (λ children _. tt))

pub sensitive_step : (S : List Argument → List Argument) (ns : List Node) (ps : List Parameter) (ts : List Ground) (given : List Argument) → Commutes S (Some (codes "track_sensitive")) → Taking S ns (perhaps (codes "track_sensitive") ∷ ps) (base_type base.Bool ∷ ts) given → NotStuck (λ (y : Bool × List Argument). Taking S ns ps ts y.1) (sensitive_or given)
unfolding sensitive_or
sensitive_step S ns ps ts given commutes taking = bool_or_step S ns (codes "track_sensitive") ps ts given true commutes taking

-- ---- what is added

abbrev one_more : Machine → Node → Machine
one_more m one = record m { plan = with_node m.plan one }

push_by : (a b : Bool) (c : ℕ) (one : Node) (m : Machine) → Safe m.plan.nodes (λ ns n. slice_get ns n ≡ Some one)
    ((elim a as (λ _. Result ℕ Stop) [ true ↦ Ok c | false ↦ Err (TooLarge Crossfades) ]) >>= λ crossfades. elim b as (λ _. Result (ℕ × Machine) Stop) [ true ↦ Err TooManySources | false ↦ Ok (length m.plan.nodes, one_more m one) ])
push_by true true c one m = tt
push_by true false c one m = (λ i old there_is. stays m.plan.nodes (one ∷ []) i old there_is, last_is m.plan.nodes one)
push_by false b c one m = tt

pub push_safe : (one : Node) (m : Machine) → Safe m.plan.nodes (λ ns n. slice_get ns n ≡ Some one) (push one m)
unfolding push
push_safe one m = push_by (nat_le (crossfades_from m.plan.nodes one) MAX_CROSSFADES) (nat_le MAX_NODES (length m.plan.nodes)) (crossfades_from m.plan.nodes one) one m

pushed_value : (ns : List Node) (one : Node) (r : Result (ℕ × Machine) Stop) → Safe ns (λ ks n. slice_get ks n ≡ Some one) r → Safe ns (Of (source one.kind)) (r >>= λ x. Ok (value.Source x.0, x.1))
pushed_value ns one (Ok x) safe = (safe.0, (one, safe.1, refl))
pushed_value ns one (Err e) safe = safe

pub add_safe : (one : Node) (m : Machine) → Safe m.plan.nodes (Of (source one.kind)) (add one m)
unfolding add
add_safe one m = pushed_value m.plan.nodes one (push one m) (push_safe one m)

buffer_by : (b : Bool) (m : Machine) (s : ℕ) (k : Kind) (plan : BufferPlan) → Safe m.plan.nodes (Of (source k)) (elim b as (λ _. Outcome) [ true ↦ Err TooManySources | false ↦ Ok (value.Source (length m.plan.nodes), record m { plan = with_buffer m.plan s k plan }) ])
buffer_by true m s k plan = tt
buffer_by false m s k plan = (λ i old there_is. stays m.plan.nodes (reader_of (length m.plan.buffers) k ∷ []) i old there_is, (reader_of (length m.plan.buffers) k, last_is m.plan.nodes (reader_of (length m.plan.buffers) k), refl))

pub buffered_safe : (s : ℕ) (k : Kind) (plan : BufferPlan) (m : Machine) → Safe m.plan.nodes (Of (source k)) (add_buffer s k plan m)
unfolding add_buffer
buffered_safe s k plan m = buffer_by (nat_le MAX_NODES (length m.plan.nodes)) m s k plan

abbrev pub unit : Ground
unit = base_type base.Unit

output_by : (a b : Bool) (m : Machine) (name : List ℕ) (s : ℕ) (f w : Bool) → Safe m.plan.nodes (Of unit) (elim a as (λ _. Outcome) [ true ↦ Err (SameOutput name) | false ↦ elim b as (λ _. Outcome) [ true ↦ Ok (value.UnitValue, record m { plan = with_output m.plan name s f w }) | false ↦ Err (TooLarge Outputs) ] ])
output_by true b m name s f w = tt
output_by false true m name s f w = (λ i old there_is. there_is, refl)
output_by false false m name s f w = tt

pub output_safe : (name : List ℕ) (s : ℕ) (f w : Bool) (m : Machine) → Safe m.plan.nodes (Of unit) (add_output name s f w m)
unfolding add_output
output_safe name s f w m = output_by (list_any (is_named name) m.plan.sinks) (nat_lt (count_by is_output m.plan.sinks) MAX_OUTPUTS) m name s f w

-- ---- settings

rate_told : (v : Value) → NotStuck (λ _. ⊤) (rate_of v)
unfolding rate_of
rate_told (value.Int n) = good_by (int_le (pos MIN_RATE) n && int_le n (pos MAX_RATE)) BadSetting (unsigned_abs n) tt
rate_told (value.Number d) = tt
rate_told (value.TextValue t) = tt
rate_told (value.TruthValue b) = tt
rate_told value.UnitValue = tt
rate_told (value.FormatValue wide) = tt
rate_told (value.PredValue p) = tt
rate_told (value.Source n) = tt
rate_told (value.ListValue vs) = tt
rate_told (value.TupleValue vs) = tt

duration_told : (v : Value) → NotStuck (λ _. ⊤) (duration_of v)
unfolding duration_of
duration_told (value.Number d) = tt
duration_told (value.Int n) = tt
duration_told (value.TextValue t) = tt
duration_told (value.TruthValue b) = tt
duration_told value.UnitValue = tt
duration_told (value.FormatValue wide) = tt
duration_told (value.PredValue p) = tt
duration_told (value.Source n) = tt
duration_told (value.ListValue vs) = tt
duration_told (value.TupleValue vs) = tt

rate_by : (b : Bool) (v : Value) (m : Machine) → Safe m.plan.nodes (Of unit) ((elim b as (λ _. Result Machine Stop) [ true ↦ Ok (record m { settings = record m.settings { last = m.settings.statement } }) | false ↦ Err BadSetting ]) >>= λ c. rate_of v >>= λ rate. Ok (value.UnitValue, record c { plan = record c.plan { rate = rate } }))
rate_by true v m =
    let c : Machine = record m { settings = record m.settings { last = m.settings.statement } } in
    fixed m.plan.nodes (λ _. ⊤) (Of unit) (rate_of v) (λ rate. Ok (value.UnitValue, record c { plan = record c.plan { rate = rate } })) (rate_told v) (λ rate _. (λ i old there_is. there_is, refl))
rate_by false v m = tt

duration_by : (b : Bool) (v : Value) (m : Machine) → Safe m.plan.nodes (Of unit) ((elim b as (λ _. Result Machine Stop) [ true ↦ Ok (record m { settings = record m.settings { last = m.settings.statement } }) | false ↦ Err BadSetting ]) >>= λ c. duration_of v >>= λ d. Ok (value.UnitValue, record c { settings = record c.settings { duration = d } }))
duration_by true v m =
    let c : Machine = record m { settings = record m.settings { last = m.settings.statement } } in
    fixed m.plan.nodes (λ _. ⊤) (Of unit) (duration_of v) (λ d. Ok (value.UnitValue, record c { settings = record c.settings { duration = d } })) (duration_told v) (λ d _. (λ i old there_is. there_is, refl))
duration_by false v m = tt

rate_safe : (v : Value) (m : Machine) → Safe m.plan.nodes (Of unit) (set_rate v m)
unfolding set_rate
rate_safe v m = rate_by m.settings.allowed v m

duration_safe : (v : Value) (m : Machine) → Safe m.plan.nodes (Of unit) (set_duration v m)
unfolding set_duration
duration_safe v m = duration_by m.settings.allowed v m

setting_by : (a b : Bool) (v : Value) (m : Machine) → Safe m.plan.nodes (Of unit) (elim a as (λ _. Outcome) [ true ↦ set_rate v m | false ↦ elim b as (λ _. Outcome) [ true ↦ set_duration v m | false ↦ Ok (value.UnitValue, m) ] ])
setting_by true b v m = rate_safe v m
setting_by false true v m = duration_safe v m
setting_by false false v m = (λ i old there_is. there_is, refl)

pub setting_safe : (key : List ℕ) (v : Value) (m : Machine) → Safe m.plan.nodes (Of unit) (setting key v m)
unfolding setting
setting_safe key v m = setting_by (bytes_eq key (codes "frame.audio.samplerate")) (bytes_eq key (codes "frame.duration")) v m
