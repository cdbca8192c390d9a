-- A typed expression is not stuck, and its value has its type.
use Rattle.std.proofs.Common.{◌≡◌, ℕ, List, [], ◌∷◌, ◌++◌, Bool, true, false, Option, Some, None, Result, Ok, Err, refl, sym, ap, subst, append_assoc, append-nil, ◌&&◌}
use Rattle.std.specs.Prelude.{ℤ, pos, int_le}
use Rattle.liq_base.specs.declared.memory.Kind.{Kind}
use Rattle.plan_core.specs.declared.node.Node.{Node}
use Rattle.script_grammar.specs.declared.tree.Literal.{Literal}
use Rattle.script_grammar.specs.declared.tree.Literal.TheVariants as literal
use Rattle.script_grammar.specs.declared.tree.CompareOp.{CompareOp}
use Rattle.script_grammar.specs.Tree.{Tree, Many, none, more, AFull, AnExpr, AnAnd, ANot, ACompare, ASum, AnAdded, AProduct, AMultiplied, AnOperand, ACall, AnArg, AnIf, APOr, Negative, Plain, Expr, And, Not, Alone, Compared, Sum, Added, Product, Multiplied, Constant, Quoted, Truth, Named, Called, Chosen, Nothing, Paren, Tuple, Listed, Braces, PlaceFormat, NamedCall, Arg, If}
use Rattle.type_terms.specs.Ground.{Ground, Grounds, base_type, list, tuple, source, IsNumber, no_more}
use Rattle.type_terms.specs.Ground as ground
use Rattle.type_terms.specs.declared.ty.Base.TheVariants as base
use Rattle.typing_rules.specs.declared.uses.Use.{Use}
use Rattle.typing_rules.specs.declared.uses.Target.{Target}
use Rattle.typing_rules.specs.declared.uses.Target.TheVariants as target
use Rattle.typing_rules.specs.Arguments as arguments
use Rattle.typing_rules.specs.Kinds.{kinds_in, kinds_of, target_said}
use Rattle.typing_rules.specs.Table.{IsCallOf}
use Rattle.typing_rules.specs.Typing.{Sight, truth, literal_type, NameHas, Applied, Has, EachHas, HaveAll, AreGiven}
use Rattle.typing_rules.specs.Uses.{use_at}
use Rattle.script_values.specs.declared.fault.Stop.{Stop}
use Rattle.script_values.specs.declared.fault.Stop.TheVariants as faults
use Rattle.script_values.specs.declared.machine.Machine.{Machine}
use Rattle.script_values.specs.Machines.{count_work}
use Rattle.script_values.specs.Numbers.{literal_value, negative, added, multiplied, compared, either, both, opposite, truth_of}
use Rattle.script_values.specs.Outcomes.{◌>>=◌, Outcome, ascribed}
use Rattle.script_values.specs.Slots.{Argument, value_at_token}
use Rattle.script_values.specs.Values as value
use Rattle.script_values.specs.Values.{Value, many, size}
use Rattle.eval_meaning.specs.Meaning as meaning
use Rattle.eval_meaning.specs.Meaning.{Surroundings, full, operator_applied, value_at}
use Rattle.eval_meaning.specs.Preds.{or_pred}
use Rattle.eval_meaning.specs.BuiltinSafety.{AllAre, AreA, BuiltinsAreSafe, EachIs, Grows, IsA, NotStuck, Of, Safe}
use Rattle.eval_meaning.specs.Safety.{Knows}
use Rattle.eval_meaning.proofs.SafeGrowth.{after, all_later, are_later, counted, fixed, is_later, joined_safe, knows_later, stays}
use Rattle.eval_meaning.proofs.SafeOperators.{added_safe, both_safe, compared_safe, either_safe, multiplied_safe, negative_safe, opposite_safe, truth_safe}

-- ---- names

found_safe : (g : Ground) (o : Option Value) (v : Value) (m : Machine) → o ≡ Some v → IsA m.plan.nodes v g → Safe m.plan.nodes (Of g) (value_at o m)
found_safe g o v m is held = subst (λ (x : Option Value). Safe m.plan.nodes (Of g) (value_at x m)) (sym is) (counted (Of g) (size v) m (λ c. Ok (v, c)) (λ work. (stays m.plan.nodes, held)))

meant_safe : (s : Surroundings) (t : Sight) (u : Target) (g : Ground) (m : Machine) → Knows s t m.plan.nodes → NameHas t (Some u) g
    → Safe m.plan.nodes (Of g) (elim u [ target.Slot at ↦ value_at (value_at_token at s.slots) m | target.Def at ↦ Err faults.Stuck | target.Builtin b ↦ Err faults.Stuck ])
meant_safe s t (target.Slot at) g m knows has =
    let held = knows.slots at g has in
    found_safe g (value_at_token at s.slots) held.0 m held.1 held.2
meant_safe s t (target.Def at) g m knows has = absurd has
meant_safe s t (target.Builtin b) g m knows has = absurd has

named_safe : (s : Surroundings) (t : Sight) (o : Option Use) (g : Ground) (m : Machine) → Knows s t m.plan.nodes → NameHas t (target_said o) g → Safe m.plan.nodes (Of g) (meaning.named s o m)
unfolding meaning.named
named_safe s t None g m knows has = absurd has
named_safe s t (Some u) g m knows has = meant_safe s t u.target g m knows has

-- a size other than 16
abbrev of_other_size : ℕ → ℤ → Result Value Stop
of_other_size at n =
    elim (int_le n (pos 24) && int_le (pos 24) n) [
      | true ↦ Ok (value.FormatValue true)
      | false ↦ Err (faults.BadValue at)
    ]

other_size_safe : (ns : List Node) (at : ℕ) (n : ℤ) (g : Ground) → g ≡ base_type base.Format → NotStuck (λ (u : Value). IsA ns u g) (of_other_size at n)
other_size_safe ns at n g has =
    elim (int_le n (pos 24) && int_le (pos 24) n) as (λ b. NotStuck (λ (u : Value). IsA ns u g) (elim b [ true ↦ Ok (value.FormatValue true) | false ↦ Err (faults.BadValue at) ])) [
      | true ↦ has
      | false ↦ tt
    ]

format_safe : (ns : List Node) (at : ℕ) (bits : Option ℤ) (g : Ground) → g ≡ base_type base.Format → NotStuck (λ (u : Value). IsA ns u g) (meaning.format at bits)
format_safe ns at None g has = has
format_safe ns at (Some n) g has =
    elim (int_le n (pos 16) && int_le (pos 16) n) as (λ b. NotStuck (λ (u : Value). IsA ns u g) (elim b [ true ↦ Ok (value.FormatValue false) | false ↦ of_other_size at n ])) [
      | true ↦ has
      | false ↦ other_size_safe ns at n g has
    ]

-- ---- calls

same_kinds : (o : Option (List Kind)) (js ks : List Kind) → o ≡ Some js → o ≡ Some ks → js ≡ ks
same_kinds o js ks a b = cc

called_safe : BuiltinsAreSafe → (s : Surroundings) (t : Sight) (u : Target) (at : ℕ) (o : Option (List Kind)) (given : List Argument) (gs : List (arguments.GivenArgument Ground)) (g : Ground) (m : Machine) → Knows s t m.plan.nodes
    → t.kinds at ≡ o → Applied t at (Some u) gs g → AreA m.plan.nodes given gs → Safe m.plan.nodes (Of g) (meaning.applied_to s u at o given m)
called_safe bs s t (target.Slot u) at o given gs g m knows kinds has held = absurd has
called_safe bs s t (target.Def u) at None given gs g m knows kinds has held = let e = has.1 in absurd cc
called_safe bs s t (target.Def u) at (Some ks) given gs g m knows kinds has held = knows.calls at u ks gs g kinds has.2 given m (stays m.plan.nodes) held
called_safe bs s t (target.Builtin b) at None given gs g m knows kinds has held = let e = has.1 in absurd cc
called_safe bs s t (target.Builtin b) at (Some ks) given gs g m knows kinds has held = bs b at ks gs g (subst (λ (l : List Kind). IsCallOf b gs l g) (same_kinds (t.kinds at) has.0 ks has.1 kinds) has.2) given m held

noted_safe : (ns : List Node) (g : Ground) (at : ℕ) (m : Machine) (made : Outcome) → Safe ns (Of g) made → Safe ns (Of g) (ascribed at m made)
noted_safe ns g at m (Ok x) safe = safe
noted_safe ns g at m (Err e) safe = safe

applied_safe : BuiltinsAreSafe → (s : Surroundings) (t : Sight) (o : Option Use) (at : ℕ) (given : List Argument) (gs : List (arguments.GivenArgument Ground)) (g : Ground) (m : Machine) → Knows s t m.plan.nodes
    → t.kinds at ≡ kinds_in o s.kinds → Applied t at (target_said o) gs g → AreA m.plan.nodes given gs → Safe m.plan.nodes (Of g) (meaning.applied s o at given m)
unfolding meaning.applied
applied_safe bs s t None at given gs g m knows kinds has held = absurd has
applied_safe bs s t (Some u) at given gs g m knows kinds has held =
    noted_safe m.plan.nodes g at m (meaning.applied_to s u.target at (kinds_of s.kinds u.kinds) given m) (called_safe bs s t u.target at (kinds_of s.kinds u.kinds) given gs g m knows kinds has held)

are_push : (ns : List Node) (given : List Argument) (gs : List (arguments.GivenArgument Ground)) (one : Argument) (two : arguments.GivenArgument Ground) → AreA ns given gs → one.0 ≡ two.0 → IsA ns one.1 two.1 → AreA ns (given ++ one ∷ []) (gs ++ two ∷ [])
are_push ns [] [] one two held label is = (label, is, tt)
are_push ns [] (h ∷ hs) one two held label is = absurd held
are_push ns (g ∷ given) [] one two held label is = absurd held
are_push ns (g ∷ given) (h ∷ hs) one two held label is = (held.0, held.1, are_push ns given hs one two held.2 label is)

-- ---- lists and tuples

all_push : (ns : List Node) (vs : List Value) (v : Value) (g : Ground) → AllAre ns (many vs) g → IsA ns v g → AllAre ns (many (vs ++ v ∷ [])) g
all_push ns [] v g held is = (is, tt)
all_push ns (u ∷ vs) v g held is = (held.0, all_push ns vs v g held.1 is)

-- types before others
abbrev before : List Ground → Grounds → Grounds
before [] ts = ts
before (h ∷ hs) ts = ground.and_more h (before hs ts)

before_push : (hs : List Ground) (h : Ground) (ts : Grounds) → before (hs ++ h ∷ []) ts ≡ before hs (ground.and_more h ts)
before_push [] h ts = refl
before_push (k ∷ hs) h ts = ap (ground.and_more k) (before_push hs h ts)

abbrev EachOf : List Node → List Value → List Ground → Type 0
EachOf ns [] [] = Unit {0}
EachOf ns [] (h ∷ hs) = ⊥
EachOf ns (v ∷ vs) [] = ⊥
EachOf ns (v ∷ vs) (h ∷ hs) = IsA ns v h × EachOf ns vs hs

each_push : (ns : List Node) (vs : List Value) (hs : List Ground) (v : Value) (h : Ground) → EachOf ns vs hs → IsA ns v h → EachOf ns (vs ++ v ∷ []) (hs ++ h ∷ [])
each_push ns [] [] v h held is = (is, tt)
each_push ns [] (k ∷ hs) v h held is = absurd held
each_push ns (u ∷ vs) [] v h held is = absurd held
each_push ns (u ∷ vs) (k ∷ hs) v h held is = (held.0, each_push ns vs hs v h held.1 is)

each_of_later : (a b : List Node) → Grows a b → (vs : List Value) (hs : List Ground) → EachOf a vs hs → EachOf b vs hs
each_of_later a b grows [] [] held = tt
each_of_later a b grows [] (k ∷ hs) held = absurd held
each_of_later a b grows (u ∷ vs) [] held = absurd held
each_of_later a b grows (u ∷ vs) (k ∷ hs) held = (is_later a b grows u k held.0, each_of_later a b grows vs hs held.1)

each_whole : (ns : List Node) (vs : List Value) (hs : List Ground) → EachOf ns vs hs → EachIs ns (many vs) (before hs no_more)
each_whole ns [] [] held = refl
each_whole ns [] (k ∷ hs) held = absurd held
each_whole ns (u ∷ vs) [] held = absurd held
each_whole ns (u ∷ vs) (k ∷ hs) held = (k, before hs no_more, refl, held.0, each_whole ns vs hs held.1)

-- ---- steps, each safe where its parts are

abbrev pub Runs : Surroundings → Sight → Ground → (Machine → Outcome) → Type 0
Runs s t g run = (m : Machine) → Knows s t m.plan.nodes → Safe m.plan.nodes (Of g) (run m)

abbrev RunsOn : Surroundings → Sight → Ground → Ground → (Value → Machine → Outcome) → Type 0
RunsOn s t h g next = (v : Value) (m : Machine) → Knows s t m.plan.nodes → IsA m.plan.nodes v h → Safe m.plan.nodes (Of g) (next v m)

abbrev SafeAt : Ground → Ground → (Value → Value → Result Value Stop) → Type 0
SafeAt g h op = (ns : List Node) (u w : Value) → IsA ns u g → IsA ns w h → NotStuck (λ (x : Value). IsA ns x g) (op u w)

goes_on : (s : Surroundings) (t : Sight) (h g : Ground) (first : Machine → Outcome) (next : Value → Machine → Outcome) → Runs s t h first → RunsOn s t h g next → Runs s t g (λ m. first m >>= λ x. next x.0 x.1)
goes_on s t h g first next a b m knows = after m.plan.nodes (Of h) (Of g) (first m) (λ x. next x.0 x.1) (a m knows) (λ x grows held. b x.0 x.1 (knows_later m.plan.nodes x.1.plan.nodes grows s t knows) held)

linked : (s : Surroundings) (t : Sight) (g h k : Ground) (op : Value → Value → Result Value Stop) (run : Machine → Outcome) (next : Value → Machine → Outcome) → SafeAt g h op → Runs s t h run → RunsOn s t g k next → RunsOn s t g k (λ v m. operator_applied op v (run m) >>= λ x. next x.0 x.1)
linked s t g h k op run next safe a b v m knows held =
    after m.plan.nodes (Of g) (Of k) (operator_applied op v (run m)) (λ x. next x.0 x.1) (joined_safe m.plan.nodes g h op v (run m) (a m knows) (λ ks grows w is. safe ks v w (is_later m.plan.nodes ks grows v g held) is))
    (λ x grows made. b x.0 x.1 (knows_later m.plan.nodes x.1.plan.nodes grows s t knows) made)

no_more_runs : (s : Surroundings) (t : Sight) (g : Ground) → RunsOn s t g g (λ v m. Ok (v, m))
no_more_runs s t g v m knows held = (stays m.plan.nodes, held)

counts_one : (s : Surroundings) (t : Sight) (g : Ground) (run : Machine → Outcome) → Runs s t g run → Runs s t g (λ m. count_work 1 m >>= λ c. run c)
counts_one s t g run a m knows = counted (Of g) 1 m run (λ work. a (record m { work = work }) knows)

is_made : (s : Surroundings) (t : Sight) (g : Ground) (v : Value) → ((ns : List Node) → IsA ns v g) → Runs s t g (λ c. Ok (v, c))
is_made s t g v is m knows = (stays m.plan.nodes, is m.plan.nodes)

is_found : (s : Surroundings) (t : Sight) (g : Ground) (r : Result Value Stop) → ((ns : List Node) → NotStuck (λ (u : Value). IsA ns u g) r) → Runs s t g (λ c. r >>= λ v. Ok (v, c))
is_found s t g r is m knows = fixed m.plan.nodes (λ (u : Value). IsA m.plan.nodes u g) (Of g) r (λ v. Ok (v, m)) (is m.plan.nodes) (λ v held. (stays m.plan.nodes, held))

is_opposite : (s : Surroundings) (t : Sight) (inner : Machine → Outcome) → Runs s t truth inner → Runs s t truth (λ m. inner m >>= λ x. count_work 1 x.1 >>= λ c. opposite x.0 >>= λ u. Ok (u, c))
is_opposite s t inner a m knows =
    after m.plan.nodes (Of truth) (Of truth) (inner m) (λ x. count_work 1 x.1 >>= λ c. opposite x.0 >>= λ u. Ok (u, c)) (a m knows) (λ x grows held.
    counted (Of truth) 1 x.1 (λ c. opposite x.0 >>= λ u. Ok (u, c)) (λ work.
    fixed x.1.plan.nodes (λ (u : Value). IsA x.1.plan.nodes u truth) (Of truth) (opposite x.0) (λ u. Ok (u, record x.1 { work = work })) (opposite_safe x.1.plan.nodes x.0 held) (λ u is. (stays x.1.plan.nodes, is))))

is_compared : (s : Surroundings) (t : Sight) (h : Ground) (o : CompareOp) (left right : Machine → Outcome) → IsNumber h → Runs s t h left → Runs s t h right → Runs s t truth (λ m. left m >>= λ x. right x.1 >>= λ y. count_work 1 y.1 >>= λ c. compared o x.0 y.0 >>= λ u. Ok (u, c))
is_compared s t h o left right number a b m knows =
    after m.plan.nodes (Of h) (Of truth) (left m) (λ x. right x.1 >>= λ y. count_work 1 y.1 >>= λ c. compared o x.0 y.0 >>= λ u. Ok (u, c)) (a m knows) (λ x grows held.
    after x.1.plan.nodes (Of h) (Of truth) (right x.1) (λ y. count_work 1 y.1 >>= λ c. compared o x.0 y.0 >>= λ u. Ok (u, c)) (b x.1 (knows_later m.plan.nodes x.1.plan.nodes grows s t knows)) (λ y wider kept.
    counted (Of truth) 1 y.1 (λ c. compared o x.0 y.0 >>= λ u. Ok (u, c)) (λ work.
    fixed y.1.plan.nodes (λ (u : Value). IsA y.1.plan.nodes u truth) (Of truth) (compared o x.0 y.0) (λ u. Ok (u, record y.1 { work = work })) (compared_safe y.1.plan.nodes o h number x.0 y.0 (is_later x.1.plan.nodes y.1.plan.nodes wider x.0 h held) kept) (λ u is. (stays y.1.plan.nodes, is)))))

is_chosen : (s : Surroundings) (t : Sight) (g : Ground) (condition first second : Machine → Outcome) → Runs s t truth condition → Runs s t g first → Runs s t g second → Runs s t g (λ m. condition m >>= λ x. truth_of x.0 >>= λ b. elim b [ true ↦ first x.1 | false ↦ second x.1 ])
is_chosen s t g condition first second a b c m knows =
    after m.plan.nodes (Of truth) (Of g) (condition m) (λ x. truth_of x.0 >>= λ d. elim d [ true ↦ first x.1 | false ↦ second x.1 ]) (a m knows) (λ x grows held.
    fixed x.1.plan.nodes (λ (d : Bool). Unit {0}) (Of g) (truth_of x.0) (λ d. elim d [ true ↦ first x.1 | false ↦ second x.1 ]) (truth_safe x.1.plan.nodes x.0 held) (λ d is.
    elim d as (λ e. Safe x.1.plan.nodes (Of g) (elim e [ true ↦ first x.1 | false ↦ second x.1 ])) [
      | true ↦ b x.1 (knows_later m.plan.nodes x.1.plan.nodes grows s t knows)
      | false ↦ c x.1 (knows_later m.plan.nodes x.1.plan.nodes grows s t knows)
    ]))

-- values of the types hs, and others of the types ts behind them
abbrev RunAll : Surroundings → Sight → List Ground → Grounds → (List Value → Machine → Result (List Value × Machine) Stop) → Type 0
RunAll s t hs ts run = (vs : List Value) (m : Machine) → Knows s t m.plan.nodes → EachOf m.plan.nodes vs hs → Safe m.plan.nodes (λ ks out. EachIs ks (many out) (before hs ts)) (run vs m)

abbrev RunEach : Surroundings → Sight → Ground → (List Value → Machine → Result (List Value × Machine) Stop) → Type 0
RunEach s t g run = (vs : List Value) (m : Machine) → Knows s t m.plan.nodes → AllAre m.plan.nodes (many vs) g → Safe m.plan.nodes (λ ks out. AllAre ks (many out) g) (run vs m)

abbrev RunGiven : Surroundings → Sight → List (arguments.GivenArgument Ground) → List (arguments.GivenArgument Ground) → (List Argument → Machine → Result (List Argument × Machine) Stop) → Type 0
RunGiven s t hs gs run = (given : List Argument) (m : Machine) → Knows s t m.plan.nodes → AreA m.plan.nodes given hs → Safe m.plan.nodes (λ ks out. AreA ks out (hs ++ gs)) (run given m)

is_tuple : (s : Surroundings) (t : Sight) (t1 t2 : Ground) (ts : Grounds) (f h : Machine → Outcome) (rest : List Value → Machine → Result (List Value × Machine) Stop) → Runs s t t1 f → Runs s t t2 h → RunAll s t (t1 ∷ t2 ∷ []) ts rest
    → Runs s t (tuple (ground.and_more t1 (ground.and_more t2 ts))) (λ c. f c >>= λ x. h x.1 >>= λ y. rest (x.0 ∷ y.0 ∷ []) y.1 >>= λ z. Ok (value.TupleValue (many z.0), z.1))
is_tuple s t t1 t2 ts f h rest a b c m knows =
    after m.plan.nodes (Of t1) (Of (tuple (ground.and_more t1 (ground.and_more t2 ts)))) (f m) (λ x. h x.1 >>= λ y. rest (x.0 ∷ y.0 ∷ []) y.1 >>= λ z. Ok (value.TupleValue (many z.0), z.1)) (a m knows) (λ x grows held.
    after x.1.plan.nodes (Of t2) (Of (tuple (ground.and_more t1 (ground.and_more t2 ts)))) (h x.1) (λ y. rest (x.0 ∷ y.0 ∷ []) y.1 >>= λ z. Ok (value.TupleValue (many z.0), z.1)) (b x.1 (knows_later m.plan.nodes x.1.plan.nodes grows s t knows)) (λ y wider kept.
    after y.1.plan.nodes (λ ks out. EachIs ks (many out) (ground.and_more t1 (ground.and_more t2 ts))) (Of (tuple (ground.and_more t1 (ground.and_more t2 ts)))) (rest (x.0 ∷ y.0 ∷ []) y.1) (λ z. Ok (value.TupleValue (many z.0), z.1))
    (c (x.0 ∷ y.0 ∷ []) y.1 (knows_later x.1.plan.nodes y.1.plan.nodes wider s t (knows_later m.plan.nodes x.1.plan.nodes grows s t knows)) (is_later x.1.plan.nodes y.1.plan.nodes wider x.0 t1 held, (kept, tt)))
    (λ z last all. (stays z.1.plan.nodes, (ground.and_more t1 (ground.and_more t2 ts), refl, all)))))

is_list : (s : Surroundings) (t : Sight) (u : Ground) (run : List Value → Machine → Result (List Value × Machine) Stop) → RunEach s t u run → Runs s t (list u) (λ c. run [] c >>= λ z. Ok (value.ListValue (many z.0), z.1))
is_list s t u run a m knows =
    after m.plan.nodes (λ ks out. AllAre ks (many out) u) (Of (list u)) (run [] m) (λ z. Ok (value.ListValue (many z.0), z.1)) (a [] m knows tt) (λ z last all. (stays z.1.plan.nodes, (u, refl, all)))

all_end : (s : Surroundings) (t : Sight) (hs : List Ground) → RunAll s t hs no_more (λ vs m. Ok (vs, m))
all_end s t hs vs m knows held = (stays m.plan.nodes, each_whole m.plan.nodes vs hs held)

all_next : (s : Surroundings) (t : Sight) (hs : List Ground) (h : Ground) (ts : Grounds) (f : Machine → Outcome) (run : List Value → Machine → Result (List Value × Machine) Stop) → Runs s t h f → RunAll s t (hs ++ h ∷ []) ts run
    → RunAll s t hs (ground.and_more h ts) (λ vs m. f m >>= λ x. run (vs ++ x.0 ∷ []) x.1)
all_next s t hs h ts f run a b vs m knows held =
    subst (λ (us : Grounds). Safe m.plan.nodes (λ ks out. EachIs ks (many out) us) (f m >>= λ x. run (vs ++ x.0 ∷ []) x.1)) (before_push hs h ts)
    (after m.plan.nodes (Of h) (λ ks out. EachIs ks (many out) (before (hs ++ h ∷ []) ts)) (f m) (λ x. run (vs ++ x.0 ∷ []) x.1) (a m knows) (λ x grows is.
    b (vs ++ x.0 ∷ []) x.1 (knows_later m.plan.nodes x.1.plan.nodes grows s t knows) (each_push x.1.plan.nodes vs hs x.0 h (each_of_later m.plan.nodes x.1.plan.nodes grows vs hs held) is)))

each_end : (s : Surroundings) (t : Sight) (g : Ground) → RunEach s t g (λ vs m. Ok (vs, m))
each_end s t g vs m knows held = (stays m.plan.nodes, held)

each_next : (s : Surroundings) (t : Sight) (g : Ground) (f : Machine → Outcome) (run : List Value → Machine → Result (List Value × Machine) Stop) → Runs s t g f → RunEach s t g run → RunEach s t g (λ vs m. f m >>= λ x. run (vs ++ x.0 ∷ []) x.1)
each_next s t g f run a b vs m knows held =
    after m.plan.nodes (Of g) (λ ks out. AllAre ks (many out) g) (f m) (λ x. run (vs ++ x.0 ∷ []) x.1) (a m knows) (λ x grows is.
    b (vs ++ x.0 ∷ []) x.1 (knows_later m.plan.nodes x.1.plan.nodes grows s t knows) (all_push x.1.plan.nodes vs x.0 g (all_later m.plan.nodes x.1.plan.nodes grows (many vs) g held) is))

given_end : (s : Surroundings) (t : Sight) (hs : List (arguments.GivenArgument Ground)) → RunGiven s t hs [] (λ given m. Ok (given, m))
given_end s t hs given m knows held = (stays m.plan.nodes, subst (λ (l : List (arguments.GivenArgument Ground)). AreA m.plan.nodes given l) (sym (append-nil hs)) held)

-- a value behind its label
abbrev labelled : Option (List ℕ) → Value × Machine → Result (Argument × Machine) Stop
labelled label x = Ok ((label, x.0), x.1)

given_next : (s : Surroundings) (t : Sight) (hs : List (arguments.GivenArgument Ground)) (label : Option (List ℕ)) (h : Ground) (gs : List (arguments.GivenArgument Ground)) (f : Machine → Outcome) (run : List Argument → Machine → Result (List Argument × Machine) Stop) → Runs s t h f → RunGiven s t (hs ++ (label, h) ∷ []) gs run
    → RunGiven s t hs ((label, h) ∷ gs) (λ given m. (f m >>= labelled label) >>= λ x. run (given ++ x.0 ∷ []) x.1)
given_next s t hs label h gs f run a b given m knows held =
    subst (λ (l : List (arguments.GivenArgument Ground)). Safe m.plan.nodes (λ ks out. AreA ks out l) ((f m >>= labelled label) >>= λ x. run (given ++ x.0 ∷ []) x.1)) (append_assoc hs ((label, h) ∷ []) gs)
    (after m.plan.nodes (λ ks one. (one.0 ≡ label) × IsA ks one.1 h) (λ ks out. AreA ks out ((hs ++ (label, h) ∷ []) ++ gs)) (f m >>= labelled label) (λ x. run (given ++ x.0 ∷ []) x.1)
    (after m.plan.nodes (Of h) (λ ks one. (one.0 ≡ label) × IsA ks one.1 h) (f m) (labelled label) (a m knows) (λ x grows is. (stays x.1.plan.nodes, (refl, is))))
    (λ x grows one. b (given ++ x.0 ∷ []) x.1 (knows_later m.plan.nodes x.1.plan.nodes grows s t knows) (are_push x.1.plan.nodes given hs x.0 (label, h) (are_later m.plan.nodes x.1.plan.nodes grows given hs held) one.0 one.1)))

is_called : BuiltinsAreSafe → (s : Surroundings) (t : Sight) (at : ℕ) (gs : List (arguments.GivenArgument Ground)) (g : Ground) (run : List Argument → Machine → Result (List Argument × Machine) Stop) → Applied t at (t.target at) gs g → RunGiven s t [] gs run
    → Runs s t g (λ m. run [] m >>= λ x. meaning.applied s (use_at at s.uses) at x.0 x.1)
is_called bs s t at gs g run has a m knows =
    after m.plan.nodes (λ ks given. AreA ks given gs) (Of g) (run [] m) (λ x. meaning.applied s (use_at at s.uses) at x.0 x.1) (a [] m knows tt) (λ x grows held.
    let wide : Knows s t x.1.plan.nodes = knows_later m.plan.nodes x.1.plan.nodes grows s t knows in
    applied_safe bs s t (use_at at s.uses) at x.0 gs g x.1 wide (knows.kinds at) (subst (λ (o : Option Target). Applied t at o gs g) (sym (knows.target at)) has) held)

is_named : (s : Surroundings) (t : Sight) (at : ℕ) (g : Ground) → NameHas t (t.target at) g → Runs s t g (meaning.named s (use_at at s.uses))
is_named s t at g has m knows = named_safe s t (use_at at s.uses) g m knows (subst (λ (o : Option Target). NameHas t o g) (sym (knows.target at)) has)

either_at : SafeAt truth truth either
either_at ns u w a b = either_safe ns u w a b

both_at : SafeAt truth truth both
both_at ns u w a b = both_safe ns u w a b

negative_at : (at : ℕ) (n : Literal) (g : Ground) → g ≡ literal_type n → (ns : List Node) → NotStuck (λ (u : Value). IsA ns u g) (negative at n)
negative_at at n g is ns = subst (λ (h : Ground). NotStuck (λ (u : Value). IsA ns u h) (negative at n)) (sym is) (negative_safe ns at n)

literal_is : (n : Literal) (g : Ground) → g ≡ literal_type n → (ns : List Node) → IsA ns (literal_value n) g
literal_is (literal.Int n) g is ns = is
literal_is (literal.Number d) g is ns = is

-- ---- the productions, each safe where its parts are

abbrev pub FullSafe : Surroundings → Sight → Tree AFull → Type 0
FullSafe s t e = (g : Ground) → Has t e g → Runs s t g (full s e)

abbrev pub ExprSafe : Surroundings → Sight → Tree AnExpr → Type 0
ExprSafe s t e = (g : Ground) → Has t e g → Runs s t g (meaning.expr s e)

abbrev ConjunctionSafe : Surroundings → Sight → Tree AnAnd → Type 0
ConjunctionSafe s t e = (g : Ground) → Has t e g → Runs s t g (meaning.conjunction s e)

abbrev NegationSafe : Surroundings → Sight → Tree ANot → Type 0
NegationSafe s t e = (g : Ground) → Has t e g → Runs s t g (meaning.negation s e)

abbrev CompareSafe : Surroundings → Sight → Tree ACompare → Type 0
CompareSafe s t e = (g : Ground) → Has t e g → Runs s t g (meaning.compare s e)

abbrev SumSafe : Surroundings → Sight → Tree ASum → Type 0
SumSafe s t e = (g : Ground) → Has t e g → Runs s t g (meaning.sum s e)

abbrev ProductSafe : Surroundings → Sight → Tree AProduct → Type 0
ProductSafe s t e = (g : Ground) → Has t e g → Runs s t g (meaning.product s e)

abbrev OperandSafe : Surroundings → Sight → Tree AnOperand → Type 0
OperandSafe s t e = (g : Ground) → Has t e g → Runs s t g (meaning.operand s e)

abbrev pub ChoiceSafe : Surroundings → Sight → Tree AnIf → Type 0
ChoiceSafe s t e = (g : Ground) → Has t e g → Runs s t g (meaning.choice s e)

abbrev pub CallSafe : Surroundings → Sight → Tree ACall → Type 0
CallSafe s t e = (g : Ground) → Has t e g → Runs s t g (meaning.call s e)

abbrev OrsSafe : Surroundings → Sight → Tree (Many AnAnd) → Type 0
OrsSafe s t rest = EachHas t rest truth → RunsOn s t truth truth (meaning.ors s rest)

abbrev AndsSafe : Surroundings → Sight → Tree (Many ANot) → Type 0
AndsSafe s t rest = EachHas t rest truth → RunsOn s t truth truth (meaning.ands s rest)

abbrev AddendsSafe : Surroundings → Sight → Tree (Many AnAdded) → Type 0
AddendsSafe s t rest = (g : Ground) → IsNumber g → EachHas t rest g → RunsOn s t g g (meaning.addends s rest)

abbrev TimesSafe : Surroundings → Sight → Tree (Many AMultiplied) → Type 0
TimesSafe s t rest = (g : Ground) → IsNumber g → EachHas t rest g → RunsOn s t g g (meaning.factors s rest)

abbrev AllsSafe : Surroundings → Sight → Tree (Many AFull) → Type 0
AllsSafe s t rest = (ts : Grounds) (hs : List Ground) → HaveAll t rest ts → RunAll s t hs ts (meaning.fulls s rest)

abbrev EachSafe : Surroundings → Sight → Tree (Many AFull) → Type 0
EachSafe s t rest = (g : Ground) → EachHas t rest g → RunEach s t g (meaning.fulls s rest)

abbrev ArgumentsSafe : Surroundings → Sight → Tree (Many AnArg) → Type 0
ArgumentsSafe s t rest = (gs hs : List (arguments.GivenArgument Ground)) → AreGiven t rest gs → RunGiven s t hs gs (meaning.arguments s rest)

of_negative : (s : Surroundings) (t : Sight) (at : ℕ) (n : Literal) → FullSafe s t (Negative at n)
unfolding full
of_negative s t at n g has = counts_one s t g (λ c. negative at n >>= λ v. Ok (v, c)) (is_found s t g (negative at n) (negative_at at n g has))

of_plain : (s : Surroundings) (t : Sight) (e : Tree AnExpr) → ExprSafe s t e → FullSafe s t (Plain e)
unfolding full
of_plain s t e a g has = a g has

of_expr : (s : Surroundings) (t : Sight) (a : Tree AnAnd) (rest : Tree (Many AnAnd)) → ConjunctionSafe s t a → OrsSafe s t rest → ExprSafe s t (Expr a rest)
unfolding meaning.expr meaning.ors
of_expr s t a none first others g has = goes_on s t g g (meaning.conjunction s a) (λ v m. Ok (v, m)) (first g has.0) (no_more_runs s t g)
of_expr s t a (more b rest) first others g has =
    subst (λ (h : Ground). Runs s t h (meaning.expr s (Expr a (more b rest)))) (sym has.2)
    (goes_on s t truth truth (meaning.conjunction s a) (meaning.ors s (more b rest)) (first truth (subst (λ (h : Ground). Has t a h) has.2 has.0)) (others (subst (λ (h : Ground). EachHas t (more b rest) h) has.2 has.1)))

no_ors : (s : Surroundings) (t : Sight) → OrsSafe s t none
unfolding meaning.ors
no_ors s t has = no_more_runs s t truth

of_ors : (s : Surroundings) (t : Sight) (a : Tree AnAnd) (rest : Tree (Many AnAnd)) → ConjunctionSafe s t a → OrsSafe s t rest → OrsSafe s t (more a rest)
unfolding meaning.ors
of_ors s t a rest first others has = linked s t truth truth truth either (meaning.conjunction s a) (meaning.ors s rest) either_at (first truth has.0) (others has.1)

of_conjunction : (s : Surroundings) (t : Sight) (n : Tree ANot) (rest : Tree (Many ANot)) → NegationSafe s t n → AndsSafe s t rest → ConjunctionSafe s t (And n rest)
unfolding meaning.conjunction meaning.ands
of_conjunction s t n none first others g has = goes_on s t g g (meaning.negation s n) (λ v m. Ok (v, m)) (first g has.0) (no_more_runs s t g)
of_conjunction s t n (more b rest) first others g has =
    subst (λ (h : Ground). Runs s t h (meaning.conjunction s (And n (more b rest)))) (sym has.2)
    (goes_on s t truth truth (meaning.negation s n) (meaning.ands s (more b rest)) (first truth (subst (λ (h : Ground). Has t n h) has.2 has.0)) (others (subst (λ (h : Ground). EachHas t (more b rest) h) has.2 has.1)))

no_ands : (s : Surroundings) (t : Sight) → AndsSafe s t none
unfolding meaning.ands
no_ands s t has = no_more_runs s t truth

of_ands : (s : Surroundings) (t : Sight) (a : Tree ANot) (rest : Tree (Many ANot)) → NegationSafe s t a → AndsSafe s t rest → AndsSafe s t (more a rest)
unfolding meaning.ands
of_ands s t a rest first others has = linked s t truth truth truth both (meaning.negation s a) (meaning.ands s rest) both_at (first truth has.0) (others has.1)

of_not : (s : Surroundings) (t : Sight) (negated : Bool) (inner : Tree ACompare) → CompareSafe s t inner → NegationSafe s t (Not negated inner)
unfolding meaning.negation
of_not s t true inner a g has = subst (λ (h : Ground). Runs s t h (meaning.negation s (Not true inner))) (sym has.0) (is_opposite s t (meaning.compare s inner) (a truth has.1))
of_not s t false inner a g has = a g has

of_alone : (s : Surroundings) (t : Sight) (left : Tree ASum) → SumSafe s t left → CompareSafe s t (Alone left)
unfolding meaning.compare
of_alone s t left a g has = a g has

of_compared : (s : Surroundings) (t : Sight) (left right : Tree ASum) (at : ℕ) (o : CompareOp) → SumSafe s t left → SumSafe s t right → CompareSafe s t (Compared left at o right)
unfolding meaning.compare
of_compared s t left right at o a b g has =
    subst (λ (h : Ground). Runs s t h (meaning.compare s (Compared left at o right))) (sym has.0)
    (is_compared s t has.1.0 o (meaning.sum s left) (meaning.sum s right) has.1.1 (a has.1.0 has.1.2) (b has.1.0 has.1.3))

of_sum : (s : Surroundings) (t : Sight) (p : Tree AProduct) (rest : Tree (Many AnAdded)) → ProductSafe s t p → AddendsSafe s t rest → SumSafe s t (Sum p rest)
unfolding meaning.sum meaning.addends
of_sum s t p none first others g has = goes_on s t g g (meaning.product s p) (λ v m. Ok (v, m)) (first g has.0) (no_more_runs s t g)
of_sum s t p (more b rest) first others g has = goes_on s t g g (meaning.product s p) (meaning.addends s (more b rest)) (first g has.0) (others g has.2 has.1)

no_addends : (s : Surroundings) (t : Sight) → AddendsSafe s t none
unfolding meaning.addends
no_addends s t g number has = no_more_runs s t g

of_addends : (s : Surroundings) (t : Sight) (at : ℕ) (minus : Bool) (p : Tree AProduct) (rest : Tree (Many AnAdded)) → ProductSafe s t p → AddendsSafe s t rest → AddendsSafe s t (more (Added at minus p) rest)
unfolding meaning.addends meaning.plus
of_addends s t at minus p rest first others g number has = linked s t g g g (added minus at) (meaning.product s p) (meaning.addends s rest) (λ ns u w a b. added_safe ns minus at g number u w a b) (first g has.0) (others g number has.1)

of_product : (s : Surroundings) (t : Sight) (p : Tree AnOperand) (rest : Tree (Many AMultiplied)) → OperandSafe s t p → TimesSafe s t rest → ProductSafe s t (Product p rest)
unfolding meaning.product meaning.factors
of_product s t p none first others g has = goes_on s t g g (meaning.operand s p) (λ v m. Ok (v, m)) (first g has.0) (no_more_runs s t g)
of_product s t p (more b rest) first others g has = goes_on s t g g (meaning.operand s p) (meaning.factors s (more b rest)) (first g has.0) (others g has.2 has.1)

no_times : (s : Surroundings) (t : Sight) → TimesSafe s t none
unfolding meaning.factors
no_times s t g number has = no_more_runs s t g

of_times : (s : Surroundings) (t : Sight) (at : ℕ) (divide : Bool) (p : Tree AnOperand) (rest : Tree (Many AMultiplied)) → OperandSafe s t p → TimesSafe s t rest → TimesSafe s t (more (Multiplied at divide p) rest)
unfolding meaning.factors meaning.times
of_times s t at divide p rest first others g number has = linked s t g g g (multiplied divide at) (meaning.operand s p) (meaning.factors s rest) (λ ns u w a b. multiplied_safe ns divide at g number u w a b) (first g has.0) (others g number has.1)

of_constant : (s : Surroundings) (t : Sight) (at : ℕ) (n : Literal) → OperandSafe s t (Constant at n)
unfolding meaning.operand
of_constant s t at n g has = counts_one s t g (λ c. Ok (literal_value n, c)) (is_made s t g (literal_value n) (literal_is n g has))

of_quoted : (s : Surroundings) (t : Sight) (at : ℕ) (text : List ℕ) → OperandSafe s t (Quoted at text)
unfolding meaning.operand
of_quoted s t at text g has = counts_one s t g (λ c. Ok (value.TextValue text, c)) (is_made s t g (value.TextValue text) (λ ns. has))

of_truth : (s : Surroundings) (t : Sight) (at : ℕ) (b : Bool) → OperandSafe s t (Truth at b)
unfolding meaning.operand
of_truth s t at b g has = counts_one s t g (λ c. Ok (value.TruthValue b, c)) (is_made s t g (value.TruthValue b) (λ ns. has))

of_named : (s : Surroundings) (t : Sight) (at : ℕ) (name : List ℕ) → OperandSafe s t (Named at name)
unfolding meaning.operand
of_named s t at name g has = is_named s t at g has

of_called : (s : Surroundings) (t : Sight) (k : Tree ACall) → CallSafe s t k → OperandSafe s t (Called k)
unfolding meaning.operand
of_called s t k a g has = counts_one s t g (meaning.call s k) (a g has)

of_chosen : (s : Surroundings) (t : Sight) (i : Tree AnIf) → ChoiceSafe s t i → OperandSafe s t (Chosen i)
unfolding meaning.operand
of_chosen s t i a g has = counts_one s t g (meaning.choice s i) (a g has)

of_nothing : (s : Surroundings) (t : Sight) (at : ℕ) → OperandSafe s t (Nothing at)
unfolding meaning.operand
of_nothing s t at g has = counts_one s t g (λ c. Ok (value.UnitValue, c)) (is_made s t g value.UnitValue (λ ns. has))

of_paren : (s : Surroundings) (t : Sight) (f : Tree AFull) → FullSafe s t f → OperandSafe s t (Paren f)
unfolding meaning.operand
of_paren s t f a g has = counts_one s t g (full s f) (a g has)

of_tuple : (s : Surroundings) (t : Sight) (at : ℕ) (f h : Tree AFull) (rest : Tree (Many AFull)) → FullSafe s t f → FullSafe s t h → AllsSafe s t rest → OperandSafe s t (Tuple at f h rest)
unfolding meaning.operand
of_tuple s t at f h rest a b c g has =
    subst (λ (k : Ground). Runs s t k (meaning.operand s (Tuple at f h rest))) (sym has.3)
    (counts_one s t (tuple (ground.and_more has.0 (ground.and_more has.1 has.2))) (λ c. full s f c >>= λ x. full s h x.1 >>= λ y. meaning.fulls s rest (x.0 ∷ y.0 ∷ []) y.1 >>= λ z. Ok (value.TupleValue (many z.0), z.1))
    (is_tuple s t has.0 has.1 has.2 (full s f) (full s h) (meaning.fulls s rest) (a has.0 has.4) (b has.1 has.5) (c has.2 (has.0 ∷ has.1 ∷ []) has.6)))

of_listed : (s : Surroundings) (t : Sight) (at : ℕ) (parts : Tree (Many AFull)) → EachSafe s t parts → OperandSafe s t (Listed at parts)
unfolding meaning.operand
of_listed s t at parts a g has =
    subst (λ (k : Ground). Runs s t k (meaning.operand s (Listed at parts))) (sym has.1)
    (counts_one s t (list has.0) (λ c. meaning.fulls s parts [] c >>= λ z. Ok (value.ListValue (many z.0), z.1)) (is_list s t has.0 (meaning.fulls s parts) (a has.0 has.2)))

of_braces : (s : Surroundings) (t : Sight) (at : ℕ) (pred : Tree APOr) → OperandSafe s t (Braces at pred)
unfolding meaning.operand
of_braces s t at pred g has = counts_one s t g (λ c. Ok (value.PredValue (or_pred pred), c)) (is_made s t g (value.PredValue (or_pred pred)) (λ ns. has))

of_format : (s : Surroundings) (t : Sight) (at : ℕ) (bits : Option ℤ) → OperandSafe s t (PlaceFormat at bits)
unfolding meaning.operand
of_format s t at bits g has = counts_one s t g (λ c. meaning.format at bits >>= λ v. Ok (v, c)) (is_found s t g (meaning.format at bits) (λ ns. format_safe ns at bits g has))

no_alls : (s : Surroundings) (t : Sight) → AllsSafe s t none
unfolding meaning.fulls
no_alls s t ts hs has = subst (λ (us : Grounds). RunAll s t hs us (meaning.fulls s none)) (sym has) (all_end s t hs)

of_alls : (s : Surroundings) (t : Sight) (f : Tree AFull) (rest : Tree (Many AFull)) → FullSafe s t f → AllsSafe s t rest → AllsSafe s t (more f rest)
unfolding meaning.fulls
of_alls s t f rest first others ts hs has =
    subst (λ (us : Grounds). RunAll s t hs us (meaning.fulls s (more f rest))) (sym has.2)
    (all_next s t hs has.0 has.1 (full s f) (meaning.fulls s rest) (first has.0 has.3) (others has.1 (hs ++ has.0 ∷ []) has.4))

no_each : (s : Surroundings) (t : Sight) → EachSafe s t none
unfolding meaning.fulls
no_each s t g has = each_end s t g

of_each : (s : Surroundings) (t : Sight) (f : Tree AFull) (rest : Tree (Many AFull)) → FullSafe s t f → EachSafe s t rest → EachSafe s t (more f rest)
unfolding meaning.fulls
of_each s t f rest first others g has = each_next s t g (full s f) (meaning.fulls s rest) (first g has.0) (others g has.1)

of_if : (s : Surroundings) (t : Sight) (at : ℕ) (c d e : Tree AFull) → FullSafe s t c → FullSafe s t d → FullSafe s t e → ChoiceSafe s t (If at c d e)
unfolding meaning.choice
of_if s t at c d e a b f g has = is_chosen s t g (full s c) (full s d) (full s e) (a truth has.0) (b g has.1) (f g has.2)

of_call : BuiltinsAreSafe → (s : Surroundings) (t : Sight) (at : ℕ) (name : List ℕ) (args : Tree (Many AnArg)) → ArgumentsSafe s t args → CallSafe s t (NamedCall at name args)
unfolding meaning.call
of_call bs s t at name args a g has = is_called bs s t at has.0 g (meaning.arguments s args) has.2 (a has.0 [] has.1)

no_arguments : (s : Surroundings) (t : Sight) → ArgumentsSafe s t none
unfolding meaning.arguments
no_arguments s t gs hs has = subst (λ (l : List (arguments.GivenArgument Ground)). RunGiven s t hs l (meaning.arguments s none)) (sym has) (given_end s t hs)

of_arguments : (s : Surroundings) (t : Sight) (at : ℕ) (label : Option (List ℕ)) (f : Tree AFull) (rest : Tree (Many AnArg)) → FullSafe s t f → ArgumentsSafe s t rest → ArgumentsSafe s t (more (Arg at label f) rest)
unfolding meaning.arguments meaning.argued
of_arguments s t at label f rest first others gs hs has =
    subst (λ (l : List (arguments.GivenArgument Ground)). RunGiven s t hs l (meaning.arguments s (more (Arg at label f) rest))) (sym has.2)
    (given_next s t hs label has.0 has.1 (full s f) (meaning.arguments s rest) (first has.0 has.3) (others has.1 (hs ++ (label, has.0) ∷ []) has.4))

-- ---- all trees

mutual
  pub safe_full : BuiltinsAreSafe → (s : Surroundings) (t : Sight) (e : Tree AFull) → FullSafe s t e
  safe_full bs s t (Negative at n) = of_negative s t at n
  safe_full bs s t (Plain e) = of_plain s t e (safe_expr bs s t e)

  pub safe_expr : BuiltinsAreSafe → (s : Surroundings) (t : Sight) (e : Tree AnExpr) → ExprSafe s t e
  safe_expr bs s t (Expr a rest) = of_expr s t a rest (safe_conjunction bs s t a) (safe_ors bs s t rest)

  safe_ors : BuiltinsAreSafe → (s : Surroundings) (t : Sight) (rest : Tree (Many AnAnd)) → OrsSafe s t rest
  safe_ors bs s t none = no_ors s t
  safe_ors bs s t (more a rest) = of_ors s t a rest (safe_conjunction bs s t a) (safe_ors bs s t rest)

  safe_conjunction : BuiltinsAreSafe → (s : Surroundings) (t : Sight) (e : Tree AnAnd) → ConjunctionSafe s t e
  safe_conjunction bs s t (And n rest) = of_conjunction s t n rest (safe_negation bs s t n) (safe_ands bs s t rest)

  safe_ands : BuiltinsAreSafe → (s : Surroundings) (t : Sight) (rest : Tree (Many ANot)) → AndsSafe s t rest
  safe_ands bs s t none = no_ands s t
  safe_ands bs s t (more a rest) = of_ands s t a rest (safe_negation bs s t a) (safe_ands bs s t rest)

  safe_negation : BuiltinsAreSafe → (s : Surroundings) (t : Sight) (e : Tree ANot) → NegationSafe s t e
  safe_negation bs s t (Not negated inner) = of_not s t negated inner (safe_compare bs s t inner)

  safe_compare : BuiltinsAreSafe → (s : Surroundings) (t : Sight) (e : Tree ACompare) → CompareSafe s t e
  safe_compare bs s t (Alone left) = of_alone s t left (safe_sum bs s t left)
  safe_compare bs s t (Compared left at o right) = of_compared s t left right at o (safe_sum bs s t left) (safe_sum bs s t right)

  safe_sum : BuiltinsAreSafe → (s : Surroundings) (t : Sight) (e : Tree ASum) → SumSafe s t e
  safe_sum bs s t (Sum p rest) = of_sum s t p rest (safe_product bs s t p) (safe_addends bs s t rest)

  safe_addends : BuiltinsAreSafe → (s : Surroundings) (t : Sight) (rest : Tree (Many AnAdded)) → AddendsSafe s t rest
  safe_addends bs s t none = no_addends s t
  safe_addends bs s t (more (Added at minus p) rest) = of_addends s t at minus p rest (safe_product bs s t p) (safe_addends bs s t rest)

  safe_product : BuiltinsAreSafe → (s : Surroundings) (t : Sight) (e : Tree AProduct) → ProductSafe s t e
  safe_product bs s t (Product p rest) = of_product s t p rest (safe_operand bs s t p) (safe_times bs s t rest)

  safe_times : BuiltinsAreSafe → (s : Surroundings) (t : Sight) (rest : Tree (Many AMultiplied)) → TimesSafe s t rest
  safe_times bs s t none = no_times s t
  safe_times bs s t (more (Multiplied at divide p) rest) = of_times s t at divide p rest (safe_operand bs s t p) (safe_times bs s t rest)

  safe_operand : BuiltinsAreSafe → (s : Surroundings) (t : Sight) (e : Tree AnOperand) → OperandSafe s t e
  safe_operand bs s t (Constant at n) = of_constant s t at n
  safe_operand bs s t (Quoted at text) = of_quoted s t at text
  safe_operand bs s t (Truth at b) = of_truth s t at b
  safe_operand bs s t (Named at name) = of_named s t at name
  safe_operand bs s t (Called k) = of_called s t k (safe_call bs s t k)
  safe_operand bs s t (Chosen i) = of_chosen s t i (safe_choice bs s t i)
  safe_operand bs s t (Nothing at) = of_nothing s t at
  safe_operand bs s t (Paren f) = of_paren s t f (safe_full bs s t f)
  safe_operand bs s t (Tuple at f h rest) = of_tuple s t at f h rest (safe_full bs s t f) (safe_full bs s t h) (safe_alls bs s t rest)
  safe_operand bs s t (Listed at parts) = of_listed s t at parts (safe_each bs s t parts)
  safe_operand bs s t (Braces at pred) = of_braces s t at pred
  safe_operand bs s t (PlaceFormat at bits) = of_format s t at bits

  safe_alls : BuiltinsAreSafe → (s : Surroundings) (t : Sight) (rest : Tree (Many AFull)) → AllsSafe s t rest
  safe_alls bs s t none = no_alls s t
  safe_alls bs s t (more f rest) = of_alls s t f rest (safe_full bs s t f) (safe_alls bs s t rest)

  safe_each : BuiltinsAreSafe → (s : Surroundings) (t : Sight) (rest : Tree (Many AFull)) → EachSafe s t rest
  safe_each bs s t none = no_each s t
  safe_each bs s t (more f rest) = of_each s t f rest (safe_full bs s t f) (safe_each bs s t rest)

  pub safe_choice : BuiltinsAreSafe → (s : Surroundings) (t : Sight) (e : Tree AnIf) → ChoiceSafe s t e
  safe_choice bs s t (If at c d e) = of_if s t at c d e (safe_full bs s t c) (safe_full bs s t d) (safe_full bs s t e)

  pub safe_call : BuiltinsAreSafe → (s : Surroundings) (t : Sight) (e : Tree ACall) → CallSafe s t e
  safe_call bs s t (NamedCall at name args) = of_call bs s t at name args (safe_arguments bs s t args)

  safe_arguments : BuiltinsAreSafe → (s : Surroundings) (t : Sight) (rest : Tree (Many AnArg)) → ArgumentsSafe s t rest
  safe_arguments bs s t none = no_arguments s t
  safe_arguments bs s t (more (Arg at label f) rest) = of_arguments s t at label f rest (safe_full bs s t f) (safe_arguments bs s t rest)
