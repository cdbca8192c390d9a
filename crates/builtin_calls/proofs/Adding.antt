-- What is added to a sound state leaves it sound.
use Rattle.std.proofs.Common.{◌≡◌, ℕ, zero, suc, ◌+◌, ◌^◌, ◌<◌, ◌≤◌, List, [], ◌∷◌, ◌++◌, length, length-append, Some, Bool, true, false, Result, Ok, Err, refl, sym, ap, ◌∙◌, subst, arith, nat_le, nat_lt, cond}
use Rattle.std.specs.Prelude.{slice_get, All, Contains, count_by}
use Rattle.std.specs.List.{list_any}
use Rattle.std.proofs.lemmas.List.Elements.{All-nil, All-cons, All-weaker, All-contains}
use Rattle.std.proofs.lemmas.List.Sums.{sum_by-append}
use Rattle.std.proofs.lemmas.Option.{slice_get_within}
use Rattle.liq_base.specs.declared.limits.TheConstants.{MAX_NODES, MAX_CHILDREN, MAX_CROSSFADES, MAX_OUTPUTS}
use Rattle.liq_base.specs.declared.memory.Kind.{Kind}
use Rattle.plan_core.specs.declared.node.Node.{Node}
use Rattle.plan_core.specs.declared.node.Op.{Op}
use Rattle.plan_core.specs.declared.sink.SinkPlan.{SinkPlan}
use Rattle.plan_core.specs.declared.sink.SinkPlan.TheVariants.{Output, Feed}
use Rattle.plan_core.specs.declared.sink.BufferPlan.{BufferPlan}
use Rattle.plan_core.specs.Plans.{HasChildren, HasKind, IsInRange, IsNoReader, IsBuffer, IsWellFormed, crossfades_from, with_node, with_output, with_buffer, reader_of, is_output}
use Rattle.plan_core.proofs.Grown.{node_keeps, output_keeps, buffer_keeps}
use Rattle.plan_core.proofs.Lists.{some_same}
use Rattle.script_values.specs.declared.fault.Stop.{Stop}
use Rattle.script_values.specs.declared.fault.Stop.TheVariants.{TooLarge, TooManySources, SameOutput}
use Rattle.script_values.specs.declared.fault.Limit.{Limit}
use Rattle.script_values.specs.declared.fault.Limit.TheVariants.{Crossfades, Outputs}
use Rattle.script_values.specs.declared.machine.Machine.{Machine}
use Rattle.script_values.specs.Values.{Value, Source, UnitValue}
use Rattle.builtin_calls.specs.Nodes.{at_most, few, push, add, add_buffer}
use Rattle.builtin_calls.specs.Sinks.{is_named, add_output}
use Rattle.builtin_calls.specs.Builtins.{node}
use Rattle.builtin_calls.specs.Sound.{IsSound, Keeps}
use Rattle.builtin_calls.proofs.Reading.{after, ok_is, IsSource}

-- an item stays where it is as the list grows
pub stays : {A : Type 0} (xs ys : List A) (i : ℕ) (x : A) → slice_get xs i ≡ Some x → slice_get (xs ++ ys) i ≡ Some x
stays [] ys i x is = absurd cc
stays (y ∷ xs) ys zero x is = is
stays (y ∷ xs) ys (suc i) x is = stays xs ys i x is

pub last_is : {A : Type 0} (xs : List A) (x : A) → slice_get (xs ++ x ∷ []) (length xs) ≡ Some x
last_is [] x = refl
last_is (y ∷ xs) x = last_is xs x

count_output : (sinks : List SinkPlan) (name : List ℕ) (n : ℕ) (b w : Bool) → count_by is_output (sinks ++ Output name n b w ∷ []) ≡ count_by is_output sinks + 1
count_output sinks name n b w = sum_by-append (λ s. cond (is_output s) 1 0) sinks (Output name n b w ∷ [])

count_feed : (sinks : List SinkPlan) (b n : ℕ) → count_by is_output (sinks ++ Feed b n ∷ []) ≡ count_by is_output sinks
count_feed sinks b n =
    let e : count_by is_output (sinks ++ Feed b n ∷ []) ≡ count_by is_output sinks + 0 = sum_by-append (λ s. cond (is_output s) 1 0) sinks (Feed b n ∷ []) in
    omega (arith, e)

pub keeps_itself : (m : Machine) → Keeps m m
keeps_itself m = record { sound = λ s. s; nodes = λ i one is. is }

pub then_keeps : (a b c : Machine) → Keeps a b → Keeps b c → Keeps a c
then_keeps a b c first second = record { sound = λ s. second.sound (first.sound s); nodes = λ i one is. second.nodes i one (first.nodes i one is) }

-- a test of a limit that was passed
within_by : (b : Bool) (n most r : ℕ) (limit : Limit) → nat_le n most ≡ b → ◌≡◌ {A = Result ℕ Stop} (elim b [ true ↦ Ok n | false ↦ Err (TooLarge limit) ]) (Ok r) → (n ≡ r) × (n ≤ most)
within_by true n most r limit test is = (ok_is n r is, grind arith)
within_by false n most r limit test is = absurd cc

pub within : (most : ℕ) (limit : Limit) (n r : ℕ) → at_most most limit n ≡ Ok r → (n ≡ r) × (n ≤ most)
within most limit n r is = within_by (nat_le n most) n most r limit refl is

few_by : (b : Bool) (cs rs : List ℕ) (limit : Limit) → nat_le (length cs) MAX_CHILDREN ≡ b → ◌≡◌ {A = Result (List ℕ) Stop} (elim b [ true ↦ Ok cs | false ↦ Err (TooLarge limit) ]) (Ok rs) → (cs ≡ rs) × (length rs ≤ MAX_CHILDREN)
few_by true cs rs limit test is =
    let same = ok_is cs rs is in
    let short : length cs ≤ MAX_CHILDREN = grind arith in
    (same, subst (λ (l : List ℕ). length l ≤ MAX_CHILDREN) same short)
few_by false cs rs limit test is = absurd cc

pub few_are : (cs rs : List ℕ) → few cs ≡ Ok rs → (cs ≡ rs) × (length rs ≤ MAX_CHILDREN)
few_are cs rs is = few_by (nat_le (length cs) MAX_CHILDREN) cs rs _ refl is

-- what a node over these nodes has to meet, but for crossfades
pub record IsOver (below : List Node) (one : Node) : Type 0 where
  pub children : All (λ child. child < length below) one.children
  pub few : length one.children ≤ MAX_CHILDREN
  pub number : HasChildren one.op (length one.children)
  pub kinds : (number : ℕ) (child : Node) → Contains one.children number → slice_get below number ≡ Some child → HasKind one.op child.kind one.kind
  pub range : IsInRange one.op

below_length : (nodes : List Node) (k : Kind) (n : ℕ) → IsSource nodes k n → n < length nodes
below_length nodes k n s = slice_get_within nodes n s.node s.there

has_kind : (nodes : List Node) (op : Op) (j k : Kind) (n : ℕ) (child : Node) → IsSource nodes j n → slice_get nodes n ≡ Some child → HasKind op j k → HasKind op child.kind k
has_kind nodes op j k n child s there is =
    let same = some_same (sym s.there ∙ there) in
    let kind : j ≡ child.kind = sym s.kind ∙ ap (λ (x : Node). x.kind) same in
    subst (λ (i : Kind). HasKind op i k) kind is

pub list_over : (nodes : List Node) (op : Op) (j k : Kind) (ns : List ℕ) → All (IsSource nodes j) ns → length ns ≤ MAX_CHILDREN → HasChildren op (length ns) → HasKind op j k → IsInRange op → IsOver nodes (node op k ns)
list_over nodes op j k ns all short number kind range = record {
  children = All-weaker (IsSource nodes j) (λ n. n < length nodes) (λ n s. below_length nodes j n s) ns all;
  few = short;
  number = number;
  kinds = λ n child among there. has_kind nodes op j k n child (All-contains (IsSource nodes j) ns n all among) there kind;
  range = range;
}

pub leaf_over : (nodes : List Node) (op : Op) (k : Kind) → HasChildren op 0 → HasKind op k k → IsInRange op → IsOver nodes (node op k [])
leaf_over nodes op k number kind range = list_over nodes op k k [] (All-nil (IsSource nodes k)) (omega arith) number kind range

pub one_over : (nodes : List Node) (op : Op) (j k : Kind) (n : ℕ) → IsSource nodes j n → HasChildren op 1 → HasKind op j k → IsInRange op → IsOver nodes (node op k (n ∷ []))
one_over nodes op j k n s number kind range = list_over nodes op j k (n ∷ []) (All-cons (IsSource nodes j) n [] s (All-nil (IsSource nodes j))) (omega arith) number kind range

pub two_over : (nodes : List Node) (op : Op) (k : Kind) (n m : ℕ) → IsSource nodes k n → IsSource nodes k m → HasChildren op 2 → HasKind op k k → IsInRange op → IsOver nodes (node op k (n ∷ m ∷ []))
two_over nodes op k n m s t number kind range = list_over nodes op k k (n ∷ m ∷ []) (All-cons (IsSource nodes k) n (m ∷ []) s (All-cons (IsSource nodes k) m [] t (All-nil (IsSource nodes k)))) (omega arith) number kind range

sound_with : (one : Node) (m : Machine) → IsOver m.plan.nodes one → IsNoReader one.op → crossfades_from m.plan.nodes one ≤ MAX_CROSSFADES → length m.plan.nodes < MAX_NODES → IsSound m → IsSound (record m { plan = with_node m.plan one })
sound_with one m over reader crossfades room s =
    let longer = length-append m.plan.nodes (one ∷ []) in
    let feeds = s.feeds in
    record {
      well_formed = node_keeps m.plan s.well_formed one reader room (record { children = over.children; few = over.few; number = over.number; kinds = over.kinds; range = over.range; crossfades = crossfades });
      outputs = s.outputs;
      feeds = omega (arith, longer, feeds);
    }

-- what a node that was pushed leaves
pub record Pushed (one : Node) (m : Machine) (x : ℕ × Machine) : Type 0 where
  pub keeps : Keeps m x.1
  pub number : x.0 ≡ length m.plan.nodes
  pub nodes : x.1.plan.nodes ≡ m.plan.nodes ++ one ∷ []

pushed_by : (b : Bool) (one : Node) (m : Machine) (x : ℕ × Machine) → nat_le MAX_NODES (length m.plan.nodes) ≡ b → IsOver m.plan.nodes one → IsNoReader one.op → crossfades_from m.plan.nodes one ≤ MAX_CROSSFADES
    → ◌≡◌ {A = Result (ℕ × Machine) Stop} (elim b [ true ↦ Err TooManySources | false ↦ Ok (length m.plan.nodes, record m { plan = with_node m.plan one }) ]) (Ok x) → Pushed one m x
pushed_by true one m x test over reader crossfades is = absurd cc
pushed_by false one m x test over reader crossfades is =
    let room : length m.plan.nodes < MAX_NODES = grind arith in
    let both = ok_is (length m.plan.nodes, record m { plan = with_node m.plan one }) x is in
    let number : length m.plan.nodes ≡ x.0 = ap (λ (y : ℕ × Machine). y.0) both in
    let state : record m { plan = with_node m.plan one } ≡ x.1 = ap (λ (y : ℕ × Machine). y.1) both in
    let after_it : Keeps m (record m { plan = with_node m.plan one }) = record { sound = sound_with one m over reader crossfades room; nodes = λ i old is. stays m.plan.nodes (one ∷ []) i old is } in
    record {
      keeps = subst (Keeps m) state after_it;
      number = sym number;
      nodes = sym (ap (λ (n : Machine). n.plan.nodes) state);
    }

pub pushed : (one : Node) (m : Machine) (x : ℕ × Machine) → push one m ≡ Ok x → IsOver m.plan.nodes one → IsNoReader one.op → Pushed one m x
unfolding push
pushed one m x is over reader =
    let c = after (at_most MAX_CROSSFADES Crossfades (crossfades_from m.plan.nodes one)) (λ c. elim (nat_le MAX_NODES (length m.plan.nodes)) [ true ↦ Err TooManySources | false ↦ Ok (length m.plan.nodes, record m { plan = with_node m.plan one }) ]) x is in
    let bound = within MAX_CROSSFADES Crossfades (crossfades_from m.plan.nodes one) c.0 c.1 in
    pushed_by (nat_le MAX_NODES (length m.plan.nodes)) one m x refl over reader bound.1 c.2

pub added : (one : Node) (m : Machine) (x : Value × Machine) → add one m ≡ Ok x → IsOver m.plan.nodes one → IsNoReader one.op → Keeps m x.1
unfolding add
added one m x is over reader =
    let p = after (push one m) (λ y. Ok (Source y.0, y.1)) x is in
    let state : p.0.1 ≡ x.1 = ap (λ (y : Value × Machine). y.1) (ok_is (Source p.0.0, p.0.1) x p.2) in
    let done = pushed one m p.0 p.1 over reader in
    subst (Keeps m) state done.keeps

-- the node that was pushed is a source of its kind
pub pushed_source : (one : Node) (m : Machine) (x : ℕ × Machine) → Pushed one m x → IsSource x.1.plan.nodes one.kind x.0
pushed_source one m x p = record {
  node = one;
  there = ap (λ (l : List Node). slice_get l x.0) p.nodes ∙ ap (λ (n : ℕ). slice_get (m.plan.nodes ++ one ∷ []) n) p.number ∙ last_is m.plan.nodes one;
  kind = refl;
}

pub kept_source : (m n : Machine) (k : Kind) (i : ℕ) → Keeps m n → IsSource m.plan.nodes k i → IsSource n.plan.nodes k i
kept_source m n k i keeps s = record { node = s.node; there = keeps.nodes i s.node s.there; kind = s.kind }

-- a buffer with its feed and its reader
sound_buffer : (m : Machine) (s : ℕ) (k : Kind) (b : BufferPlan) → IsSource m.plan.nodes k s → IsBuffer b → length m.plan.nodes < MAX_NODES → IsSound m → IsSound (record m { plan = with_buffer m.plan s k b })
sound_buffer m s k b source is room so =
    let few_nodes = so.well_formed.few_nodes in
    let outputs = so.outputs in
    let feeds = so.feeds in
    let sinks : length m.plan.sinks + 1 < 2 ^ 32 = omega arith in
    let old = buffer_keeps m.plan so.well_formed s source.node source.there b room sinks is in
    let well : IsWellFormed (with_buffer m.plan s k b) = subst (λ (i : Kind). IsWellFormed (with_buffer m.plan s i b)) source.kind old in
    let more_sinks = length-append m.plan.sinks (Feed (length m.plan.buffers) s ∷ []) in
    let more_nodes = length-append m.plan.nodes (reader_of (length m.plan.buffers) k ∷ []) in
    let count = count_feed m.plan.sinks (length m.plan.buffers) s in
    record {
      well_formed = well;
      outputs = omega (arith, count, outputs);
      feeds = omega (arith, more_sinks, more_nodes, count, feeds);
    }

buffered_by : (t : Bool) (m : Machine) (s : ℕ) (k : Kind) (b : BufferPlan) (x : Value × Machine) → nat_le MAX_NODES (length m.plan.nodes) ≡ t → IsSource m.plan.nodes k s → IsBuffer b
    → ◌≡◌ {A = Result (Value × Machine) Stop} (elim t [ true ↦ Err TooManySources | false ↦ Ok (Source (length m.plan.nodes), record m { plan = with_buffer m.plan s k b }) ]) (Ok x) → Keeps m x.1
buffered_by true m s k b x test source is done = absurd cc
buffered_by false m s k b x test source is done =
    let room : length m.plan.nodes < MAX_NODES = grind arith in
    let state : record m { plan = with_buffer m.plan s k b } ≡ x.1 = ap (λ (y : Value × Machine). y.1) (ok_is (Source (length m.plan.nodes), record m { plan = with_buffer m.plan s k b }) x done) in
    let after_it : Keeps m (record m { plan = with_buffer m.plan s k b }) = record { sound = sound_buffer m s k b source is room; nodes = λ i old there. stays m.plan.nodes (reader_of (length m.plan.buffers) k ∷ []) i old there } in
    subst (Keeps m) state after_it

pub buffered : (m : Machine) (s : ℕ) (k : Kind) (b : BufferPlan) (x : Value × Machine) → add_buffer s k b m ≡ Ok x → IsSource m.plan.nodes k s → IsBuffer b → Keeps m x.1
unfolding add_buffer
buffered m s k b x done source is = buffered_by (nat_le MAX_NODES (length m.plan.nodes)) m s k b x refl source is done

-- an output
sound_output : (m : Machine) (name : List ℕ) (s : ℕ) (b w : Bool) → s < length m.plan.nodes → count_by is_output m.plan.sinks < MAX_OUTPUTS → IsSound m → IsSound (record m { plan = with_output m.plan name s b w })
sound_output m name s b w there few_outputs so =
    let few_nodes = so.well_formed.few_nodes in
    let outputs = so.outputs in
    let feeds = so.feeds in
    let sinks : length m.plan.sinks + 1 < 2 ^ 32 = omega arith in
    let more_sinks = length-append m.plan.sinks (Output name s b w ∷ []) in
    let count = count_output m.plan.sinks name s b w in
    record {
      well_formed = output_keeps m.plan so.well_formed name s b w sinks there;
      outputs = omega (arith, count, few_outputs);
      feeds = omega (arith, more_sinks, count, feeds);
    }

put_by : (t u : Bool) (m : Machine) (name : List ℕ) (s : ℕ) (b w : Bool) (x : Value × Machine) → nat_lt (count_by is_output m.plan.sinks) MAX_OUTPUTS ≡ u → s < length m.plan.nodes
    → ◌≡◌ {A = Result (Value × Machine) Stop} (elim t [ true ↦ Err (SameOutput name) | false ↦ elim u [ true ↦ Ok (UnitValue, record m { plan = with_output m.plan name s b w }) | false ↦ Err (TooLarge Outputs) ] ]) (Ok x) → Keeps m x.1
put_by true u m name s b w x test there is = absurd cc
put_by false false m name s b w x test there is = absurd cc
put_by false true m name s b w x test there is =
    let few_outputs : count_by is_output m.plan.sinks < MAX_OUTPUTS = grind arith in
    let state : record m { plan = with_output m.plan name s b w } ≡ x.1 = ap (λ (y : Value × Machine). y.1) (ok_is (UnitValue, record m { plan = with_output m.plan name s b w }) x is) in
    let after_it : Keeps m (record m { plan = with_output m.plan name s b w }) = record { sound = sound_output m name s b w there few_outputs; nodes = λ i old is. is } in
    subst (Keeps m) state after_it

pub put_output : (m : Machine) (name : List ℕ) (s : ℕ) (b w : Bool) (k : Kind) (x : Value × Machine) → add_output name s b w m ≡ Ok x → IsSource m.plan.nodes k s → Keeps m x.1
unfolding add_output
put_output m name s b w k x is source = put_by (list_any (is_named name) m.plan.sinks) (nat_lt (count_by is_output m.plan.sinks) MAX_OUTPUTS) m name s b w x refl (below_length m.plan.nodes k s source) is
