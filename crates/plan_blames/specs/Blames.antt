-- What is red in a picture, and why.
use Rattle.std.specs.Prelude.{ℕ, suc, Bool, true, false, not, ◌&&◌, ◌||◌, List, [], ◌∷◌, ◌++◌, codes, decimal, nat_eq, slice_get, if◌then◌else◌, Result, Ok, Err}
use Rattle.std.specs.List.{list_any, zip}
use Rattle.std.specs.Option.{option_map_or}
use Rattle.std.specs.Str.{bytes_eq}
use Rattle.plan_core.specs.declared.node.Node.{Node}
use Rattle.plan_core.specs.declared.node.Op.{Op}
use Rattle.plan_core.specs.declared.node.Op.TheVariants.{Playlist, Fail, Switch, Buffer, Clock}
use Rattle.plan_core.specs.declared.sink.SinkPlan.{SinkPlan}
use Rattle.plan_core.specs.Plans.{sink_node}
use Rattle.time_pred.specs.Predicates.{is_always}
use Rattle.fallible_infer.specs.Infallible.{mark_at}
use Rattle.clock_infer.specs.declared.clock_map.ClockMap.{ClockMap}
use Rattle.clock_infer.specs.declared.clock_map.ClockName.{ClockName}
use Rattle.clock_infer.specs.declared.clock_map.ClockName.TheVariants.{Named, AnyMain}
use Rattle.clock_infer.specs.declared.clock_map.ClockFault.{ClockFault}
use Rattle.clock_infer.specs.declared.clock_map.ClockFault.TheVariants.{TwoClocks, Nested, TooManyClocks, Memory}
use Rattle.clock_forcings.specs.Forcings.{id_or}
use Rattle.plan_blames.specs.Needs.{needs}
use Rattle.plan_blames.specs.Texts.{escaped}

-- Whether a picture shows source n red for a silence. It is the source `refused`, of an output that may fall silent; or
-- it may offer nothing itself (`mark` is false) and a red source needs it. `behind` are the sources with greater
-- numbers, and `reds` says of each whether it is red.
abbrev pub is_to_blame : (mark : ℕ → Bool) → (refused n : ℕ) → (behind : List Node) → (reds : List Bool) → Bool
is_to_blame mark refused n behind reds = nat_eq n refused
    || (not (mark n) && list_any (λ pair. pair.1 && needs (pair.0).op (pair.0).children n) (zip behind reds))

-- Of each of these sources, the first of which has number n, whether a picture shows it red for a silence. `refused` is
-- the source of an output that may fall silent; `mark` says whether a source always offers something.
abbrev pub reds_from : (mark : ℕ → Bool) → (refused n : ℕ) → List Node → List Bool
reds_from mark refused n [] = []
reds_from mark refused n (node ∷ nodes) = is_to_blame mark refused n nodes (reds_from mark refused (suc n) nodes)
    ∷ reds_from mark refused (suc n) nodes

-- the line of a source without children: that it has nothing to play
abbrev pub childless_words : (children : List ℕ) → List ℕ
childless_words [] = codes "\\nhas nothing to play"
childless_words (child ∷ children) = []

-- why a red source of this operator may offer nothing, if the cause lies in itself and not in a child: a line of its
-- label in the picture
abbrev pub reason : Op → (children : List ℕ) → List ℕ
reason (Playlist file again) children = codes "\\nmay have no file to play"
reason (Buffer number) children = codes "\\nmay run dry"
reason Fail children = codes "\\nnever plays"
reason (Switch sensitive preds) children = if list_any is_always preds then [] else codes "\\nno case is always true"
reason _ children = childless_words children

-- how a picture calls a clock that was asked for: its id, the crossfade whose own clock it is, or an output
abbrev pub name_text : ClockName → List ℕ
name_text (Named id) = escaped id
name_text (ClockName.Sub k) = codes "crossfade " ++ decimal k
name_text AnyMain = codes "an output"

-- how a picture calls two clocks that were both asked for, for one source: their names with `and` between
abbrev pub both_names : (first second : ClockName) → List ℕ
both_names first second = name_text first ++ (codes " and " ++ name_text second)

-- whether source k is a clock node of this id
abbrev pub clock_asks : (id : List ℕ) → (k : ℕ) → Op → Bool
clock_asks id k (Clock written) = bytes_eq id (id_or k written)
clock_asks id k _ = false

-- whether source k is one that asks for this clock: it is a clock node of this id, or this crossfade
abbrev pub asks : ClockName → (k : ℕ) → Op → Bool
asks (Named id) k op = clock_asks id k op
asks (ClockName.Sub j) k op = nat_eq j k
asks AnyMain k op = false

-- whether source k asks for one of these two clocks, which would both drive one source
abbrev pub either_asks : (first second : ClockName) → (k : ℕ) → Op → Bool
either_asks first second k op = asks first k op || asks second k op

-- the line in the label of source k that says which clock it wants for what it plays: a clock node the one of its id,
-- and another its own
abbrev pub asking : (k : ℕ) → Op → List ℕ
asking k (Clock id) = codes "\\nwants clock " ++ (escaped (id_or k id) ++ codes " for what it plays")
asking k _ = codes "\\nwants its own clock for what it plays"

-- whether a picture shows source k red for a fault of clocks: it has that fault, or asks for one of the two clocks in
-- it
abbrev pub clock_red : Result ClockMap ClockFault → (k : ℕ) → Op → Bool
clock_red (Ok map) k op = false
clock_red (Err (TwoClocks node first second)) k op = either_asks first second k op || nat_eq node k
clock_red (Err (Nested node)) k op = nat_eq node k
clock_red (Err TooManyClocks) k op = false
clock_red (Err Memory) k op = false

-- the line in the label of the source that two clocks would drive, with the names of both; nothing for any other source
abbrev pub shared_words : (is_it : Bool) → (first second : ClockName) → List ℕ
shared_words true first second = codes "\\nE26 under clocks " ++ both_names first second
shared_words false first second = []

-- the line in the label of source k that says which clock it wants, if it asks for one of the two that would drive one
-- source; otherwise nothing
abbrev pub asking_words : (asks : Bool) → (k : ℕ) → Op → List ℕ
asking_words true k op = asking k op
asking_words false k op = []

-- the line in the label of the crossfade that lies in its own clock; nothing for any other source
abbrev pub nested_words : (is_it : Bool) → List ℕ
nested_words true = codes "\\nE27 lies in its own clock"
nested_words false = []

-- the lines in the label of source k that tell its part in a fault of clocks; none if it has no part in it
abbrev pub clock_words : Result ClockMap ClockFault → (k : ℕ) → Op → List ℕ
clock_words (Ok map) k op = []
clock_words (Err (TwoClocks node first second)) k op = shared_words (nat_eq node k) first second
    ++ asking_words (either_asks first second k op) k op
clock_words (Err (Nested node)) k op = nested_words (nat_eq node k)
clock_words (Err TooManyClocks) k op = []
clock_words (Err Memory) k op = []

-- Whether a picture shows source k red. If the plan is refused for a silence (`silent`), `reds` says so of each source;
-- otherwise it is red for its part in a fault of clocks.
abbrev pub node_red : (silent : Bool) → (reds : List Bool) → Result ClockMap ClockFault → (k : ℕ) → Op → Bool
node_red true reds clocks k op = mark_at reds k
node_red false reds clocks k op = clock_red clocks k op

-- the line in the label of a source that is red for a silence: why it may offer nothing, if the cause lies in itself;
-- nothing for a source that is not red
abbrev pub reason_words : (red : Bool) → Node → List ℕ
reason_words true node = reason node.op node.children
reason_words false node = []

-- The lines in the label of source k that say why it is red. If the plan is refused for a silence (`silent`), it is why
-- it may offer nothing; otherwise it is its part in a fault of clocks.
abbrev pub red_words : (silent red : Bool) → Result ClockMap ClockFault → (k : ℕ) → Node → List ℕ
red_words true red clocks k node = reason_words red node
red_words false red clocks k node = clock_words clocks k node.op

-- Whether a picture shows the edge from this child to source k red. If the plan is refused for a silence (`silent`), it
-- is if both are red, by `reds`; otherwise, if k is a crossfade that lies in its own clock.
abbrev pub edge_red : (silent : Bool) → (reds : List Bool) → Result ClockMap ClockFault → (k child : ℕ) → Bool
edge_red true reds clocks k child = mark_at reds k && mark_at reds child
edge_red false reds (Err (Nested node)) k child = nat_eq node k
edge_red false reds _ k child = false

-- the number of the source that plays into sink number `sink`, which was refused; 0 where there is no such sink
abbrev pub refused_node : List SinkPlan → (sink : ℕ) → ℕ
refused_node sinks sink = option_map_or (λ s. sink_node s) (slice_get sinks sink) 0
