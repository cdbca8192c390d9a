-- The edges: from a source to the one that plays it, to an output, and through a buffer.
use Rattle.std.specs.Prelude.{ℕ, ◌+◌, ◌*◌, Bool, true, false, Option, List, [], ◌++◌, codes, decimal, length, nat_eq, nat_lt, slice_get, Result}
use Rattle.std.specs.Option.{option_map_or}
use Rattle.time_pred.specs.Predicates.{Predicate}
use Rattle.plan_core.specs.declared.node.Node.{Node}
use Rattle.plan_core.specs.declared.node.Op.{Op}
use Rattle.plan_core.specs.declared.node.Op.TheVariants.{Switch, Add}
use Rattle.plan_core.specs.declared.plan.Plan.{Plan}
use Rattle.plan_core.specs.declared.sink.BufferPlan.{BufferPlan}
use Rattle.plan_core.specs.declared.sink.SinkPlan.{SinkPlan}
use Rattle.plan_core.specs.declared.sink.SinkPlan.TheVariants.{Output, Feed}
use Rattle.plan_core.specs.Plans.{buffer_read}
use Rattle.clock_infer.specs.declared.clock_map.ClockMap.{ClockMap}
use Rattle.clock_infer.specs.declared.clock_map.ClockFault.{ClockFault}
use Rattle.plan_blames.specs.Texts.{numbered}
use Rattle.plan_picture.specs.Numbers.{seconds}
use Rattle.plan_picture.specs.Predicates.{pred_text, shown}
use Rattle.plan_blames.specs.Blames.{edge_red}
use Rattle.plan_picture.specs.Boxes.{is_refused, output_box}

-- the predicate at this place among those of a switch, as an edge shows it (cut where it is long); no text past the
-- last
abbrev pub pred_at : List Predicate → (place : ℕ) → List ℕ
pred_at preds place = option_map_or (λ pred. shown (pred_text false pred)) (slice_get preds place) []

-- the label of an edge with the child's place, counted from 1, if there are several
abbrev pub place_label : (many : Bool) → (place : ℕ) → List ℕ
place_label true place = codes "label=\" " ++ decimal (place + 1) ++ codes " \""
place_label false place = []

-- The graphviz label of an edge into a source with this operator, from its child at this place of `count`. An edge into
-- a switch shows the predicate, and any other the place where there are several; an edge into a sum shows nothing.
abbrev pub edge_label : Op → (count place : ℕ) → List ℕ
edge_label (Switch sensitive preds) count place = codes "label=\" " ++ (pred_at preds place ++ codes " \"")
edge_label (Add normalize) count place = []
edge_label _ count place = place_label (nat_lt 1 count) place

-- the graphviz attributes that draw an edge in red, where it is to blame for a fault; none else
abbrev pub edge_style : (red : Bool) → List ℕ
edge_style true = codes " color=\"#b3261e\" penwidth=2"
edge_style false = []

-- the beginning of an edge's graphviz text: from the box of which source it goes to the box of which
abbrev pub edge_ends : (from to : ℕ) → List ℕ
edge_ends from to = (codes "n" ++ decimal from) ++ (codes " -> n" ++ decimal to)

-- the graphviz text of the edge to source k, whose operator is `op`, from the child at this place among its `count`
-- children
abbrev pub child_edge : Op → (count k child place : ℕ) → (red : Bool) → List ℕ
child_edge op count k child place red = edge_ends child k
    ++ (codes " [" ++ (edge_label op count place ++ (edge_style red ++ codes "];\n")))

-- The graphviz text of the edges to source k, whose operator is `op`, from its children. If the plan is refused since
-- an output may fall silent (`silent`), `reds` says which sources are to blame; the result has the plan's clocks, or
-- why it has none.
abbrev pub child_edges : (silent : Bool) → (reds : List Bool) → Result ClockMap ClockFault → (k : ℕ) → Op
    → (children : List ℕ) → List ℕ
child_edges silent reds clocks k op children = numbered
    (λ place child. child_edge op (length children) k child place (edge_red silent reds clocks k child)) 0 children

-- The graphviz text of the edges between sources, each once. If the plan is refused since an output may fall silent
-- (`silent`), `reds` says which sources are to blame; the result has the plan's clocks, or why it has none.
abbrev pub node_edges : List Node → (silent : Bool) → (reds : List Bool) → Result ClockMap ClockFault → List ℕ
node_edges nodes silent reds clocks = numbered (λ k node. child_edges silent reds clocks k node.op node.children) 0
    nodes

-- the graphviz text of the edge from source `node` to output k, red where the output was refused
abbrev pub output_edge : (k node : ℕ) → (red : Bool) → List ℕ
output_edge k node red = (codes "n" ++ decimal node)
    ++ ((codes " -> s" ++ decimal k) ++ (codes " [" ++ (edge_style red ++ codes "];\n")))

-- whether a source of this operator plays what the buffer of this number holds
abbrev pub reads : Op → (buffer : ℕ) → Bool
reads op buffer = option_map_or (λ read. nat_eq read buffer) (buffer_read op) false

-- how much a buffer of this size holds at most, as the label of its edge says it: how many chunks, and for how long
abbrev pub capacity : Plan → BufferPlan → List ℕ
capacity plan size = (codes "  at most " ++ decimal size.capacity)
    ++ (codes " chunks, " ++ (seconds (size.capacity * plan.frame) plan.rate ++ codes "  "))

-- the label of the edge through a buffer of the plan: how much it holds at most; no text if the plan has no such
-- buffer
abbrev pub buffer_label : Plan → (buffer : ℕ) → List ℕ
buffer_label plan buffer = option_map_or (capacity plan) (slice_get plan.buffers buffer) []

-- The graphviz text of the thick edge through a buffer, from the source `node` that feeds it to source k, if k is the
-- one that plays from it (`is_reader`); else nothing.
abbrev pub through : (is_reader : Bool) → Plan → (buffer node k : ℕ) → List ℕ
through true plan buffer node k = edge_ends node k
    ++ (codes " [style=bold, color=\"#7a4a00\", fontcolor=\"#7a4a00\", penwidth=2.5, label=\""
    ++ (buffer_label plan buffer ++ codes "\"];\n"))
through false plan buffer node k = []

-- The graphviz text of the edge that a feed makes: from the source `node` that fills the buffer, through it, to the
-- source among `nodes` that reads it.
abbrev pub feed_edges : Plan → List Node → (buffer node : ℕ) → List ℕ
feed_edges plan nodes buffer node = numbered (λ k reader. through (reads reader.op buffer) plan buffer node k) 0 nodes

-- The graphviz text of sink k: an output's box with the edge to it, or the edge of a feed through its buffer. `mark`
-- says which sources always offer something, and `refused` is the number of the sink that was refused, if one was.
abbrev pub sink_text : Plan → (mark : ℕ → Bool) → (refused : Option ℕ) → (k : ℕ) → SinkPlan → List ℕ
sink_text plan mark refused k (Output name node fallible wide) = output_box k name fallible (mark node)
    (is_refused refused k) ++ output_edge k node (is_refused refused k)
sink_text plan mark refused k (Feed buffer node) = feed_edges plan plan.nodes buffer node

-- The graphviz text of the outputs with the edges to them, and of the edges through buffers. `mark` says which sources
-- always offer something, and `refused` is the number of the sink that was refused, if one was.
abbrev pub sink_texts : Plan → List SinkPlan → (mark : ℕ → Bool) → (refused : Option ℕ) → List ℕ
sink_texts plan sinks mark refused = numbered (sink_text plan mark refused) 0 sinks
