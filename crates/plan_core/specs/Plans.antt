-- Well-formed plans.
use Rattle.std.specs.Prelude.{◌≡◌, ◌≢◌, ℕ, ◌+◌, ◌^◌, ◌<◌, ◌≤◌, ◌<ℤ◌, pos, ⊤, Option, Some, None, List, [], ◌∷◌, ◌++◌, length, map, take, max, slice_get, slice_index, Bool, true, false, All, Contains}
use Rattle.std.specs.Option.{option_map_or}
use Rattle.liq_base.specs.declared.limits.TheConstants.{MIN_RATE, MAX_RATE, MAX_FRAME, MAX_NODES, MAX_CHILDREN, MAX_CROSSFADES, MAX_OVERLAP, MAX_PREFILL, MAX_CAPACITY}
use Rattle.liq_base.specs.declared.memory.Kind.{Kind}
use Rattle.liq_base.specs.declared.memory.Kind.TheVariants.{Mono}
use Rattle.plan_core.specs.declared.node.Node.{Node}
use Rattle.plan_core.specs.declared.node.Op.{Op}
use Rattle.plan_core.specs.declared.node.Op.TheVariants.{Single, Playlist, Blank, Square, Fail, Switch, Amplify, Mean, Stereo, Crossfade, Buffer, Clock}
use Rattle.plan_core.specs.declared.plan.Plan.{Plan}
use Rattle.plan_core.specs.declared.sink.BufferPlan.{BufferPlan}
use Rattle.plan_core.specs.declared.sink.SinkPlan.{SinkPlan}
use Rattle.plan_core.specs.declared.sink.SinkPlan.TheVariants.{Output, Feed}

-- how many children a node of this operator has: a leaf and a reader none, a switch one for each predicate, what changes
-- a child or gives it a clock one, and any other as many as there are
abbrev pub HasChildren : Op → ℕ → Type 0
HasChildren (Single file) n = n ≡ 0
HasChildren (Playlist file again) n = n ≡ 0
HasChildren (Blank track) n = n ≡ 0
HasChildren (Square pitch) n = n ≡ 0
HasChildren Fail n = n ≡ 0
HasChildren (Buffer number) n = n ≡ 0
HasChildren (Switch sensitive preds) n = n ≡ length preds
HasChildren (Amplify factor) n = n ≡ 1
HasChildren Mean n = n ≡ 1
HasChildren Stereo n = n ≡ 1
HasChildren (Crossfade overlap) n = n ≡ 1
HasChildren (Clock id) n = n ≡ 1
HasChildren _ n = ⊤

-- the kind of a node of this operator, over children of a kind: the children's, but a mean is mono over stereo, and a
-- stereo is stereo over mono
abbrev pub HasKind : Op → (children : Kind) → Kind → Type 0
HasKind Mean children kind = (children ≡ Kind.Stereo) × (kind ≡ Mono)
HasKind Stereo children kind = (children ≡ Mono) × (kind ≡ Kind.Stereo)
HasKind _ children kind = kind ≡ children

-- the numbers of an operator are in range: the pitch of a square wave is above 0, and an overlap is from 1 to
-- MAX_OVERLAP
abbrev pub IsInRange : Op → Type 0
IsInRange (Square pitch) = pos 0 <ℤ pitch.millionths
IsInRange (Crossfade overlap) = (1 ≤ overlap) × (overlap ≤ MAX_OVERLAP)
IsInRange _ = ⊤

-- how many crossfades a node of this operator is itself: 1 for a crossfade, 0 for any other
abbrev pub own_crossfades : Op → ℕ
own_crossfades (Crossfade overlap) = 1
own_crossfades _ = 0

-- the buffer that a node of this operator reads: only a reader reads one
abbrev pub buffer_read : Op → Option ℕ
buffer_read (Buffer number) = Some number
buffer_read _ = None

-- an operator is any but that of a reader of a buffer
abbrev pub IsNoReader : Op → Type 0
IsNoReader op = (buffer : ℕ) → op ≢ Buffer buffer

-- whether a sink of a plan is an output to a file, and no feed of a buffer
abbrev pub is_output : SinkPlan → Bool
is_output (Output name node fallible wide) = true
is_output (Feed buffer node) = false

-- the number of the node whose cells an output writes or a feed gives to a buffer
abbrev pub sink_node : SinkPlan → ℕ
sink_node (Output name node fallible wide) = node
sink_node (Feed buffer node) = node

-- the greatest of some numbers, or 0
abbrev pub greatest : List ℕ → ℕ
greatest [] = 0
greatest (n ∷ ns) = max n (greatest ns)

-- the most crossfades on a path down from a node, itself among them, where `counts` has that number for each node below
abbrev pub crossfades_over : List ℕ → Node → ℕ
crossfades_over counts node = own_crossfades node.op + greatest (map (λ child. slice_index counts child) node.children)

-- the counts of crossfades with those of further nodes behind them, each reckoned by the counts before it
abbrev pub counts_after : List ℕ → List Node → List ℕ
counts_after counts [] = counts
counts_after counts (node ∷ nodes) = counts_after (counts ++ crossfades_over counts node ∷ []) nodes

-- for each node, the most crossfades on a path down from it, itself among them
abbrev pub crossfade_counts : List Node → List ℕ
crossfade_counts nodes = counts_after [] nodes

-- the most crossfades on a path down from a node that is added over these nodes, itself among them
abbrev pub crossfades_from : List Node → Node → ℕ
crossfades_from nodes node = crossfades_over (crossfade_counts nodes) node

-- what a node of a well-formed plan has to meet, whose children are among the nodes `below`
pub record IsNodeOver (below : List Node) (node : Node) : Type 0 where
  pub children : All (λ child. child < length below) node.children
  pub few : length node.children ≤ MAX_CHILDREN
  pub number : HasChildren node.op (length node.children)
  pub kinds : (number : ℕ) (child : Node) → Contains node.children number → slice_get below number ≡ Some child
      → HasKind node.op child.kind node.kind
  pub range : IsInRange node.op
  pub crossfades : crossfades_from below node ≤ MAX_CROSSFADES

-- each node of the list meets what nodes of a well-formed plan have to meet, over the ones before it
abbrev pub AreNodes : List Node → Type 0
AreNodes nodes = (i : ℕ) (node : Node) → slice_get nodes i ≡ Some node → IsNodeOver (take i nodes) node

-- sink i is a feed of the buffer from this node
abbrev pub FeedsFrom : Plan → (buffer i node : ℕ) → Type 0
FeedsFrom plan buffer i node = slice_get plan.sinks i ≡ Some (Feed buffer node)

-- sink i is a feed of the buffer, from some node
abbrev pub FeedsBuffer : Plan → (buffer i : ℕ) → Type 0
FeedsBuffer plan buffer i = (node : ℕ) × FeedsFrom plan buffer i node

-- node i reads the buffer
abbrev pub ReadsBuffer : Plan → (buffer i : ℕ) → Type 0
ReadsBuffer plan buffer i = (reader : Node) × (slice_get plan.nodes i ≡ Some reader) × (reader.op ≡ Buffer buffer)

-- exactly one number has the property `such`: one has it, and any other that has it is the same
abbrev pub IsOfOne : (ℕ → Type 0) → Type 0
IsOfOne such = (i : ℕ) × such i × ((j : ℕ) → such j → j ≡ i)

-- each reader of a buffer is mono or stereo as the node is that feeds the buffer
abbrev pub ReadersHaveKind : Plan → Type 0
ReadersHaveKind plan = (buffer i j node : ℕ) (reader source : Node) → slice_get plan.nodes i ≡ Some reader
    → reader.op ≡ Buffer buffer → FeedsFrom plan buffer j node → slice_get plan.nodes node ≡ Some source
    → reader.kind ≡ source.kind

-- a buffer's prefill and capacity are in range
abbrev pub IsBuffer : BufferPlan → Type 0
IsBuffer buffer = (buffer.pre ≤ MAX_PREFILL) × (1 ≤ buffer.capacity) × (buffer.capacity ≤ MAX_CAPACITY)

-- What every call that takes a plan may rely on: its numbers are in range, its nodes stand over those before them, and
-- each buffer has one feed and one reader.
pub record IsWellFormed (plan : Plan) : Type 0 where
  pub rate : (MIN_RATE ≤ plan.rate) × (plan.rate ≤ MAX_RATE)
  pub frame : (1 ≤ plan.frame) × (plan.frame ≤ MAX_FRAME)
  pub few_nodes : length plan.nodes ≤ MAX_NODES
  pub few_sinks : length plan.sinks < 2 ^ 32
  pub nodes : AreNodes plan.nodes
  pub sinks : All (λ sink. sink_node sink < length plan.nodes) plan.sinks
  pub buffers : All IsBuffer plan.buffers
  pub fed : (buffer i : ℕ) → FeedsBuffer plan buffer i → buffer < length plan.buffers
  pub read : (buffer i : ℕ) → ReadsBuffer plan buffer i → buffer < length plan.buffers
  pub one_feed : (buffer : ℕ) → buffer < length plan.buffers → IsOfOne (FeedsBuffer plan buffer)
  pub one_reader : (buffer : ℕ) → buffer < length plan.buffers → IsOfOne (ReadsBuffer plan buffer)
  pub readers : ReadersHaveKind plan

-- the plan with one more node
abbrev pub with_node : Plan → Node → Plan
with_node plan node = record plan { nodes = plan.nodes ++ node ∷ [] }

-- the plan with one more output, to the file of this name, of the cells of this node; `fallible` says that it may have
-- gaps, and `wide` that its samples have 24 bits
abbrev pub with_output : Plan → (name : List ℕ) (node : ℕ) (fallible wide : Bool) → Plan
with_output plan name node fallible wide = record plan { sinks = plan.sinks ++ Output name node fallible wide ∷ [] }

-- the node that reads a buffer of this number, mono or stereo as `kind` says
abbrev pub reader_of : (buffer : ℕ) → Kind → Node
reader_of buffer kind = record { op = Buffer buffer; kind = kind; children = [] }

-- the plan with one more buffer, a feed of it from node `source`, and a node that reads it and is of this kind
abbrev pub with_buffer : Plan → (source : ℕ) → Kind → BufferPlan → Plan
with_buffer plan source kind buffer = record plan {
  nodes = plan.nodes ++ reader_of (length plan.buffers) kind ∷ [];
  sinks = plan.sinks ++ Feed (length plan.buffers) source ∷ [];
  buffers = plan.buffers ++ buffer ∷ [];
}

-- a path down from node i: a child of it, a child of that one, and so on
abbrev pub IsPathDown : List Node → ℕ → List ℕ → Type 0
IsPathDown nodes i [] = i < length nodes
IsPathDown nodes i (child ∷ path) = ((node : Node) × (slice_get nodes i ≡ Some node) × Contains node.children child)
    × IsPathDown nodes child path

-- 1 if node i is a crossfade, else 0
abbrev pub crossfades_at : List Node → ℕ → ℕ
crossfades_at nodes i = option_map_or (λ node. own_crossfades node.op) (slice_get nodes i) 0

-- how many crossfades a path has, with the node that it goes down from
abbrev pub crossfades_on : List Node → ℕ → List ℕ → ℕ
crossfades_on nodes i [] = crossfades_at nodes i
crossfades_on nodes i (child ∷ path) = crossfades_at nodes i + crossfades_on nodes child path
