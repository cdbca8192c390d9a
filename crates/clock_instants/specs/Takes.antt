-- What the readers of a clock take where it begins a tick. `front` are the answers that were taken before.
use Rattle.std.specs.Prelude.{◌≡◌, ◌<◌, ℕ, zero, suc, Bool, true, Some, List, [], ◌&&◌, ◌%◌, length, nat_eq, slice_get, slice_index_or, if◌then◌else◌}
use Rattle.plan_core.specs.declared.node.Node.{Node}
use Rattle.plan_core.specs.declared.node.Op.TheVariants.{Buffer}
use Rattle.plan_core.specs.declared.plan.Plan.{Plan}
use Rattle.clock_infer.specs.declared.clock_map.NodeClock.{NodeClock}
use Rattle.clock_infer.specs.declared.clock_map.NodeClock.TheVariants.{Main, Sub}
use Rattle.frame_core.specs.Slots.{Slot}
use Rattle.frame_core.specs.Calls.{Adds, Call, Answer}
use Rattle.stream_meaning.specs.Operators.{Work, Reads}
use Rattle.stream_meaning.specs.Instants.{Setting, Moment, lies_in, reading_after, work_at}
use Rattle.stream_meaning.specs.Calls.{HasAnswers, IsBegin, after_calls, answers_in, joined_upto, takes_by, takes_in}
use Rattle.node_states.specs.declared.state.NodeState.{NodeState}
use Rattle.node_states.specs.States.{StateStands, reading_by, reads_at, reads}
use Rattle.clock_nodes.specs.declared.scene.Scene.{Scene}
use Rattle.clock_nodes.specs.Scenes.{setting_over}
use Rattle.clock_nodes.specs.States.{ClockStands, IsIn}

-- node i of a plan is a reader: it plays the cells that others have put to a buffer
pub record IsReader (plan : Plan) (i : ℕ) : Type 0 where
  pub buffer : ℕ
  pub node : Node
  pub found : slice_get plan.nodes i ≡ Some node
  pub reads : node.op ≡ Buffer buffer

-- node i lies in a clock, or below it: `rank` says through how many crossfades, each of which drives a sub-clock
abbrev pub IsUnder : List NodeClock → NodeClock → (rank i : ℕ) → Type 0
IsUnder clocks clock zero i = slice_index_or clocks i (Main 0) ≡ clock
IsUnder clocks clock (suc rank) i = (k : ℕ) × (slice_index_or clocks i (Main 0) ≡ Sub k) × IsUnder clocks clock rank k

-- a clock, or a sub-clock below it, has a reader: a node that plays what was put to a buffer
pub record HasReader (plan : Plan) (clocks : List NodeClock) (clock : NodeClock) : Type 0 where
  pub rank : ℕ
  pub i : ℕ
  pub under : IsUnder clocks clock rank i
  pub reader : IsReader plan i

-- each reader of a plan reads one of the first `buffers` buffers, so that its buffer is there
pub record ReadersAreIn (plan : Plan) (buffers : ℕ) : Type 0 where
  pub each : (i buffer : ℕ) (node : Node) → slice_get plan.nodes i ≡ Some node → node.op ≡ Buffer buffer
      → buffer < buffers

-- no buffer has two readers: two nodes that read the same buffer are one
pub record HasOwnReaders (setting : Setting) : Type 0 where
  pub each : (i j buffer : ℕ) (one other : Node) → slice_get setting.plan.nodes i ≡ Some one
      → slice_get setting.plan.nodes j ≡ Some other
      → work_at setting i one ≡ Reads buffer → work_at setting j other ≡ Reads buffer → i ≡ j

-- how many instants a node has begun after one more of its clock, where it had begun `filled`: as a reader (true) one
-- more, as any other node no more
abbrev pub begun_by : Bool → ℕ → ℕ
begun_by reading filled = if reading then suc filled else filled

-- How many slots node i has got as a crossfade, or instants it has begun as a reader, after the readers of a clock have
-- begun one instant more; `filled` has by node how many before. Only these readers have one more.
abbrev pub begun_in : Setting → NodeClock → (filled : ℕ → ℕ) → ℕ → ℕ
begun_in setting clock filled i = begun_by (lies_in setting clock i && reads_at setting i) (filled i)

-- Before the readers of a clock begin the instant after `past`: by `filled`, a count by node, they have begun the
-- instants of `past`. `front` has for each buffer just the answers that were taken from it.
pub record HaveTaken (setting : Setting) (clock : NodeClock) (past : List Moment) (filled : ℕ → ℕ) (front : ℕ
    → List Answer) : Type 0 where
  pub even : (i : ℕ) → lies_in setting clock i ≡ true → reads_at setting i ≡ true → filled i ≡ length past
  pub taken : (i buffer : ℕ) (node : Node) → IsIn setting clock i node → work_at setting i node ≡ Reads buffer
      → (reading_after setting i buffer past).taken ≡ length (front buffer)

-- Node i, which does this work, has begun the instant after `past` with the takes `more`, those that are due there. Its
-- state stands for the instant, and the takes got the answers behind `front`, those taken before by buffer. Of a
-- crossfade `filled` counts the slots that it got, of a reader the instants begun before.
pub record HasBegun (setting : Setting) (sub : ℕ → ℕ
    → List Slot) (past : List Moment) (filled i : ℕ) (work : Work) (front : ℕ → List Answer)
    (more : List Call) (state : NodeState) : Type 0 where
  pub stands : StateStands setting sub past (begun_by (reads work) filled) i work state
  pub calls : more ≡ takes_by setting past i work
  pub taken : (buffer : ℕ) → work ≡ Reads buffer
      → (reading_by setting i buffer past (suc (length past))).taken ≡ length (after_calls front more buffer)
  pub others : (buffer : ℕ) → (work ≡ Reads buffer → ⊥) → answers_in buffer more ≡ []

-- Node i has begun a tick: it made all takes of its buffer that are due. The taps, which were `taps_old` and are
-- `taps_new`, got them as further calls; `stands` says for which calls taps stand. This holds for all instants that its
-- state `old` can stand for; `scene` is the plan with its files and clocks.
pub record NodeBegan {T : Type 0} (stands : T → List Call
    → Type 0) (scene : Scene) (i : ℕ)
    (old new : NodeState) (taps_old taps_new : T) : Type 0 where
  pub more : List Call
  pub taps : Adds stands taps_old taps_new more
  pub begun : (other : Setting) (sub : ℕ → ℕ → List Slot) (past : List Moment) (filled : ℕ) (node : Node) (front : ℕ
      → List Answer) →
      let setting = setting_over scene other in
      slice_get scene.plan.now.nodes i ≡ Some node → nat_eq (length past % setting.plan.frame) 0 ≡ true
      → HasAnswers setting (after_calls front more)
      → StateStands setting sub past filled i (work_at setting i node) old
      → (reads (work_at setting i node) ≡ true → filled ≡ length past)
      → ((buffer : ℕ) → work_at setting i node ≡ Reads buffer
      → (reading_after setting i buffer past).taken ≡ length (front buffer))
      → HasBegun setting sub past filled i (work_at setting i node) front more new

-- Memory ran out while node i began a tick: `made`, the takes that it made, are a prefix of those that are due. The
-- taps, which were `taps_old`, got them as further calls; `stands` says for which calls taps stand. This holds for all
-- instants that its state `old` can stand for; `scene` is the plan with its files and clocks.
pub record NodeTookSome {T : Type 0} (stands : T → List Call
    → Type 0) (scene : Scene) (i : ℕ)
    (old : NodeState) (taps_old taps_new : T) : Type 0 where
  pub made : List Call
  pub taps : Adds stands taps_old taps_new made
  pub begins : (other : Setting) (sub : ℕ → ℕ → List Slot) (past : List Moment) (filled : ℕ) (node : Node) (front : ℕ
      → List Answer) →
      let setting = setting_over scene other in
      slice_get scene.plan.now.nodes i ≡ Some node → HasAnswers setting (after_calls front made)
      → StateStands setting sub past filled i (work_at setting i node) old
      → (reads (work_at setting i node) ≡ true → filled ≡ length past)
      → ((buffer : ℕ) → work_at setting i node ≡ Reads buffer
      → (reading_after setting i buffer past).taken ≡ length (front buffer))
      → IsBegin made (takes_in setting true past i (Some node))

-- the takes, at the instant after this past, of those readers of a clock that are among the first n nodes of the
-- plan, in node order
abbrev pub takes_below : Setting → NodeClock → List Moment → (n : ℕ) → List Call
takes_below setting clock past n = joined_upto
    (λ i. takes_in setting (lies_in setting clock i) past i (slice_get setting.plan.nodes i)) n

-- The readers of a clock have begun the instant after `past`: `more` are all their takes in node order, which got the
-- answers behind `front`, those taken before by buffer. The states stand for what they took. `filled` counts by node
-- the slots that a crossfade got and the instants that a reader had begun.
pub record AreBegun (setting : Setting) (sub : ℕ → ℕ → List Slot) (clock : NodeClock) (past : List Moment) (filled : ℕ
    → ℕ) (front : ℕ → List Answer)
    (more : List Call) (states : List NodeState) : Type 0 where
  pub stand : ClockStands setting sub clock past (begun_in setting clock filled) states
  pub calls : more ≡ takes_below setting clock past (length setting.plan.nodes)
  pub taken : (i buffer : ℕ) (node : Node) → IsIn setting clock i node → work_at setting i node ≡ Reads buffer
      → (reading_by setting i buffer past (suc (length past))).taken ≡ length (after_calls front more buffer)
  pub others : (buffer : ℕ) → ((i : ℕ) (node : Node) → IsIn setting clock i node → work_at setting i node ≡ Reads buffer
      → ⊥) → answers_in buffer more ≡ []

-- The readers of a clock have begun a tick: they made all takes that are due. The taps, which were `taps_old`, got them
-- as further calls; `stands` says for which calls taps stand. Whatever instants the states `old` stood for, `new` stand
-- for what was taken too; `scene` is the plan with its files and clocks.
pub record HaveBegun {T : Type 0} (stands : T → List Call
    → Type 0) (scene : Scene) (clock : NodeClock)
    (old new : List NodeState) (taps_old taps_new : T) : Type 0 where
  pub more : List Call
  pub taps : Adds stands taps_old taps_new more
  pub begun : (other : Setting) (sub : ℕ → ℕ → List Slot) (past : List Moment) (filled : ℕ → ℕ) (front : ℕ
      → List Answer) →
      let setting = setting_over scene other in
      HasOwnReaders setting → nat_eq (length past % setting.plan.frame) 0 ≡ true
      → HasAnswers setting (after_calls front more)
      → ClockStands setting sub clock past filled old → HaveTaken setting clock past filled front
      → AreBegun setting sub clock past filled front more new

-- Memory ran out while the readers of a clock began a tick: `made`, the takes that they made, are a prefix of those
-- that are due. The taps, which were `taps_old`, got them as further calls; `stands` says for which calls taps stand.
-- It holds for all instants that the states `old` can stand for; `scene` is the plan with its files.
pub record HaveTakenSome {T : Type 0} (stands : T → List Call
    → Type 0) (scene : Scene) (clock : NodeClock)
    (old : List NodeState) (taps_old taps_new : T) : Type 0 where
  pub made : List Call
  pub taps : Adds stands taps_old taps_new made
  pub begins : (other : Setting) (sub : ℕ → ℕ → List Slot) (past : List Moment) (filled : ℕ → ℕ) (front : ℕ
      → List Answer) →
      let setting = setting_over scene other in
      HasOwnReaders setting → nat_eq (length past % setting.plan.frame) 0 ≡ true
      → HasAnswers setting (after_calls front made)
      → ClockStands setting sub clock past filled old → HaveTaken setting clock past filled front
      → IsBegin made (takes_below setting clock past (length setting.plan.nodes))
