-- The nodes at which buffers are fed and read.
use Rattle.std.specs.Prelude.{◌≡◌, ◌<◌, ℕ, List, length, slice_index_or}
use Rattle.plan_core.specs.declared.node.Node.{Node}
use Rattle.plan_core.specs.declared.plan.Plan.{Plan}
use Rattle.plan_core.specs.declared.sink.SinkPlan.{SinkPlan}
use Rattle.plan_core.specs.declared.sink.SinkPlan.TheVariants.{Feed}
use Rattle.run_records.specs.Buffers.{fed_in, read_from}
use Rattle.stream_meaning.specs.Instants.{Setting}

-- `found` has for each buffer, by its number, the node whose cells are put into it, as the sinks of the plan say
abbrev pub AreFeeders : List SinkPlan → (found : List ℕ) → Type 0
AreFeeders sinks found = (buffer : ℕ) → buffer < length found → slice_index_or found buffer 0 ≡ fed_in buffer sinks

-- `found` has for each buffer, by its number, the node among `nodes` that plays what is taken from it. The node `first`
-- of the plan is the first of these.
abbrev pub AreReaders : Plan → (first : ℕ) → List Node → (found : List ℕ) → Type 0
AreReaders plan first nodes found = (setting : Setting) → setting.plan ≡ plan
    → (buffer : ℕ) → buffer < length found → slice_index_or found buffer 0 ≡ read_from setting buffer first nodes

-- if a sink is a feed, its buffer's number is below `count`; private functions alone cite this
abbrev pub FeedsBelow : (count : ℕ) → SinkPlan → Type 0
FeedsBelow count sink = (buffer node : ℕ) → sink ≡ Feed buffer node → buffer < count
