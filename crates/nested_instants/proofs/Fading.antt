-- Crossfades, readers, and all other nodes.
use Rattle.std.proofs.Common.{◌≡◌, ◌<◌, ◌∙◌, ℕ, true, false, Some, None, Option, List, length, slice_get, refl, ap}
use Rattle.std.proofs.lemmas.Bool.{false≢true}
use Rattle.std.proofs.lemmas.Option.{slice_get_within}
use Rattle.plan_core.specs.declared.node.Node.{Node}
use Rattle.plan_core.specs.declared.node.Op.TheVariants.{Crossfade}
use Rattle.frame_core.specs.Slots.{Slot}
use Rattle.op_cross.specs.Runs.{run_of}
use Rattle.stream_meaning.specs.Operators.{Work, Plays, Picks, Mixes, Fades, Reads, work_of}
use Rattle.stream_meaning.specs.Instants.{Setting, Moment, position, work_at}
use Rattle.node_states.specs.States.{FadesOn, reads, reads_at, reads_in}
use Rattle.nested_instants.specs.Clocks.{fade_at, fade_in, is_fade}

fade_reads_by : (work : Work) → is_fade work ≡ true → reads work ≡ false
fade_reads_by (Plays leaf) is = refl
fade_reads_by (Picks rule eligible) is = refl
fade_reads_by (Mixes mixing) is = refl
fade_reads_by (Fades overlap) is = refl
fade_reads_by (Reads buffer) is = absurd (false≢true is)

fade_reads_in : (setting : Setting) (k : ℕ) (found : Option Node) → fade_in setting k found ≡ true → reads_in setting k found ≡ false
fade_reads_in setting k None is = refl
fade_reads_in setting k (Some node) is = fade_reads_by (work_at setting k node) is

pub fade_reads : (setting : Setting) (k : ℕ) → fade_at setting k ≡ true → reads_at setting k ≡ false
fade_reads setting k is = fade_reads_in setting k (slice_get setting.plan.nodes k) is

reads_fade_by : (work : Work) → reads work ≡ true → is_fade work ≡ false
reads_fade_by (Plays leaf) is = refl
reads_fade_by (Picks rule eligible) is = refl
reads_fade_by (Mixes mixing) is = refl
reads_fade_by (Fades overlap) is = absurd (false≢true is)
reads_fade_by (Reads buffer) is = refl

reads_fade_in : (setting : Setting) (k : ℕ) (found : Option Node) → reads_in setting k found ≡ true → fade_in setting k found ≡ false
reads_fade_in setting k None is = absurd (false≢true is)
reads_fade_in setting k (Some node) is = reads_fade_by (work_at setting k node) is

pub reads_fade : (setting : Setting) (k : ℕ) → reads_at setting k ≡ true → fade_at setting k ≡ false
reads_fade setting k is = reads_fade_in setting k (slice_get setting.plan.nodes k) is

within_by : (setting : Setting) (k : ℕ) (found : Option Node) → slice_get setting.plan.nodes k ≡ found → fade_in setting k found ≡ true → k < length setting.plan.nodes
within_by setting k None at is = absurd (false≢true is)
within_by setting k (Some node) at is = slice_get_within setting.plan.nodes k node at

pub fade_within : (setting : Setting) (k : ℕ) → fade_at setting k ≡ true → k < length setting.plan.nodes
fade_within setting k is = within_by setting k (slice_get setting.plan.nodes k) refl is

pub fade_of : (setting : Setting) (k : ℕ) (node : Node) → slice_get setting.plan.nodes k ≡ Some node → fade_at setting k ≡ is_fade (work_at setting k node)
fade_of setting k node found = ap (fade_in setting k) found

pub work_of_op : (setting : Setting) (k overlap : ℕ) (node : Node) → node.op ≡ Crossfade overlap → work_at setting k node ≡ Fades overlap
work_of_op setting k overlap node op = ap (work_of setting.plan.rate k node.kind) op

pub fade_op : (setting : Setting) (k overlap : ℕ) (node : Node) → slice_get setting.plan.nodes k ≡ Some node → node.op ≡ Crossfade overlap → fade_at setting k ≡ true
fade_op setting k overlap node found op = fade_of setting k node found ∙ ap is_fade (work_of_op setting k overlap node op)

pub reads_work : (setting : Setting) (i buffer : ℕ) (node : Node) → slice_get setting.plan.nodes i ≡ Some node → work_at setting i node ≡ Reads buffer → reads_at setting i ≡ true
reads_work setting i buffer node found work = ap (reads_in setting i) found ∙ ap reads work

-- who fades on is a crossfade
pub fades_on : (sub : ℕ → ℕ → List Slot) (past : List Moment) (filled i : ℕ) (work : Work) → FadesOn sub past filled i work
    → (overlap : ℕ) × (work ≡ Fades overlap) × (filled < run_of overlap (sub i) (position past i))
fades_on sub past filled i (Plays leaf) on = absurd on
fades_on sub past filled i (Picks rule eligible) on = absurd on
fades_on sub past filled i (Mixes mixing) on = absurd on
fades_on sub past filled i (Fades overlap) on = (overlap, refl, on)
fades_on sub past filled i (Reads buffer) on = absurd on
