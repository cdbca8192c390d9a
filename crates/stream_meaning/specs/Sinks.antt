-- What a clock's sinks write and give.
use Rattle.std.specs.Prelude.{Bool, true, false, Some, None, List, [], ◌∷◌, ◌++◌, ℕ, ℤ, zero, suc, pos, ◌+◌, ◌*◌, map, slice_get, if◌then◌else◌, ◌≡◌}
use Rattle.std.specs.List.{flat_map, range_with_len}
use Rattle.std.specs.Option.{option_map_or}
use Rattle.liq_base.specs.declared.memory.Kind.{Kind}
use Rattle.liq_base.specs.declared.memory.Kind.TheVariants.{Stereo}
use Rattle.liq_base.specs.Kinds.{channels_of}
use Rattle.plan_core.specs.declared.sink.SinkPlan.{SinkPlan}
use Rattle.plan_core.specs.declared.sink.SinkPlan.TheVariants.{Output, Feed}
use Rattle.frame_core.specs.declared.cell.Cell.{Cell}
use Rattle.frame_core.specs.Slots.{Slot}
use Rattle.sample_bytes.specs.Encoded.{block_of}
use Rattle.sample_bytes.specs.Wide.{wide_block_of}
use Rattle.stream_meaning.specs.Arithmetic.{cells_of}
use Rattle.stream_meaning.specs.Instants.{Setting, stream_of, clock_of}
use Rattle.clock_infer.specs.declared.clock_map.NodeClock.TheVariants.{Main}

-- the block of an instant in an output: of samples of three bytes where it is wide, and else of two
abbrev pub sample_block : (wide : Bool) → Kind → (left right : ℤ) → List ℕ
sample_block true kind left right = wide_block_of kind left right
sample_block false kind left right = block_of kind left right

-- how many bytes the block of an instant has: three a channel where it is wide, and else two
abbrev pub block_length : (wide : Bool) → Kind → ℕ
block_length true kind = 3 * channels_of kind
block_length false kind = 2 * channels_of kind

-- a slot in an output: the block of its cell, and of zeros for nothing
abbrev pub slot_block : (wide : Bool) → Kind → Slot → List ℕ
slot_block wide kind None = sample_block wide kind (pos 0) (pos 0)
slot_block wide kind (Some cell) = sample_block wide kind cell.left cell.right

-- whether a sink is an output whose file has samples of 24 bits
abbrev pub wide_sink : SinkPlan → Bool
wide_sink (Output name node fallible wide) = wide
wide_sink (Feed buffer node) = false

-- whether the sink of this number is an output whose file has samples of 24 bits
abbrev pub is_wide : Setting → (sink : ℕ) → Bool
is_wide setting sink = option_map_or wide_sink (slice_get setting.plan.sinks sink) false

-- whether node i of the setting's plan is mono or stereo; stereo where there is none
abbrev pub kind_of : Setting → ℕ → Kind
kind_of setting i = option_map_or (λ node. node.kind) (slice_get setting.plan.nodes i) Stereo

-- what node i offers at each instant of tick t of its clock, in order
abbrev pub tick_slots : Setting → (i t : ℕ) → List Slot
tick_slots setting i t = map (stream_of setting i) (range_with_len (t * setting.plan.frame) setting.plan.frame)

-- the bytes that are written in tick t to the file of an output that plays node i; `wide` is whether its samples have
-- 24 bits
abbrev pub tick_bytes : Setting → (wide : Bool) → (i t : ℕ) → List ℕ
tick_bytes setting wide i t = flat_map (slot_block wide (kind_of setting i)) (tick_slots setting i t)

-- the bytes that an output of node i gets in so many ticks, after the header
abbrev pub ticks_bytes : Setting → (wide : Bool) → (i ticks : ℕ) → List ℕ
ticks_bytes setting wide i zero = []
ticks_bytes setting wide i (suc ticks) = ticks_bytes setting wide i ticks ++ tick_bytes setting wide i ticks

-- how many of these slots have no cell
abbrev pub missing : List Slot → ℕ
missing [] = 0
missing (None ∷ slots) = suc (missing slots)
missing (Some cell ∷ slots) = missing slots

-- how many instants of an output of node i were without a cell in its first so many ticks
abbrev pub gaps : Setting → (i ticks : ℕ) → ℕ
gaps setting i zero = 0
gaps setting i (suc ticks) = gaps setting i ticks + missing (tick_slots setting i ticks)

-- the cells that a feed of node i has at the end of tick t; where there is none, it makes no chunk
abbrev pub feed_cells : Setting → (i t : ℕ) → List Cell
feed_cells setting i t = cells_of (tick_slots setting i t)

-- where a track begins in an output: its instant, counted from the output's first, and its title
pub record Cue : Type 0 where
  pub at : ℕ
  pub title : ℕ

-- where tracks begin among these slots, the first of which is that of instant `at`
abbrev pub cues_from : (at : ℕ) → List Slot → List Cue
cues_from at [] = []
cues_from at (None ∷ slots) = cues_from (suc at) slots
cues_from at (Some cell ∷ slots) =
    if cell.first then record { at = at; title = cell.title } ∷ cues_from (suc at) slots else cues_from (suc at) slots

-- the cues of tick t of node i: where tracks begin in it, and under which titles
abbrev pub tick_cues : Setting → (i t : ℕ) → List Cue
tick_cues setting i t = cues_from (t * setting.plan.frame) (tick_slots setting i t)

-- the cues of node i in its clock's first so many ticks: where tracks begin, and under which titles
abbrev pub cues : Setting → (i ticks : ℕ) → List Cue
cues setting i zero = []
cues setting i (suc ticks) = cues setting i ticks ++ tick_cues setting i ticks

-- sink number `sink` is an output of this node, which lies in main clock m
pub record IsOutput (setting : Setting) (m sink node : ℕ) : Type 0 where
  pub name : List ℕ
  pub fallible : Bool
  pub wide : Bool
  pub there : slice_get setting.plan.sinks sink ≡ Some (Output name node fallible wide)
  pub in_clock : clock_of setting node ≡ Main m
