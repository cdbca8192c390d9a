-- What of a plan says that a buffer refuses no put: its reader is always heard, and it has room for two windows.
use Rattle.std.specs.Prelude.{◌≡◌, ◌≤◌, ◌+◌, ℕ, suc, max, true, false, Some, List, [], ◌∷◌, slice_get}
use Rattle.std.specs.Int.{div_ceil}
use Rattle.plan_core.specs.declared.node.Node.{Node}
use Rattle.clock_infer.specs.declared.clock_map.NodeClock.TheVariants.{Main}
use Rattle.op_select.specs.declared.rule.Rule.TheVariants.{First}
use Rattle.stream_meaning.specs.Operators.{Work, Plays, Picks, Mixes, Fades, Reads, Selects, Every}
use Rattle.stream_meaning.specs.Instants.{Setting, clock_of, is_root, prefill, work_at}
use Rattle.run_records.specs.Records.{capacity_of}

-- A node of this work uses its child at this place whenever that offers a cell: a mix uses each child that does; a
-- choice that is not track-sensitive, and asks no predicate, its first.
abbrev pub AlwaysUses : Work → (place : ℕ) → Type 0
AlwaysUses (Plays leaf) place = ⊥
AlwaysUses (Picks choice eligible) place = (choice ≡ Selects (First false)) × (eligible ≡ Every) × (place ≡ 0)
AlwaysUses (Mixes mixing) place = Unit {0}
AlwaysUses (Fades overlap) place = ⊥
AlwaysUses (Reads buffer) place = ⊥

-- Node i is always heard in main clock m, through these nodes above it: it lies in this clock, and an output or a feed
-- plays it; or the next node above always uses it, and is always heard.
abbrev pub IsHeard : Setting → (m : ℕ) → (above : List ℕ) → (i : ℕ) → Type 0
IsHeard setting m [] i = (clock_of setting i ≡ Main m) × (is_root setting (Main m) i ≡ true)
IsHeard setting m (parent ∷ above) i =
    (clock_of setting i ≡ Main m)
    × (node : Node) × (place : ℕ) × (slice_get setting.plan.nodes parent ≡ Some node)
    × (slice_get node.children place ≡ Some i)
    × AlwaysUses (work_at setting parent node) place
    × IsHeard setting m above parent

-- how many ticks the cells last which the reader of a buffer gathers before it plays, the last one whole; at least one
abbrev pub prefill_ticks : Setting → (buffer : ℕ) → ℕ
prefill_ticks setting buffer = max 1 (div_ceil (prefill setting buffer) setting.plan.frame)

-- a buffer has room for the chunks of two windows of W ticks and of its prefill, all but one
abbrev pub HasRoom : Setting → (W buffer : ℕ) → Type 0
HasRoom setting W buffer = W + W + prefill_ticks setting buffer ≤ suc (capacity_of setting buffer)
