-- The instants of a clock: what each of its nodes offers and uses, which nodes are demanded, which give. An instant is
-- made from those before it, the latest first, and from the slots of the sub-clocks of its crossfades.
use Rattle.std.specs.Prelude.{◌≡◌, Bool, true, false, not, ◌&&◌, ◌||◌, Option, Some, None, List, [], ◌∷◌, ◌++◌, ℕ, zero, suc, ◌+◌, ◌/◌, ◌%◌, length, map, max, drop, nat_eq, is_some, if◌then◌else◌, slice_get, slice_index_or}
use Rattle.std.specs.List.{list_any}
use Rattle.std.specs.Option.{option_map_or}
use Rattle.frame_core.specs.Library.{Sounds}
use Rattle.plan_core.specs.declared.node.Node.{Node}
use Rattle.plan_core.specs.declared.plan.Plan.{Plan}
use Rattle.plan_core.specs.Plans.{sink_node}
use Rattle.clock_infer.specs.declared.clock_map.NodeClock.{NodeClock}
use Rattle.clock_infer.specs.declared.clock_map.NodeClock.TheVariants.{Main, Sub}
use Rattle.frame_core.specs.Slots.{Slot, is_first}
use Rattle.op_cross.specs.Runs.{item_of}
use Rattle.op_leaf.specs.Leaves.{leaf_slot}
use Rattle.frame_core.specs.Calls.{Answer}
use Rattle.op_leaf.specs.Readers.{Reader, after_cell, at_start, reader_slot, reader_takes}
use Rattle.op_select.specs.declared.rule.Picked.{Picked}
use Rattle.op_select.specs.Selection.{picked}
use Rattle.stream_meaning.specs.declared.part.Part.{Part}
use Rattle.stream_meaning.specs.Arithmetic.{mix_slot}
use Rattle.stream_meaning.specs.Operators.{Work, Plays, Picks, Mixes, Fades, Reads, child_used, work_of, marks_at}

-- what is the same at all instants: the plan, its audio files, the clock of each node, the second of the week at which
-- the clocks start, and for each buffer the answers that its takes get in the whole run
pub record Setting : Type 0 where
  pub plan : Plan
  pub library : Sounds
  pub clocks : List NodeClock
  pub start : ℕ
  pub answers : ℕ → List Answer

-- this setting, but that the takes of each buffer get `answers`
abbrev pub answered : Setting → (ℕ → List Answer) → Setting
answered setting answers = record {
  plan = setting.plan;
  library = setting.library;
  clocks = setting.clocks;
  start = setting.start;
  answers = answers;
}

-- this setting, but that the takes of each buffer get first `answers`, and behind these `rest`
abbrev pub with_rest : Setting → (answers rest : ℕ → List Answer) → Setting
with_rest setting answers rest = answered setting (λ buffer. answers buffer ++ rest buffer)

-- the clock in which node i lies, as the setting has it: a main clock, or the sub-clock of a crossfade
abbrev pub clock_of : Setting → ℕ → NodeClock
clock_of setting i = slice_index_or setting.clocks i (Main 0)

-- whether two clocks are the same: main clocks by their number, sub-clocks by their crossfade
abbrev pub same_clock : NodeClock → NodeClock → Bool
same_clock (Main m) (Main n) = nat_eq m n
same_clock (Main m) (Sub k) = false
same_clock (Sub j) (Main m) = false
same_clock (Sub j) (Sub k) = nat_eq j k

-- whether node i lies in this clock, so that the instants of the clock are the instants of the node
abbrev pub lies_in : Setting → NodeClock → ℕ → Bool
lies_in setting clock i = same_clock (clock_of setting i) clock

-- the second of the week, from 0 to 604799, in which instant n of a clock lies
abbrev pub second_at : Setting → ℕ → ℕ
second_at setting n = (setting.start + n / setting.plan.rate) % 604800

-- how many samples a buffer collects before its reader plays, as the plan has it
abbrev pub prefill : Setting → ℕ → ℕ
prefill setting buffer = option_map_or (λ plan. plan.pre) (slice_get setting.plan.buffers buffer) 0

-- the reader of a buffer, and how many of the buffer's answers it has taken so far
pub record Reading : Type 0 where
  pub reader : Reader
  pub taken : ℕ

-- one instant of a clock: each node's part, and whether it is demanded
pub record Moment : Type 0 where
  pub parts : List Part
  pub demands : List Bool

-- the part of a node, what it does at an instant, that offers no cell and uses no child
abbrev pub silent : Part
silent = record { slot = None; pick = None }

-- what node i did at the instant with these parts; outside of them nothing
abbrev pub part_at : List Part → ℕ → Part
part_at parts i = slice_index_or parts i silent

-- the slot that node i offered at an instant: a cell, or nothing
abbrev pub offer : Moment → ℕ → Slot
offer moment i = (part_at moment.parts i).slot

-- whether node i was demanded at an instant: by a sink, a crossfade or a demanded parent
abbrev pub demanded : Moment → ℕ → Bool
demanded moment i = slice_index_or moment.demands i false

-- whether node i gave at an instant: it was demanded and offered a cell
abbrev pub gives : Moment → ℕ → Bool
gives moment i = demanded moment i && is_some (offer moment i)

-- at how many of these instants node i gave a cell; for a leaf, this is how many samples it has played
abbrev pub gives_before : List Moment → ℕ → ℕ
gives_before [] i = 0
gives_before (moment ∷ past) i = if gives moment i then suc (gives_before past i) else gives_before past i

-- the child that node i used when it last gave; None where it never gave
abbrev pub last_pick : List Moment → ℕ → Option ℕ
last_pick [] i = None
last_pick (moment ∷ past) i = if gives moment i then (part_at moment.parts i).pick else last_pick past i

-- at how many of these instants node i gave a cell that begins a track: so many choices a rotate or a random has made,
-- since it marks a cell exactly where its child was found by a choice
abbrev pub choices : List Moment → ℕ → ℕ
choices [] i = 0
choices (moment ∷ past) i = if gives moment i && is_first (offer moment i) then suc (choices past i) else choices past i

-- how many items crossfade i has gone on by, in the list of cells and gaps that it plays: one at each instant at
-- which it gave or offered nothing
abbrev pub position : List Moment → ℕ → ℕ
position [] i = 0
position (moment ∷ past) i = if gives moment i || not (is_some (offer moment i)) then suc (position past i)
    else position past i

-- the reader of a buffer before the first instant of its clock: it has no cells, doesn't play, and took no answer
abbrev pub new_reading : Setting → (buffer : ℕ) → Reading
new_reading setting buffer = record {
  reader = record { cells = []; playing = false; prefill = max 1 (prefill setting buffer); frame = setting.plan.frame };
  taken = 0;
}

-- of all answers of a buffer, `answers`, those that its reader has not taken yet
abbrev pub next_answers : List Answer → Reading → List Answer
next_answers answers reading = drop reading.taken answers

-- a reader at the start of a tick, moved on by the chunks that it takes there from its buffer, whose answers in the
-- whole run are `answers`
abbrev pub started : List Answer → Reading → Reading
started answers reading = record {
  reader = at_start (next_answers answers reading) reading.reader;
  taken = reading.taken + length (reader_takes (next_answers answers reading) reading.reader);
}

-- The reader of a buffer at this instant: where a tick begins it has taken what is due. `before` is the reader that the
-- instant before left.
abbrev pub reading_at : Setting → (buffer instant : ℕ) → Reading → Reading
reading_at setting buffer instant before =
    if nat_eq (instant % setting.plan.frame) 0 then started (setting.answers buffer) before else before

-- the reader of a buffer after an instant: moved on by one cell where it gave one, else as it was
abbrev pub read_on : Bool → Reading → Reading
read_on gave reading = if gave then record reading { reader = after_cell reading.reader } else reading

-- the reader of a buffer, node i, after all of these instants of its clock, the latest of which is first in the list
abbrev pub reading_after : Setting → (i buffer : ℕ) → List Moment → Reading
reading_after setting i buffer [] = new_reading setting buffer
reading_after setting i buffer (moment ∷ past) =
    read_on (gives moment i) (reading_at setting buffer (length past) (reading_after setting i buffer past))

-- what each of these children, given as numbers of nodes, offered at an instant; `parts` has what each node of the plan
-- did then
abbrev pub slots_at : List Part → List ℕ → List Slot
slots_at parts children = map (λ child. (part_at parts child).slot) children

-- the part of a node that offers this slot and picks no child
abbrev pub unpicked : Slot → Part
unpicked slot = record { slot = slot; pick = None }

-- the part of a node that passes on the cell of the child that it picked, with that child's place; silence where it
-- picked none
abbrev pub picked_part : Option Picked → Part
picked_part None = silent
picked_part (Some picked) = record { slot = Some picked.cell; pick = Some picked.child }

-- What node i offers and picks at the instant after `past`, the instants so far, by its work and by what its children
-- offer there, `slots`. A crossfade plays what its child offers in a sub-clock: `sub k m` has the first m slots of
-- crossfade k's child.
abbrev pub part_by : Setting → (sub : ℕ → ℕ → List Slot) → List Moment → ℕ → Work → List Slot → Part
part_by setting sub past i (Plays leaf) slots = unpicked (leaf_slot setting.library leaf (gives_before past i))
part_by setting sub past i (Picks choice eligible) slots =
    picked_part (picked slots (last_pick past i)
    (child_used choice slots (marks_at eligible (second_at setting (length past)) (length slots)) (last_pick past i)
    (choices past i)))
part_by setting sub past i (Mixes mixing) slots = unpicked (mix_slot mixing slots)
part_by setting sub past i (Fades overlap) slots = unpicked (item_of overlap (sub i) (position past i))
part_by setting sub past i (Reads buffer) slots =
    unpicked (reader_slot (reading_at setting buffer (length past) (reading_after setting i buffer past)).reader)

-- the work of node i, what it does with its children, in this setting's plan: such as to play, pick, mix or fade
abbrev pub work_at : Setting → ℕ → Node → Work
work_at setting i node = work_of setting.plan.rate i node.kind node.op

-- What node i does at the instant after `past`, the instants so far; `before` has what the nodes of lesser numbers do
-- there. If it is not in the clock (`inside` is false) or not in the plan, it offers nothing. `sub k m` has the first m
-- slots of crossfade k's child.
abbrev pub part_in : Setting → (sub : ℕ → ℕ → List Slot) → Bool → List Moment → ℕ → Option Node → List Part → Part
part_in setting sub inside past i None before = silent
part_in setting sub false past i (Some node) before = silent
part_in setting sub true past i (Some node) before = part_by setting sub past i (work_at setting i node)
    (slots_at before node.children)

-- what each of the first n nodes does at the instant of a clock after `past`, the instants so far; `sub k m` has the
-- first m slots of crossfade k's child, which lies in a sub-clock
abbrev pub parts_upto : Setting → (sub : ℕ → ℕ → List Slot) → NodeClock → List Moment → ℕ → List Part
parts_upto setting sub clock past zero = []
parts_upto setting sub clock past (suc i) =
    let before = parts_upto setting sub clock past i in
    before ++ part_in setting sub (lies_in setting clock i) past i (slice_get setting.plan.nodes i) before ∷ []

-- the number of the child at this place of a node's children, as a list of one; the empty list without a place, or
-- without a child there
abbrev pub child_at : List ℕ → Option ℕ → List ℕ
child_at children None = []
child_at children (Some place) = option_map_or (λ child. child ∷ []) (slice_get children place) []

-- those of these children, numbers of nodes, that offer a cell; `parts` has what each node offers
abbrev pub offering : List Part → List ℕ → List ℕ
offering parts [] = []
offering parts (child ∷ children) =
    if is_some (part_at parts child).slot then child ∷ offering parts children else offering parts children

-- The children that a node of this work uses at an instant: the one at place `pick` if it picks, and each that offers a
-- cell if it mixes; otherwise none. `parts` has what each node offers.
abbrev pub uses_by : List Part → Work → List ℕ → (pick : Option ℕ) → List ℕ
uses_by parts (Picks choice eligible) children pick = child_at children pick
uses_by parts (Mixes mixing) children pick = offering parts children
uses_by parts _ children pick = []

-- for each of these nodes, of which the first is node i, the children that it uses at an instant; `parts` has what
-- each node offers and picks
abbrev pub uses_from : Setting → List Part → ℕ → List Node → List (List ℕ)
uses_from setting parts i [] = []
uses_from setting parts i (node ∷ nodes) =
    uses_by parts (work_at setting i node) node.children (part_at parts i).pick ∷ uses_from setting parts (suc i) nodes

-- whether node i is used by a node that is demanded; of some nodes, in their order, the first list says whether each is
-- demanded, and `uses` has the children that each uses
abbrev pub is_used : List Bool → List (List ℕ) → ℕ → Bool
is_used [] uses i = false
is_used (demand ∷ demands) [] i = false
is_used (demand ∷ demands) (used ∷ uses) i = (demand && list_any (nat_eq i) used) || is_used demands uses i

-- For each of some nodes, the first of which is node i, whether it is demanded: it is so of itself, as `roots` says, or
-- a later one that is demanded uses it. The list `uses` has for each of them the children that it uses.
abbrev pub demands_from : (ℕ → Bool) → ℕ → List (List ℕ) → List Bool
demands_from roots i [] = []
demands_from roots i (used ∷ uses) =
    let later = demands_from roots (suc i) uses in (roots i || is_used later uses i) ∷ later

-- the number of the one child of crossfade k, a node that lies in the crossfade's sub-clock; 0 without one
abbrev pub crossfaded : List Node → ℕ → ℕ
crossfaded nodes k = option_map_or (λ node. slice_index_or node.children 0 0) (slice_get nodes k) 0

-- whether node i is demanded of itself: a main clock's sink plays it, or it is the child of the sub-clock's crossfade
abbrev pub is_root : Setting → NodeClock → ℕ → Bool
is_root setting (Main m) i = list_any (λ sink. nat_eq (sink_node sink) i) setting.plan.sinks
is_root setting (Sub k) i = nat_eq (crossfaded setting.plan.nodes k) i

-- the moment of a clock, one instant of it, at which its nodes do these parts: with it, which nodes are demanded there
abbrev pub moment_of : Setting → NodeClock → List Part → Moment
moment_of setting clock parts = record {
  parts = parts;
  demands = demands_from (λ i. lies_in setting clock i
      && is_root setting clock i) 0 (uses_from setting parts 0 setting.plan.nodes);
}

-- The next instant of a clock after `past`, the instants so far: what each node does there, and which are demanded.
-- `sub k m` has the first m slots of crossfade k's child, which lies in a sub-clock.
abbrev pub moment_after : Setting → (sub : ℕ → ℕ → List Slot) → NodeClock → List Moment → Moment
moment_after setting sub clock past = moment_of setting clock
    (parts_upto setting sub clock past (length setting.plan.nodes))

-- the first n instants of a clock, the latest first, each made from those before it; `sub k m` has the first m slots of
-- crossfade k's child, which lies in a sub-clock
abbrev pub first_instants : Setting → (sub : ℕ → ℕ → List Slot) → NodeClock → ℕ → List Moment
first_instants setting sub clock zero = []
first_instants setting sub clock (suc n) =
    let past = first_instants setting sub clock n in moment_after setting sub clock past ∷ past

-- what node i offered at each of these instants, the earliest first; the list of instants has the latest first
abbrev pub slots_of : List Moment → ℕ → List Slot
slots_of [] i = []
slots_of (moment ∷ past) i = slots_of past i ++ offer moment i ∷ []

-- `sub` is what sub-clocks play: `sub k m` is just what the child of crossfade k offers in the first m instants of the
-- crossfade's sub-clock. Deeper sub-clocks are taken from `sub` itself.
abbrev pub IsMeaning : Setting → (sub : ℕ → ℕ → List Slot) → Type 0
IsMeaning setting sub = (k m : ℕ) → sub k m
    ≡ slots_of (first_instants setting sub (Sub k) m) (crossfaded setting.plan.nodes k)

-- the first m slots of the child of crossfade k in its sub-clock, by recursion on how deep sub-clocks nest: `depth` is
-- the bound, and at 0 there are no slots
abbrev pub sub_within : Setting → (depth : ℕ) → ℕ → ℕ → List Slot
sub_within setting zero k m = []
sub_within setting (suc depth) k m = slots_of (first_instants setting (sub_within setting depth) (Sub k) m)
    (crossfaded setting.plan.nodes k)

-- the first m slots of the child of crossfade k in its sub-clock; sub-clocks nest no deeper than there are nodes
abbrev pub sub_of : Setting → ℕ → ℕ → List Slot
sub_of setting = sub_within setting (suc (length setting.plan.nodes))

-- the stream of node i: what it offers at instant n of its clock, a cell or nothing
abbrev pub stream_of : Setting → ℕ → ℕ → Slot
stream_of setting i n = offer
    (moment_after setting (sub_of setting) (clock_of setting i)
    (first_instants setting (sub_of setting) (clock_of setting i) n)) i
