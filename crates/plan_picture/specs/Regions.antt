-- The clocks: each a region with its sources and outputs.
use Rattle.std.specs.Prelude.{ℕ, zero, suc, ◌%◌, Bool, true, false, List, [], ◌++◌, codes, decimal, length, nat_eq, nat_lt, slice_index_or, if◌then◌else◌, Result, Ok, Err}
use Rattle.plan_core.specs.declared.node.Node.{Node}
use Rattle.plan_core.specs.declared.plan.Plan.{Plan}
use Rattle.plan_core.specs.declared.sink.SinkPlan.{SinkPlan}
use Rattle.plan_core.specs.declared.sink.SinkPlan.TheVariants.{Output, Feed}
use Rattle.clock_infer.specs.declared.clock_map.ClockMap.{ClockMap}
use Rattle.clock_infer.specs.declared.clock_map.ClockFault.{ClockFault}
use Rattle.clock_infer.specs.declared.clock_map.NodeClock.{NodeClock}
use Rattle.clock_infer.specs.declared.clock_map.NodeClock.TheVariants.{Main, Sub}
use Rattle.clock_infer.specs.Ties.{fades}
use Rattle.plan_blames.specs.Texts.{escaped, numbered}
use Rattle.plan_blames.specs.Faults.{fault_text}

-- the clock of a source by its number, from the list `of` with the clock of each source; main clock 0 past its end
abbrev pub clock_of : List NodeClock → (node : ℕ) → NodeClock
clock_of of node = slice_index_or of node (Main 0)

-- The beginning of a graphviz statement in the region (subgraph) of a clock. It opens the regions of the clocks above
-- it first, at most `levels` of them; one that is opened again is the same one. `of` has the clock of each source.
abbrev pub opening : List NodeClock → (levels : ℕ) → NodeClock → List ℕ
opening of levels (Main m) = codes "subgraph cluster_main" ++ decimal m ++ codes " { "
opening of zero (Sub k) = []
opening of (suc levels) (Sub k) = opening of levels (clock_of of k)
    ++ (codes "subgraph cluster_sub" ++ decimal k ++ codes " { ")

-- The end of a graphviz statement in the region of a clock: the closing brackets of all regions that were opened for
-- it, at most `levels` sub-clocks and the main one. `of` has the clock of each source.
abbrev pub closing : List NodeClock → (levels : ℕ) → NodeClock → List ℕ
closing of levels (Main m) = codes " }"
closing of zero (Sub k) = []
closing of (suc levels) (Sub k) = closing of levels (clock_of of k) ++ codes " }"

-- A graphviz statement that stands in the region (subgraph) of a clock, and its line end. `of` has the clock of each
-- source; as many regions may nest as there are sources.
abbrev pub within : List NodeClock → NodeClock → (statement : List ℕ) → List ℕ
within of clock statement = opening of (length of) clock ++ (statement ++ (closing of (length of) clock ++ codes "\n"))

-- the fill colour of a main clock's region in the picture of a plan, by a number below 5
abbrev pub tint_of : ℕ → List ℕ
tint_of n = if nat_eq n 0 then codes "#e3eef9" else if nat_eq n 1 then codes "#fdf0d8" else if nat_eq n 2
    then codes "#e4f3ea"
    else if nat_eq n 3 then codes "#f6e6f1" else codes "#ececec"

-- the fill colour of the region of a main clock in the picture of a plan, by the clock's number: five colours are used
-- in turn
abbrev pub tint : (clock : ℕ) → List ℕ
tint clock = tint_of (clock % 5)

-- the words in the label of a main clock that never runs, since it has no output; none for one that runs
abbrev pub idle_words : (runs : Bool) → List ℕ
idle_words true = []
idle_words false = codes " (no output: never runs)"

-- the end of the text of a main clock's region, after its label: border, font and fill colour, and the closing bracket
abbrev pub main_style : (clock : ℕ) → List ℕ
main_style clock = codes "\"; style=\"filled,rounded\"; color=\"#8a949e\"; fontsize=11; fillcolor=\""
    ++ (tint clock ++ codes "\"; }\n")

-- The text of a main clock's region from its escaped name on: whether the clock ever runs (those with a number below
-- `running` do), and how the region is drawn.
abbrev pub main_rest : (running clock : ℕ) → (name : List ℕ) → List ℕ
main_rest running clock name = escaped name ++ (idle_words (nat_lt clock running) ++ main_style clock)

-- the beginning of the graphviz text of a main clock's region, up to its name in the label
unfoldable pub main_front : (clock : ℕ) → List ℕ
main_front clock = codes "subgraph cluster_main" ++ decimal clock ++ codes " { label=\"clock "

-- the whole graphviz text of a main clock's region with this name; the clocks with a number below `running` have an
-- output
abbrev pub main_region : (running clock : ℕ) → (name : List ℕ) → List ℕ
main_region running clock name = main_front clock ++ main_rest running clock name

-- the graphviz text of the regions of all main clocks, which have these names by number; the first `running` ones run
abbrev pub named_regions : (running : ℕ) → (names : List (List ℕ)) → List ℕ
named_regions running names = numbered (main_region running) 0 names

-- the graphviz attributes of the region of the sub-clock of crossfade k: its label, and how the region is drawn
unfoldable pub sub_label : (k : ℕ) → List ℕ
sub_label k = codes "label=\"own clock of crossfade " ++ decimal k
    ++ codes "\"; style=\"filled,rounded\"; color=\"#8a949e\"; fontsize=11; fillcolor=\"#ffffff80\";"

-- the graphviz text of the region of the sub-clock of source k, if the source is a crossfade, and else nothing; the
-- list `of` has the clock of each source
abbrev pub sub_region : List NodeClock → (is_crossfade : Bool) → (k : ℕ) → List ℕ
sub_region of true k = within of (Sub k) (sub_label k)
sub_region of false k = []

-- the graphviz text of a region for the own clock of each crossfade among the sources; `of` has the clock of each
-- source
abbrev pub sub_regions : List NodeClock → List Node → List ℕ
sub_regions of nodes = numbered (λ k node. sub_region of (fades node.op) k) 0 nodes

-- the graphviz text that puts the box of each source into the region of its clock; `of` has the clock of each source
abbrev pub members : List NodeClock → List ℕ
members of = numbered (λ k clock. within of clock (codes "n" ++ decimal k ++ codes ";")) 0 of

-- The graphviz text that puts the box of output k into the region of its source's clock; nothing for a feed, which has
-- no box. `of` has the clock of each source.
abbrev pub output_member : List NodeClock → (k : ℕ) → SinkPlan → List ℕ
output_member of k (Output name node fallible wide) = within of (clock_of of node) (codes "s" ++ decimal k ++ codes ";")
output_member of k (Feed buffer node) = []

-- the graphviz text that puts the box of each output into the region of its source's clock; `of` has the clock of each
-- source
abbrev pub output_members : List NodeClock → List SinkPlan → List ℕ
output_members of sinks = numbered (output_member of) 0 sinks

-- the graphviz text of all regions of a plan, given its clocks: those of main clocks, those of crossfades, and what
-- lies in them
abbrev pub regions_by : Plan → ClockMap → List ℕ
regions_by plan clocks = named_regions clocks.running clocks.names
    ++ (sub_regions clocks.of plan.nodes ++ (members clocks.of ++ output_members clocks.of plan.sinks))

-- The graphviz text of a plan's regions, if it has clocks. If it has none, the text of the fault, unless the plan is
-- refused since an output may fall silent (`silent`). `group` has for each source its group, those that share a clock.
abbrev pub regions_of : Plan → (silent : Bool) → Result ClockMap ClockFault → (group : ℕ → ℕ) → List ℕ
regions_of plan silent (Ok clocks) group = regions_by plan clocks
regions_of plan silent (Err fault) group = fault_text silent plan.nodes fault group
