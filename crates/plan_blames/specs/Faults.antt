-- A fault of clocks: the heading, and a region round the sources that would share a clock.
use Rattle.std.specs.Prelude.{ℕ, Bool, true, false, List, [], ◌∷◌, ◌++◌, codes, decimal, nat_eq, slice_get}
use Rattle.std.specs.List.{list_any}
use Rattle.std.specs.Option.{option_map_or}
use Rattle.plan_core.specs.declared.node.Node.{Node}
use Rattle.clock_infer.specs.declared.clock_map.ClockName.{ClockName}
use Rattle.clock_infer.specs.declared.clock_map.ClockFault.{ClockFault}
use Rattle.clock_infer.specs.declared.clock_map.ClockFault.TheVariants.{TwoClocks, Nested, TooManyClocks, Memory}
use Rattle.plan_blames.specs.Texts.{numbered}
use Rattle.plan_blames.specs.Blames.{both_names}

-- Whether source k must share a clock with one of the sources `these`: `group` has one number for all sources that must
-- share a clock.
abbrev pub shares : (group : ℕ → ℕ) → (these : List ℕ) → (k : ℕ) → Bool
shares group these k = list_any (λ source. nat_eq (group source) (group k)) these

-- the name of source k for graphviz, if the source belongs in the red region (`is_in`)
abbrev pub red_member : (is_in : Bool) → (k : ℕ) → List ℕ
red_member true k = codes "n" ++ decimal k ++ codes "; "
red_member false k = []

-- The names, for graphviz, of the sources in the red region of a picture, each once. These must share a clock with one
-- of `these`: `group` has one number for all sources that must share a clock.
abbrev pub red_members : (group : ℕ → ℕ) → (these : List ℕ) → List Node → List ℕ
red_members group these nodes = numbered (λ k node. red_member (shares group these k) k) 0 nodes

-- The text for graphviz of a red region of a picture, after its label: how it looks, and the sources in it. These must
-- share a clock with one of `these`, by the numbers that `group` gives to sources that do.
abbrev pub red_rest : (group : ℕ → ℕ) → (these : List ℕ) → List Node → List ℕ
red_rest group these nodes = codes "\"; style=\"rounded,dashed\"; color=\"#b3261e\"; fontsize=11;\n"
    ++ (red_members group these nodes ++ codes "}\n")

-- The text for graphviz of a red region of a picture, with this label. It goes round the sources that must share a
-- clock with one of `these`, by the numbers that `group` gives to sources that do.
abbrev pub red_region : (label : List ℕ) → (group : ℕ → ℕ) → (these : List ℕ) → List Node → List ℕ
red_region label group these nodes = codes "subgraph cluster_red { label=\"" ++ (label ++ red_rest group these nodes)

-- the label of the red region round sources that must share one clock, for which two clocks, `first` and `second`, are
-- wanted
abbrev pub shared_label : (first second : ClockName) → List ℕ
shared_label first second = codes "one clock for all of these, but " ++ (both_names first second ++ codes " are wanted")

-- the label of the red region round the sources that lie in the own clock of crossfade k, in which it lies too
abbrev pub own_label : (k : ℕ) → List ℕ
own_label k = codes "own clock of crossfade " ++ decimal k

-- the children of source k; none where there is no such source
abbrev pub children_at : List Node → (k : ℕ) → List ℕ
children_at nodes k = option_map_or (λ node. node.children) (slice_get nodes k) []

-- The red region of a picture for a fault of clocks. It goes round the sources that two clocks would drive, or round
-- what lies in the own clock of a crossfade that lies in it too. `group` has one number for all sources that must share
-- a clock.
abbrev pub fault_region : List Node → ClockFault → (group : ℕ → ℕ) → List ℕ
fault_region nodes (TwoClocks node first second) group = red_region (shared_label first second) group (node ∷ []) nodes
fault_region nodes (Nested node) group = red_region (own_label node) group (children_at nodes node) nodes
fault_region nodes TooManyClocks group = []
fault_region nodes Memory group = []

-- the words of a picture's heading for a fault of clocks: its number and what it is
abbrev pub heading : ClockFault → List ℕ
heading (TwoClocks node first second) = codes "E26 a source would be driven by two clocks"
heading (Nested node) = codes "E27 a crossfade lies in its own clock"
heading TooManyClocks = codes "E28 more than 64 clocks would run"
heading Memory = []

-- the heading of a picture for a fault of clocks, as graphviz reads it
abbrev pub told_text : ClockFault → List ℕ
told_text fault = codes "labelloc=t; fontcolor=\"#b3261e\"; label=\"" ++ (heading fault ++ codes "\";\n")

-- What a picture tells of a fault of clocks, its heading and a red region; nothing if the plan is refused for a silence
-- (`silent`). `group` has one number for all sources that must share a clock.
abbrev pub fault_text : (silent : Bool) → List Node → ClockFault → (group : ℕ → ℕ) → List ℕ
fault_text true nodes fault group = []
fault_text false nodes fault group = told_text fault ++ fault_region nodes fault group
