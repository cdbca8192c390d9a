-- The boxes: sources and outputs.
use Rattle.std.specs.Prelude.{ℕ, Bool, true, false, Option, List, [], ◌++◌, codes, decimal, nat_eq, Result}
use Rattle.std.specs.Option.{option_map_or}
use Rattle.plan_core.specs.declared.node.Node.{Node}
use Rattle.plan_core.specs.declared.plan.Plan.{Plan}
use Rattle.clock_infer.specs.declared.clock_map.ClockMap.{ClockMap}
use Rattle.clock_infer.specs.declared.clock_map.ClockFault.{ClockFault}
use Rattle.plan_blames.specs.Texts.{escaped, numbered}
use Rattle.plan_picture.specs.Sources.{words}
use Rattle.plan_blames.specs.Blames.{node_red, red_words}

-- the graphviz attribute for the border of a source's box: the usual one (no attribute) where the source always offers
-- something (`infallible`), and else dashed
abbrev pub border : (infallible : Bool) → List ℕ
border true = []
border false = codes ", style=\"filled,rounded,dashed\""

-- the graphviz attributes that draw a box in red, where it is to blame for a fault; none else
abbrev pub red_style : (red : Bool) → List ℕ
red_style true = codes ", color=\"#b3261e\", penwidth=2.2, fontcolor=\"#b3261e\""
red_style false = []

-- the end of the graphviz text of a source's box, after its label: its border, and whether it is red
abbrev pub box_end : (infallible red : Bool) → List ℕ
box_end infallible red = codes "\"" ++ (border infallible ++ (red_style red ++ codes "];\n"))

-- the beginning of the graphviz text of the box of source k, up to its label, which begins with the number
abbrev pub box_front : (k : ℕ) → List ℕ
box_front k = (codes "n" ++ decimal k) ++ (codes " [label=\"" ++ decimal k ++ codes "  ")

-- The label of source k: what it does, and where it is red, why. `silent` says that the plan is refused since an output
-- may fall silent; the result has the plan's clocks, or why it has none.
abbrev pub box_label : Plan → (silent : Bool) → Result ClockMap ClockFault → (k : ℕ) → Node → (red : Bool) → List ℕ
box_label plan silent clocks k node red = words plan k node.op ++ red_words silent red clocks k node

-- The graphviz text of the box of source k. It is red where the source is to blame for a fault, and `infallible` where
-- it always offers something. `silent` says that the plan is refused since an output may fall silent; the result has
-- the plan's clocks, or why it has none.
abbrev pub node_box : Plan → (silent : Bool) → Result ClockMap ClockFault → (k : ℕ) → Node → (infallible red : Bool)
    → List ℕ
node_box plan silent clocks k node infallible red = box_front k
    ++ (box_label plan silent clocks k node red ++ box_end infallible red)

-- The graphviz text of the boxes of the sources, each once. `mark` says which always offer something. If the plan is
-- refused since an output may fall silent (`silent`), `reds` says which are to blame; the result has the plan's clocks,
-- or why it has none.
abbrev pub node_boxes : Plan → List Node → (mark : ℕ → Bool) → (silent : Bool) → (reds : List Bool)
    → Result ClockMap ClockFault → List ℕ
node_boxes plan nodes mark silent reds clocks = numbered
    (λ k node. node_box plan silent clocks k node (mark k) (node_red silent reds clocks k node.op)) 0 nodes

-- the graphviz attributes of an output's box, which is drawn as a sheet of paper: dashed, unless its source always
-- offers something (`infallible`)
abbrev pub sheet : (infallible : Bool) → List ℕ
sheet true = codes " [shape=note, margin=\"0.16,0.08\", style=\"filled\""
sheet false = codes " [shape=note, margin=\"0.16,0.08\", style=\"filled,dashed\""

-- the words in the box of an output that the script lets be fallible, so that it may fall silent; none in that of
-- another
abbrev pub fallible_words : (fallible : Bool) → List ℕ
fallible_words true = codes "\\nfallible"
fallible_words false = []

-- the words in the box of an output that was refused (`red`), since it may fall silent; none in that of another
abbrev pub silence_words : (red : Bool) → List ℕ
silence_words true = codes "\\nE25 may fall silent"
silence_words false = []

-- the label of an output: its name, whether the script lets it be fallible, and whether it was refused since it may
-- fall silent (`red`)
abbrev pub output_label : (name : List ℕ) → (fallible red : Bool) → List ℕ
output_label name fallible red = escaped name ++ (fallible_words fallible ++ silence_words red)

-- the beginning of the graphviz text of the box of output k, up to its label: dashed unless its source always offers
-- something (`infallible`), and red where the output was refused
abbrev pub output_front : (k : ℕ) → (infallible red : Bool) → List ℕ
output_front k infallible red = (codes "s" ++ decimal k) ++ (sheet infallible ++ red_style red)

-- the graphviz text of the box of output k: `fallible` is what the script says of it, `infallible` whether its source
-- always offers something, and `red` whether the output was refused
abbrev pub output_box : (k : ℕ) → (name : List ℕ) → (fallible infallible red : Bool) → List ℕ
output_box k name fallible infallible red = output_front k infallible red
    ++ (codes ", label=\"" ++ (output_label name fallible red ++ codes "\"];\n"))

-- whether the sink of number k is the one that was refused (`refused`), if any was
abbrev pub is_refused : Option ℕ → (k : ℕ) → Bool
is_refused refused k = option_map_or (λ sink. nat_eq sink k) refused false
