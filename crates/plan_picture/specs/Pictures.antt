-- The picture of a plan.
use Rattle.std.specs.Prelude.{◌≡◌, ℕ, Bool, Option, Some, None, List, [], ◌++◌, codes, Result}
use Rattle.std.specs.Option.{is_some}
use Rattle.plan_core.specs.declared.plan.Plan.{Plan}
use Rattle.clock_infer.specs.declared.clock_map.ClockMap.{ClockMap}
use Rattle.clock_infer.specs.declared.clock_map.ClockFault.{ClockFault}
use Rattle.clock_infer.specs.Ties.{IsGrouping}
use Rattle.plan_blames.specs.Blames.{reds_from, refused_node}
use Rattle.plan_picture.specs.Boxes.{node_boxes}
use Rattle.plan_picture.specs.Edges.{node_edges, sink_texts}
use Rattle.plan_picture.specs.Regions.{regions_of}

-- the beginning of the graphviz text of each picture: direction, fonts and the usual look of boxes and edges
unfoldable pub beginning : List ℕ
beginning = codes "digraph station {\nrankdir=LR; bgcolor=\"#ffffff\"; fontname=\"DejaVu Sans,Helvetica,sans-serif\"; fontsize=12; labeljust=l; nodesep=0.25; ranksep=0.5;\nnode [shape=box, style=\"filled,rounded\", fillcolor=\"#ffffff\", color=\"#3a4450\", fontname=\"DejaVu Sans,Helvetica,sans-serif\", fontsize=11, margin=\"0.12,0.06\", height=0.4];\nedge [color=\"#3a4450\", fontname=\"DejaVu Sans,Helvetica,sans-serif\", fontsize=9, arrowsize=0.7];\n"

-- Of each source, whether it is to blame for the output that was refused, which may fall silent; empty where none was.
-- `mark` says which sources always offer something.
abbrev pub reds : Plan → (mark : ℕ → Bool) → Option ℕ → List Bool
reds plan mark None = []
reds plan mark (Some sink) = reds_from mark (refused_node plan.sinks sink) 0 plan.nodes

-- The graphviz text that draws a plan. `mark` says which sources always offer something, `refused` is the output
-- refused since it may fall silent (`silent` says that one was), and `red` has of each source whether it is to blame.
-- The result has the clocks or why there are none; `group` has the sources that share one.
abbrev pub picture_with : Plan → (mark : ℕ → Bool) → Option ℕ → Result ClockMap ClockFault → (group : ℕ → ℕ)
    → (silent : Bool) → (red : List Bool) → List ℕ
picture_with plan mark refused clocks group silent red = beginning
    ++ (node_boxes plan plan.nodes mark silent red clocks ++ (node_edges plan.nodes silent red clocks
    ++ (sink_texts plan plan.sinks mark refused ++ (regions_of plan silent clocks group ++ codes "}\n"))))

-- The graphviz text that draws a plan. `mark` says which sources always offer something, and `refused` is the output
-- that was refused since it may fall silent, if any. The result has the clocks or why there are none; `group` has for
-- each source its group, those that share a clock.
abbrev pub picture : Plan → (mark : ℕ → Bool) → Option ℕ → Result ClockMap ClockFault → (group : ℕ → ℕ) → List ℕ
picture plan mark refused clocks group = picture_with plan mark refused clocks group (is_some refused)
    (reds plan mark refused)

-- The text is the picture of a plan. `mark` says which sources always offer something, and `refused` is the output that
-- was refused since it may fall silent, if any. The result has the clocks or why there are none. The sources are
-- grouped by the clock that they share, in the one way that there is.
pub record IsPicture (plan : Plan) (mark : ℕ
    → Bool) (refused : Option ℕ) (clocks : Result ClockMap ClockFault) (text : List ℕ) : Type 0 where
  pub group : ℕ → ℕ
  pub grouping : IsGrouping plan.nodes group
  pub is : text ≡ picture plan mark refused clocks group
