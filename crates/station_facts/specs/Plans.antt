-- What is told of a plan: what it sets, its outputs, and its sources.
use Rattle.std.specs.Prelude.{◌≡◌, ◌≢◌, ℕ, Bool, List, [], ◌∷◌, ◌++◌, length, codes, decimal, Option, Some, None, Result, Ok, Err, slice_get, nat_eq, if◌then◌else◌}
use Rattle.clock_infer.specs.Answers.{IsCause, IsClockMap}
use Rattle.clock_infer.specs.declared.clock_map.ClockFault.{ClockFault}
use Rattle.clock_infer.specs.declared.clock_map.ClockMap.{ClockMap}
use Rattle.clock_infer.specs.declared.clock_map.NodeClock.{NodeClock}
use Rattle.clock_infer.specs.declared.clock_map.NodeClock.TheVariants.{Main, Sub}
use Rattle.fallible_infer.specs.Infallible.{IsMarking, mark_at}
use Rattle.json.specs.Token.{Token, number}
use Rattle.plan_core.specs.declared.node.Node.{Node}
use Rattle.plan_core.specs.declared.node.Op.{Op}
use Rattle.plan_core.specs.declared.node.Op.TheVariants as op
use Rattle.plan_core.specs.declared.plan.Plan.{Plan}
use Rattle.plan_core.specs.declared.sink.SinkPlan.{SinkPlan}
use Rattle.plan_core.specs.declared.sink.SinkPlan.TheVariants.{Output, Feed}
use Rattle.station_facts.specs.declared.inferred.Inferred.{Inferred}
use Rattle.week_windows.specs.Windows.{case_windows}
use Rattle.week_windows.specs.declared.windows.Windows.{Windows}
use Rattle.station_facts.specs.Members.{bits_of, flag_member, kind_member, list_member, member_by_threes, number_member, object, text_member}

-- this is what is found of the clocks of a plan: the clock of each node, or why the plan has none; want of memory is
-- no such cause
abbrev pub AreClocks : Plan → Result ClockMap ClockFault → Type 0
AreClocks plan (Ok clocks) = IsClockMap plan clocks
AreClocks plan (Err cause) = (cause ≢ ClockFault.Memory) × IsCause plan cause

-- what is inferred of a plan: which of its sources are never silent, and its clocks
pub record IsInferred (plan : Plan) (inferred : Inferred) : Type 0 where
  pub each : length inferred.marks.items ≡ length plan.nodes
  pub marking : IsMarking plan.nodes (mark_at inferred.marks.items)
  pub are_clocks : AreClocks plan inferred.clocks

-- the member `sides`, how many channels a source has; none if there is no such source
abbrev pub side_members : Option Node → List Token
side_members None = []
side_members (Some node) = kind_member node.kind

-- the member `clock`, the name of a clock; none if there is no name
abbrev pub name_members : Option (List ℕ) → List Token
name_members None = []
name_members (Some name) = text_member (codes "clock") name

-- the member `clock`, the name of a main clock; none for a sub-clock, or where a source has no clock
abbrev pub main_members : ClockMap → Option NodeClock → List Token
main_members clocks None = []
main_members clocks (Some (Sub fade)) = []
main_members clocks (Some (Main m)) = name_members (slice_get clocks.names m)

-- the member `clock`, the name of the main clock of a source; none if it lies in a sub-clock or the plan has no clocks
abbrev pub clock_members : Result ClockMap ClockFault → (node : ℕ) → List Token
clock_members (Err cause) node = []
clock_members (Ok clocks) node = main_members clocks (slice_get clocks.of node)

-- the JSON object of an output: its name, the number of its source, the bits of a sample, whether it may be silent,
-- its channels and its clock; none for a feed of a buffer
abbrev pub output_object : Plan → Inferred → SinkPlan → List Token
output_object plan inferred (Output name node fallible wide) = object (text_member (codes "name") name
    ++ (number_member (codes "source") node ++ (number_member (codes "bits") (bits_of wide)
    ++ (flag_member (codes "fallible") fallible ++ (side_members (slice_get plan.nodes node)
    ++ clock_members inferred.clocks node)))))
output_object plan inferred (Feed buffer node) = []

-- the members `shortest` and `longest`: how many seconds the shortest and the longest window of a case have
abbrev pub length_members : Windows → List Token
length_members windows = number_member (codes "shortest") windows.shortest
    ++ number_member (codes "longest") windows.longest

-- the JSON object of the windows of a case: how many it has in the week, and how long they are, if it has any
abbrev pub windows_object : Windows → List Token
windows_object windows = object (number_member (codes "count") windows.count
    ++ (if nat_eq windows.count 0 then [] else length_members windows))

-- the members of a source that tell its operator, as the language calls it, and what it has beside its children
abbrev pub op_members : Op → List Token
op_members (op.Single file) = text_member (codes "op") (codes "single") ++ text_member (codes "file") file
op_members (op.Playlist file again) = text_member (codes "op") (codes "playlist")
    ++ (text_member (codes "file") file ++ flag_member (codes "again") again)
op_members (op.Blank track) = text_member (codes "op") (codes "blank") ++ number_member (codes "track") track
op_members (op.Square pitch) = text_member (codes "op") (codes "square")
op_members op.Fail = text_member (codes "op") (codes "fail")
op_members (op.Fallback sensitive) = text_member (codes "op") (codes "fallback")
    ++ flag_member (codes "sensitive") sensitive
op_members (op.Switch sensitive preds) = text_member (codes "op") (codes "switch")
    ++ (flag_member (codes "sensitive") sensitive
    ++ list_member (codes "windows") windows_object (case_windows [] preds))
op_members op.Sequence = text_member (codes "op") (codes "sequence")
op_members op.Rotate = text_member (codes "op") (codes "rotate")
op_members (op.Random seed) = text_member (codes "op") (codes "random")
op_members (op.Add normalize) = text_member (codes "op") (codes "add")
op_members (op.Amplify factor) = text_member (codes "op") (codes "amplify")
op_members op.Mean = text_member (codes "op") (codes "mean")
op_members op.Stereo = text_member (codes "op") (codes "stereo")
op_members (op.Crossfade overlap) = text_member (codes "op") (codes "crossfade")
    ++ number_member (codes "overlap") overlap
op_members (op.Buffer buffer) = text_member (codes "op") (codes "buffer")
op_members (op.Clock id) = text_member (codes "op") (codes "clock")

-- The JSON object of a source: its operator, its channels, the numbers of its children, whether it is never silent,
-- and the byte of the script at which the call that made it begins.
abbrev pub source_object : Node → (always : Bool) → (at : ℕ) → List Token
source_object node always at = object (op_members node.op ++ (kind_member node.kind
    ++ (list_member (codes "children") (λ child. number (decimal child) ∷ []) node.children
    ++ (flag_member (codes "always") always ++ number_member (codes "at") at))))

-- The members of a plan: its rate, its tick, its outputs and its sources. `ats` has the byte of the script at which
-- the call of each source begins.
abbrev pub plan_members : Plan → (ats : List ℕ) → Inferred → List Token
plan_members plan ats inferred = number_member (codes "rate") plan.rate ++ (number_member (codes "tick") plan.frame
    ++ (list_member (codes "outputs") (output_object plan inferred) plan.sinks
    ++ member_by_threes (codes "sources") source_object plan.nodes inferred.marks.items ats))
