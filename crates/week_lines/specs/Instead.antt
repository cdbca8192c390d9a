-- What plays in the place of a switch that has nothing to play, and whose clock a source follows.
use Rattle.std.specs.Prelude.{◌≡◌, ℕ, Option, Some, None, Bool, true, false, List, [], ◌∷◌, nat_eq, slice_get, if◌then◌else◌}
use Rattle.std.specs.List.{filter, list_any}
use Rattle.plan_core.specs.Plans.{sink_node}
use Rattle.plan_core.specs.declared.node.Node.{Node}
use Rattle.plan_core.specs.declared.node.Op.{Op}
use Rattle.plan_core.specs.declared.node.Op.TheVariants.{Blank, Crossfade, Fallback}
use Rattle.plan_core.specs.declared.plan.Plan.{Plan}
use Rattle.plan_core.specs.declared.sink.SinkPlan.{SinkPlan}
use Rattle.week_lines.specs.declared.above.Instead.{Instead}
use Rattle.week_lines.specs.declared.above.Instead.TheVariants.{Silence, Next, Unknown}

-- whether some sink, an output or the feed of a buffer, plays source `number`
abbrev pub is_written : List SinkPlan → (number : ℕ) → Bool
is_written sinks number = list_any (λ sink. nat_eq (sink_node sink) number) sinks

-- whether a node plays source `number`: it is one of its children
abbrev pub plays : (number : ℕ) → Node → Bool
plays number node = list_any (λ child. nat_eq child number) node.children

-- the nodes of a plan that have source `number` among their children
abbrev pub players_of : List Node → (number : ℕ) → List Node
players_of nodes number = filter (plays number) nodes

-- the first of these children that is another source than `number`; none if there is none
abbrev pub first_other : (number : ℕ) → List ℕ → Option ℕ
first_other number [] = None
first_other number (child ∷ children) = if nat_eq child number then first_other number children else Some child

-- the child to which a fallback with these children goes on when source `number` offers nothing: the first behind it
-- that is another source
abbrev pub child_behind : (number : ℕ) → List ℕ → Option ℕ
child_behind number [] = None
child_behind number (child ∷ children) =
    if nat_eq child number then first_other number children else child_behind number children

-- what plays in the place of a switch that offers nothing, if a fallback goes on to a source of this operator: silence
-- for a blank, and otherwise the fallback's next source
abbrev pub instead_by : Op → Instead
instead_by (Blank track) = Silence
instead_by _ = Next

-- what plays in the place of a switch that offers nothing, if a fallback goes on to this node; not known where there is
-- no node
abbrev pub instead_found : Option Node → Instead
instead_found None = Unknown
instead_found (Some node) = instead_by node.op

-- what plays in the place of a switch that offers nothing, if a fallback goes on to the node of this number; not known
-- without one
abbrev pub instead_at : List Node → Option ℕ → Instead
instead_at nodes None = Unknown
instead_at nodes (Some n) = instead_found (slice_get nodes n)

-- What plays in the place of source `number` when it offers nothing, where one node alone plays it, of this operator
-- and with these children. If that is a fallback, it is its next child; otherwise it is not known.
abbrev pub instead_below : List Node → (number : ℕ) → Op → (children : List ℕ) → Instead
instead_below nodes number (Fallback sensitive) children = instead_at nodes (child_behind number children)
instead_below nodes number _ children = Unknown

-- what plays in the place of source `number` when it offers nothing, where the nodes `players` play it: it is known
-- only if that is one node
abbrev pub instead_among : List Node → (number : ℕ) → (players : List Node) → Instead
instead_among nodes number (player ∷ []) = instead_below nodes number player.op player.children
instead_among nodes number _ = Unknown

-- what plays in the place of source `number` of a plan when it offers nothing: known only where no sink takes it and
-- one node alone plays it
abbrev pub instead_of : Plan → (number : ℕ) → Instead
instead_of plan number =
    if is_written plan.sinks number then Unknown
    else instead_among plan.nodes number (players_of plan.nodes number)

-- whether this operator is a crossfade, which has an own clock for what lies below it
abbrev pub is_crossfade : Op → Bool
is_crossfade (Crossfade overlap) = true
is_crossfade _ = false

-- a source lies below a crossfade, whose own clock it then follows
pub data IsBelow (nodes : List Node) : ℕ → Type 0 where
  OfCrossfade : (number player : ℕ) (node : Node) → slice_get nodes player ≡ Some node → plays number node ≡ true
      → is_crossfade node.op ≡ true → IsBelow nodes number
  OfBelow : (number player : ℕ) (node : Node) → slice_get nodes player ≡ Some node → plays number node ≡ true
      → IsBelow nodes player → IsBelow nodes number
