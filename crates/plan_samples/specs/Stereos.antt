-- Plans of stereo nodes.
use Rattle.std.specs.Prelude.{◌≡◌, ℕ, Option, None, Some, List, [], ◌∷◌, All, false, slice_get}
use Rattle.liq_base.specs.declared.memory.Kind.TheVariants.{Stereo}
use Rattle.plan_core.specs.declared.node.Node.{Node}
use Rattle.plan_core.specs.declared.node.Op.{Op}
use Rattle.plan_core.specs.declared.node.Op.TheVariants.{Blank}
use Rattle.plan_core.specs.declared.plan.Plan.{Plan}
use Rattle.plan_core.specs.declared.sink.SinkPlan.{SinkPlan}
use Rattle.plan_core.specs.declared.sink.SinkPlan.TheVariants.{Output, Feed}
use Rattle.plan_core.specs.Plans.{HasChildren, HasKind, IsInRange, IsNodeOver, IsNoReader, IsWellFormed, is_output}

-- a stereo node of a plan, of this operator, over the children with these numbers
abbrev pub stereo_node : Op → (children : List ℕ) → Node
stereo_node op children = record { op = op; kind = Stereo; children = children }

-- a stereo node that gives silence without end
abbrev pub blank : Node
blank = stereo_node (Blank 0) []

-- a plan is well formed, and each of its nodes gives stereo
pub record IsStereo (plan : Plan) : Type 0 where
  pub well_formed : IsWellFormed plan
  pub stereo : (i : ℕ) (node : Node) → slice_get plan.nodes i ≡ Some node → node.kind ≡ Stereo

-- A stereo node of the operator `op` may have `children` stereo children. It reads no buffer, and its numbers, such as
-- the overlap of a crossfade, are in range.
pub record IsSuited (op : Op) (children : ℕ) : Type 0 where
  pub count : HasChildren op children
  pub kind : HasKind op Stereo Stereo
  pub range : IsInRange op
  pub reader : IsNoReader op

-- a node may be added to a plan: its children are there and suit it, and it reads no buffer
pub record CanStand (plan : Plan) (node : Node) : Type 0 where
  pub over : IsNodeOver plan.nodes node
  pub reader : IsNoReader node.op

-- none of these sinks is an output: each feeds a buffer
abbrev pub AreFeeds : List SinkPlan → Type 0
AreFeeds sinks = All (λ sink. is_output sink ≡ false) sinks

-- the node that the only output writes, if a list of sinks has just one output and ends with it
abbrev pub sole_node : List SinkPlan → Option ℕ
sole_node [] = None
sole_node (Feed buffer node ∷ sinks) = sole_node sinks
sole_node (Output name node fallible wide ∷ []) = Some node
sole_node (Output name node fallible wide ∷ sink ∷ sinks) = None
