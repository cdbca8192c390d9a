-- The clock of each node, by the first forcing of its group.
use Rattle.std.specs.Prelude.{ℕ, Option, Some, None, List, codes}
use Rattle.plan_core.specs.declared.node.Node.{Node}
use Rattle.plan_core.specs.declared.plan.Plan.{Plan}
use Rattle.clock_forcings.specs.declared.forcings.Forced.{Forced}
use Rattle.clock_forcings.specs.declared.forcings.Forced.TheVariants.{Id, Sub, AnyMain}
use Rattle.clock_forcings.specs.Forcings.{id_at, forced_on, forcings}
use Rattle.clock_forcings.specs.Found.{first_of}
use Rattle.clock_infer.specs.Assignments.{Place, Main, Under}

-- the clock of a group of nodes that share one, by the first that a node or sink asks for (forces): the id or sub-clock
-- that it asks for, and else the main clock with the id "main"
abbrev pub place_of : List Node → Option Forced → Place
place_of nodes None = Main (codes "main")
place_of nodes (Some (Id k)) = Main (id_at nodes k)
place_of nodes (Some (Sub k)) = Under k
place_of nodes (Some AnyMain) = Main (codes "main")

-- the clock of node i: the first that a node or sink asks for, for any node of its group, and else "main"; `group` has
-- for each node the least of those with which it shares a clock
abbrev pub clock_by : Plan → (group : ℕ → ℕ) → ℕ → Place
clock_by plan group i = place_of plan.nodes (first_of (forced_on group (group i) (forcings plan)))
