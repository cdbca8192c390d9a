-- Which children a demanded node uses: of those that it may use the ones that offer.
use Rattle.std.specs.Prelude.{◌≡◌, ℕ, List, [], Option, Some, slice_get}
use Rattle.plan_core.specs.declared.node.Node.{Node}
use Rattle.plan_core.specs.declared.plan.Plan.{Plan}
use Rattle.stream_meaning.specs.declared.part.Part.{Part}
use Rattle.stream_meaning.specs.Instants.{Setting, child_at, offering, part_at}
use Rattle.clock_instants.specs.declared.demand.Demand.{Demand}
use Rattle.clock_instants.specs.declared.demand.Demand.TheVariants.{Nothing, Picked, Offering}

-- the setting `other` (a plan, with its audio files and clocks), with `plan` in the place of its own plan
abbrev pub with_plan : Plan → Setting → Setting
with_plan plan other = record {
  plan = plan;
  library = other.library;
  clocks = other.clocks;
  start = other.start;
  answers = other.answers;
}

-- the children that a demanded node uses: none, the one at place `pick` if it offers a cell, or all that offer one;
-- `parts` has what each node offers at the instant, and `children` are numbers of nodes
abbrev pub uses_in : Demand → List Part → List ℕ → (pick : Option ℕ) → List ℕ
uses_in Nothing parts children pick = []
uses_in Picked parts children pick = offering parts (child_at children pick)
uses_in Offering parts children pick = offering parts children

-- Each of these nodes of a plan picks a child that offers a cell at the instant, or none. `parts` has what each node
-- offers and picks there.
pub record PicksOffer (nodes : List Node) (parts : List Part) : Type 0 where
  pub each : (i : ℕ) (node : Node) → slice_get nodes i ≡ Some node
      → offering parts (child_at node.children (part_at parts i).pick) ≡ child_at node.children (part_at parts i).pick
