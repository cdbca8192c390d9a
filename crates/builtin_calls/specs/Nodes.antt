-- Nodes that a call adds to the plan, and the limits on them.
use Rattle.std.specs.Prelude.{ℕ, ◌+◌, List, length, nat_le, slice_index, true, false, Result, Ok, Err}
use Rattle.liq_base.specs.declared.limits.TheConstants.{MAX_NODES, MAX_CHILDREN, MAX_CROSSFADES}
use Rattle.liq_base.specs.declared.memory.Kind.{Kind}
use Rattle.plan_core.specs.declared.node.Node.{Node}
use Rattle.plan_core.specs.declared.plan.Plan.{Plan}
use Rattle.plan_core.specs.declared.sink.BufferPlan.{BufferPlan}
use Rattle.plan_core.specs.Plans.{crossfades_from, crossfade_counts, with_node, with_buffer}
use Rattle.script_values.specs.declared.fault.Stop.{Stop}
use Rattle.script_values.specs.declared.fault.Stop.TheVariants.{TooManySources, TooLarge}
use Rattle.script_values.specs.declared.fault.Limit.{Limit}
use Rattle.script_values.specs.declared.fault.Limit.TheVariants.{Children, Crossfades}
use Rattle.script_values.specs.declared.machine.Machine.{Machine}
use Rattle.script_values.specs.Outcomes.{◌>>=◌, Outcome}
use Rattle.script_values.specs.Values.{Source}

-- Checks a number n against a bound: gives n where it is at most `most`, and else the fault that this limit, such as
-- that on overlaps, was passed.
abbrev pub at_most : ℕ → Limit → ℕ → Result ℕ Stop
at_most most limit n =
    elim (nat_le n most) [
      | true ↦ Ok n
      | false ↦ Err (TooLarge limit)
    ]

-- Checks how many children a new node gets: gives the list of their numbers where it has at most 65535, and else the
-- fault that they are too many.
abbrev pub few : List ℕ → Result (List ℕ) Stop
few children =
    elim (nat_le (length children) MAX_CHILDREN) [
      | true ↦ Ok children
      | false ↦ Err (TooLarge Children)
    ]

-- How many crossfades one below the other there would be at most with a new crossfade over node `child`: on a path from
-- it down through children, itself counted. Evaluation refuses more than 4.
abbrev pub crossfades_with : ℕ → Plan → ℕ
crossfades_with child plan = 1 + slice_index (crossfade_counts plan.nodes) child

-- Adds a node to the plan and gives its number. Faults: a path down from it has more than 4 crossfades, or the plan has
-- as many nodes as it may.
unfoldable pub push : Node → Machine → Result (ℕ × Machine) Stop
push node m = do
  crossfades ← at_most MAX_CROSSFADES Crossfades (crossfades_from m.plan.nodes node)
  elim (nat_le MAX_NODES (length m.plan.nodes)) [
    | true ↦ Err TooManySources
    | false ↦ Ok (length m.plan.nodes, record m { plan = with_node m.plan node })
  ]

-- Adds a node to the plan; the value is the new node as a source of the script.
unfoldable pub add : Node → Machine → Outcome
add node m = push node m >>= λ x. Ok (Source x.0, x.1)

-- Adds a buffer of these sizes to the plan, with a sink that feeds it from node `source` and a node that reads it. The
-- value is the reader as a source; the fault is a plan that is full.
unfoldable pub add_buffer : ℕ → Kind → BufferPlan → Machine → Outcome
add_buffer source k buffer m =
    elim (nat_le MAX_NODES (length m.plan.nodes)) [
      | true ↦ Err TooManySources
      | false ↦ Ok (Source (length m.plan.nodes), record m { plan = with_buffer m.plan source k buffer })
    ]
