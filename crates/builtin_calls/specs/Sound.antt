-- What the builtin calls keep true of the state of an evaluation.
use Rattle.std.specs.Prelude.{◌≡◌, ℕ, ◌+◌, ◌≤◌, length, slice_get, Some, count_by}
use Rattle.liq_base.specs.declared.limits.TheConstants.{MAX_OUTPUTS}
use Rattle.plan_core.specs.declared.node.Node.{Node}
use Rattle.plan_core.specs.Plans.{IsWellFormed, is_output}
use Rattle.script_values.specs.declared.machine.Machine.{Machine}

-- What holds of the state of an evaluation at all times: the plan is well formed, it has at most 64 outputs, and no
-- more feeds of buffers than nodes.
pub record IsSound (m : Machine) : Type 0 where
  pub well_formed : IsWellFormed m.plan
  pub outputs : count_by is_output m.plan.sinks ≤ MAX_OUTPUTS
  pub feeds : length m.plan.sinks ≤ count_by is_output m.plan.sinks + length m.plan.nodes

-- What a step of evaluation, from state m to state n, never breaks: a sound state stays sound, and each node of the
-- plan stays as it is, under its number.
pub record Keeps (m n : Machine) : Type 0 where
  pub sound : IsSound m → IsSound n
  pub nodes : (i : ℕ) (node : Node) → slice_get m.plan.nodes i ≡ Some node → slice_get n.plan.nodes i ≡ Some node
