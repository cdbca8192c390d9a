-- The outputs of a plan, each of which writes a source to a file.
use Rattle.std.specs.Prelude.{ℕ, List, nat_lt, Bool, true, false, bytes_eq, count_by, Ok, Err}
use Rattle.std.specs.List.{list_any}
use Rattle.liq_base.specs.declared.limits.TheConstants.{MAX_OUTPUTS}
use Rattle.plan_core.specs.declared.sink.SinkPlan.{SinkPlan}
use Rattle.plan_core.specs.declared.sink.SinkPlan.TheVariants.{Output, Feed}
use Rattle.plan_core.specs.Plans.{is_output, with_output}
use Rattle.script_values.specs.declared.fault.Stop.TheVariants.{SameOutput, TooLarge}
use Rattle.script_values.specs.declared.fault.Limit.TheVariants.{Outputs}
use Rattle.script_values.specs.declared.machine.Machine.{Machine}
use Rattle.script_values.specs.Outcomes.{Outcome}
use Rattle.script_values.specs.Values.{UnitValue}

-- Whether a sink of the plan is an output to the file of this name. A feed, which puts into a buffer, writes no file.
abbrev pub is_named : List ℕ → SinkPlan → Bool
is_named name (Output other node fallible wide) = bytes_eq name other
is_named name (Feed buffer node) = false

-- Adds an output to the plan, which writes node number `node` to a file, `wide` with samples of 24 bits. Faults: an
-- earlier output has this file, or there are 64 outputs.
unfoldable pub add_output : List ℕ → ℕ → (fallible wide : Bool) → Machine → Outcome
add_output name node fallible wide m =
    elim (list_any (is_named name) m.plan.sinks) [
      | true ↦ Err (SameOutput name)
      | false ↦ elim (nat_lt (count_by is_output m.plan.sinks) MAX_OUTPUTS) [
        | true ↦ Ok (UnitValue, record m { plan = with_output m.plan name node fallible wide })
        | false ↦ Err (TooLarge Outputs)
      ]
    ]
