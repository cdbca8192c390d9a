-- What leaves an output without a sound.
use Rattle.std.specs.Prelude.{◌≡◌, ℕ, List, [], ◌∷◌, Option, Some, None, if◌then◌else◌}
use Rattle.std.specs.Str.{bytes_eq}
use Rattle.plan_core.specs.declared.plan.Plan.{Plan}
use Rattle.plan_core.specs.declared.sink.SinkPlan.{SinkPlan}
use Rattle.plan_core.specs.declared.sink.SinkPlan.TheVariants.{Output, Feed}
use Rattle.plan_blames.specs.Needs.{IsCause}
use Rattle.script_plan.specs.Plans.{IsPlan}
use Rattle.where_lines.specs.Sources.{IsSourceAt}

-- the node that a sink plays, if the sink is the output of this name; a feed of a buffer is no output
abbrev pub node_named : List ℕ → SinkPlan → Option ℕ
node_named name (Output other node fallible wide) = if bytes_eq other name then Some node else None
node_named name (Feed buffer node) = None

-- the node of the first output with a name, if this sink is it, and else the one found among the later sinks
abbrev pub or_next : Option ℕ → Option ℕ → Option ℕ
or_next (Some node) next = Some node
or_next None next = next

-- the node that the first output of this name among the sinks plays, if there is one
abbrev pub output_named : List ℕ → List SinkPlan → Option ℕ
output_named name [] = None
output_named name (sink ∷ sinks) = or_next (node_named name sink) (output_named name sinks)

-- A silence of node `output` of the plan is to be mended at one source, so that the node never falls silent. The call
-- in the script `text` that makes this source begins at byte `at`.
pub record IsCauseOf (text : List ℕ) (plan : Plan) (output at : ℕ) : Type 0 where
  pub source : ℕ
  pub cause : IsCause plan.nodes output source
  pub place : IsSourceAt text source at

-- A silence of the output of this name is to be mended at one source, so that the output never falls silent. The call
-- in the script `text` that makes this source begins at byte `at`.
pub record IsCauseAt (text name : List ℕ) (at : ℕ) : Type 0 where
  pub plan : Plan
  pub is_plan : IsPlan text plan
  pub output : ℕ
  pub output_is : output_named name plan.sinks ≡ Some output
  pub mended : IsCauseOf text plan output at
