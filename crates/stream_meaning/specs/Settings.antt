-- A plan with all that its streams rest on.
use Rattle.std.specs.Prelude.{◌≡◌, ◌<◌, Some, List, ℕ, length, slice_get}
use Rattle.plan_core.specs.declared.node.Node.{Node}
use Rattle.plan_core.specs.declared.node.Op.TheVariants.{Single, Buffer}
use Rattle.plan_core.specs.declared.plan.Plan.{Plan}
use Rattle.plan_core.specs.declared.sink.SinkPlan.TheVariants.{Feed}
use Rattle.plan_core.specs.Plans.{IsWellFormed}
use Rattle.frame_core.specs.Library.{IsLibrary, tracks_of}
use Rattle.clock_infer.specs.declared.clock_map.ClockMap.{ClockMap}
use Rattle.clock_infer.specs.Answers.{IsClockMap}
use Rattle.stream_meaning.specs.Instants.{Setting}

-- The setting is right: its plan is well-formed, it has the clocks of the map `clocks`, and it starts in a second of
-- the week. Its library has the audio files of each node, and of a `single` just one.
pub record IsSetting (setting : Setting) (clocks : ClockMap) : Type 0 where
  pub plan : IsWellFormed setting.plan
  pub map : IsClockMap setting.plan clocks
  pub each : setting.clocks ≡ clocks.of
  pub library : IsLibrary setting.library
  pub leaves : length setting.library.leaves ≡ length setting.plan.nodes
  pub singles : (i : ℕ) (node : Node) (file : List ℕ) → slice_get setting.plan.nodes i ≡ Some node
      → node.op ≡ Single file
      → length (tracks_of setting.library i) ≡ 1
  pub start : setting.start < 604800

-- the plan has no buffer in use: no node that reads one, and no sink that feeds one
pub record HasNoBuffers (plan : Plan) : Type 0 where
  pub nodes : (i : ℕ) (node : Node) (buffer : ℕ) → slice_get plan.nodes i ≡ Some node → node.op ≡ Buffer buffer → ⊥
  pub sinks : (k buffer node : ℕ) → slice_get plan.sinks k ≡ Some (Feed buffer node) → ⊥
