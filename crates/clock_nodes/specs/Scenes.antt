-- What an engine runs over: a plan with its files and the clock of each node.
use Rattle.std.specs.Prelude.{◌≡◌, ◌≤◌, length}
use Rattle.liq_base.specs.declared.limits.TheConstants.{MAX_NODES}
use Rattle.plan_core.specs.Plans.{AreNodes}
use Rattle.stream_meaning.specs.Instants.{Setting}
use Rattle.clock_nodes.specs.declared.scene.Scene.{Scene}

-- What an engine may rely on in its plan: each node's children come before it, there are no more nodes than a plan may
-- have, and each node has its clock.
pub record IsScene (scene : Scene) : Type 0 where
  pub nodes : AreNodes scene.plan.now.nodes
  pub few : length scene.plan.now.nodes ≤ MAX_NODES
  pub in_clocks : length scene.clocks.now ≡ length scene.plan.now.nodes

-- the setting with the plan, the files and the clocks of a scene, and with the start and the answers of another setting
abbrev pub setting_over : Scene → Setting → Setting
setting_over scene other = record {
  plan = scene.plan.now;
  library = scene.library.now;
  clocks = scene.clocks.now;
  start = other.start;
  answers = other.answers;
}
