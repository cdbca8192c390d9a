use Rattle.stream_meaning.specs.Instants.{first_instants}
use Rattle.clock_nodes.specs.Scenes.{setting_over}
use Rattle.nested_instants.proofs.Behind.{are_behind, has_run_none}
use Rattle.nested_instants.proofs.stretch.make_stretch.Goals as goal

pub returns-then-many-eq0-clause-run : goal.returns-then-many-eq0-clause-run
returns-then-many-eq0-clause-run c = record {
  run = λ other sub rank progress own n world stand needed at parts held time.
      has_run_none (setting_over c.args.scene.now other) sub rank own c.args.clock n progress c.args.clocks.now stand needed;
}

pub returns-clause-run : goal.returns-clause-run
returns-clause-run c = record {
  run = λ other sub rank progress own n world stand needed at parts held time.
      let S = setting_over c.args.scene.now other in
      c.run_clock.ensures.run.run other sub rank progress own n (record {
        world = world;
        stand = stand;
        needed = needed;
        at = at;
        goes = c.rest_for-many.ensures.goes other sub (first_instants S sub c.args.clock n) progress.filled
            (are_behind S sub rank c.args.clock n progress c.args.clocks.now c.args.time world.ranks c.requires.scene.in_clocks c.requires.scene.nodes world.meaning stand needed at parts held time);
      });
}
