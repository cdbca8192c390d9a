use Rattle.std.proofs.Common.{◌≡◌, ◌<◌, ◌∙◌, length, get_or, arith, ap, sym}
use Rattle.std.specs.Option.{option_map_or}
use Rattle.clock_infer.specs.declared.clock_map.NodeClock.TheVariants.{Main, Sub}
use Rattle.stream_meaning.specs.Instants.{first_instants}
use Rattle.node_states.specs.States.{left, room}
use Rattle.clock_instants.proofs.Ahead.{ahead_less, through_less}
use Rattle.clock_nodes.specs.Scenes.{setting_over}
use Rattle.nested_instants.specs.Clocks.{clock_at, is_in, is_node}
use Rattle.nested_instants.proofs.Behind.{are_behind}
use Rattle.nested_instants.proofs.Children.{child_gave}
use Rattle.nested_instants.proofs.Kept.{goes_fewer}
use Rattle.nested_instants.proofs.Above.{idle_left}
use Rattle.nested_instants.proofs.FilledOn.{filled_kept, filled_on}
use Rattle.nested_instants.proofs.Levels.{kept_at, left_filled, left_kept, left_none, levels_under}
use Rattle.nested_instants.proofs.SubSteps.{sub_idle}
use Rattle.nested_instants.proofs.Taking.{needed_under, stand_under}
use Rattle.nested_instants.proofs.filling.fill_on.Goals as goal

pub keep-requires-clause-ranks : goal.keep-requires-clause-ranks
keep-requires-clause-ranks c = (c.requires.levels.rank, c.requires.levels.ranks)

pub returns-then-many-eq0-clause-left : goal.returns-then-many-eq0-clause-left
returns-then-many-eq0-clause-left c rank ranks =
    left_kept c.args.scene.now.clocks.now rank (rank (get_or c.args.scene.now.clocks.now c.args.k (Main 0))) c.args.k c.args.clocks.now c.keep.new.clocks c.keep.ensures.states c.keep.ensures.times c.keep.ensures.held c.keep.ensures.others c.keep.ensures.left c.keep.ensures.right

pub returns-then-many-eq0-clause-filled : goal.returns-then-many-eq0-clause-filled
returns-then-many-eq0-clause-filled c = record {
  filled = λ other sub rank progress more own n world fades before at parts held time.
      let S = setting_over c.args.scene.now other in
      filled_kept S sub rank world.ranks c.requires.ready.scene.in_clocks c.args.k c.requires.within progress more c.args.clocks.now c.keep.new.clocks c.goes_for-rest.result
      c.keep.ensures.states c.keep.ensures.times c.keep.ensures.held c.keep.ensures.kept c.keep.ensures.others c.keep.ensures.left c.keep.ensures.right before
      (λ some. record {
        n = n;
        at = at;
        gave = child_gave S sub c.args.k (first_instants S sub (Sub c.args.k) n) own c.args.clocks.now.latest.parts.items world.roots parts (c.goes_for-rest.ensures.gave some);
        goes = c.goes_for-rest.ensures.goes other sub (first_instants S sub (Sub c.args.k) n) before.reached.now.filled
            (are_behind S sub rank (Sub c.args.k) n before.reached.now c.args.clocks.now c.args.time world.ranks c.requires.ready.scene.in_clocks c.requires.ready.scene.nodes world.meaning
            (stand_under S sub rank world.ranks c.requires.ready.scene.in_clocks c.args.k c.requires.within progress more c.args.clocks.now before)
            (needed_under S sub rank world.ranks c.requires.ready.scene.in_clocks c.args.k c.requires.within progress more c.args.clocks.now before) at parts held time) some;
      });
}

pub run_clock-requires-clause-ready : goal.run_clock-requires-clause-ready
run_clock-requires-clause-ready c = record {
  scene = c.requires.ready.scene;
  clocks = c.requires.ready.clocks;
  idle = sub_idle c.args.k c.args.clocks.now c.requires.none;
  some = omega (arith, c.if-many-eq0.false);
  short = c.wanted-many.ensures.short;
  later = omega (arith, c.requires.ready.rate, c.goes_for-rest.ensures.later, c.wanted-many.ensures.rest);
}

pub run_clock-requires-clause-levels : goal.run_clock-requires-clause-levels
run_clock-requires-clause-levels c =
    let in_clocks : c.args.k < length c.args.scene.now.clocks.now = omega (arith, c.requires.within, c.requires.ready.scene.in_clocks) in
    levels_under c.args.scene.now.clocks.now c.args.k c.args.levels in_clocks c.requires.levels

pub returns-clause-left : goal.returns-clause-left
returns-clause-left c rank ranks =
    let in_clocks : c.args.k < length c.args.scene.now.clocks.now = omega (arith, c.requires.within, c.requires.ready.scene.in_clocks) in
    left_filled c.args.scene.now.clocks.now rank c.args.k c.args.clocks.now c.args.clocks.now c.run_clock.new.clocks c.fill_lane.new.clocks ranks in_clocks
    (left_none c.args.scene.now.clocks.now rank (rank (get_or c.args.scene.now.clocks.now c.args.k (Main 0))) (is_node c.args.k) c.args.clocks.now)
    (c.run_clock.ensures.left rank ranks)
    c.fill_lane.ensures.states c.fill_lane.ensures.times c.fill_lane.ensures.stretch_room

pub returns-clause-no_more : goal.returns-clause-no_more
returns-clause-no_more c =
    let in_clocks : c.args.k < length c.args.scene.now.clocks.now = omega (arith, c.requires.within, c.requires.ready.scene.in_clocks) in
    let kept = kept_at c.args.scene.now.clocks.now c.requires.levels.rank c.args.k c.args.clocks.now c.run_clock.new.clocks c.requires.levels.ranks in_clocks
    (c.run_clock.ensures.left c.requires.levels.rank c.requires.levels.ranks) in
    let same = ap (λ s. option_map_or left s 0) kept in
    omega (arith, same, c.fill_lane.ensures.no_more)

pub returns-clause-filled : goal.returns-clause-filled
returns-clause-filled c = record {
  filled = λ other sub rank progress more own n world fades before at parts held time.
      let S = setting_over c.args.scene.now other in
      let some : 0 < c.goes_for-rest.result = omega (arith, c.if-many-eq0.false, c.wanted-many.ensures.rest) in
      filled_on S sub rank world.ranks c.requires.ready.scene.in_clocks c.args.k c.requires.within progress more c.args.clocks.now before fades world.meaning own world.roots n
      c.wanted-many.result c.run_clock.new.clocks c.fill_lane.new.clocks
      (c.run_clock.ensures.run.run other sub rank before.reached.now own n (record {
        world = world;
        stand = stand_under S sub rank world.ranks c.requires.ready.scene.in_clocks c.args.k c.requires.within progress more c.args.clocks.now before;
        needed = needed_under S sub rank world.ranks c.requires.ready.scene.in_clocks c.args.k c.requires.within progress more c.args.clocks.now before;
        at = at;
        goes = goes_fewer S sub (Sub c.args.k) (first_instants S sub (Sub c.args.k) n) c.goes_for-rest.result c.wanted-many.result before.reached.now.filled c.args.clocks.now.room.held.items c.args.clocks.now.states.items c.wanted-many.ensures.rest
            (c.goes_for-rest.ensures.goes other sub (first_instants S sub (Sub c.args.k) n) before.reached.now.filled
            (are_behind S sub rank (Sub c.args.k) n before.reached.now c.args.clocks.now c.args.time world.ranks c.requires.ready.scene.in_clocks c.requires.ready.scene.nodes world.meaning
            (stand_under S sub rank world.ranks c.requires.ready.scene.in_clocks c.args.k c.requires.within progress more c.args.clocks.now before)
            (needed_under S sub rank world.ranks c.requires.ready.scene.in_clocks c.args.k c.requires.within progress more c.args.clocks.now before) at parts held time) some);
      }))
      (child_gave S sub c.args.k (first_instants S sub (Sub c.args.k) n) own c.args.clocks.now.latest.parts.items world.roots parts (c.goes_for-rest.ensures.gave some))
      (record {
        states = c.fill_lane.ensures.states;
        times = c.fill_lane.ensures.times;
        room = c.fill_lane.ensures.stretch_room;
        filled = λ past m work slots earlier after was is stands lane titled grows. c.fill_lane.ensures.filled S sub past m work slots earlier after was is stands lane titled grows;
        time = λ m earlier after was is stands. c.fill_lane.ensures.time other.start m earlier after was is stands;
      })
      c.requires.none (ap (λ l. l.parts.items) c.run_clock.ensures.latest ∙ parts) (c.run_clock.ensures.left rank world.ranks) c.run_clock.ensures.clocks.fit.size c.run_clock.ensures.clocks.in_times;
}

pub run_clock-requires-clause-ahead : goal.run_clock-requires-clause-ahead
run_clock-requires-clause-ahead c =
    ahead_less c.args.scene.now (Sub c.args.k) c.args.clocks.now.room.held.items c.args.clocks.now.states.items
    c.goes_for-rest.result c.wanted-many.result c.wanted-many.ensures.rest c.goes_for-rest.ensures.ahead

pub run_clock-requires-clause-through : goal.run_clock-requires-clause-through
run_clock-requires-clause-through c =
    through_less c.args.scene.now (Sub c.args.k) c.args.clocks.now.room.held.items c.args.clocks.now.states.items c.args.clocks.now.room.rests.items
    c.goes_for-rest.result c.wanted-many.result c.wanted-many.ensures.rest c.goes_for-rest.ensures.through

pub fill_lane-requires : goal.fill_lane-requires
fill_lane-requires c =
    let in_clocks : c.args.k < length c.args.scene.now.clocks.now = omega (arith, c.requires.within, c.requires.ready.scene.in_clocks) in
    let kept = kept_at c.args.scene.now.clocks.now c.requires.levels.rank c.args.k c.args.clocks.now c.run_clock.new.clocks c.requires.levels.ranks in_clocks
    (c.run_clock.ensures.left c.requires.levels.rank c.requires.levels.ranks) in
    let same = ap (λ s. option_map_or room s 0) kept in
    record {
      ready = record {
        scene = c.requires.ready.scene;
        clocks = c.run_clock.ensures.clocks;
        idle = idle_left c.args.scene.now.clocks.now c.requires.levels.rank (clock_at c.args.scene.now.clocks.now c.args.k) (is_in c.args.scene.now.clocks.now (Sub c.args.k)) (c.requires.levels.rank (Sub c.args.k))
            c.args.clocks.now c.run_clock.new.clocks (length c.args.scene.now.plan.now.nodes) c.requires.levels.ranks (sym c.requires.ready.scene.in_clocks) c.run_clock.ensures.clocks.stretch_room.in_rests
            (let in_clocks : c.args.k < length c.args.scene.now.clocks.now = omega (arith, c.requires.within, c.requires.ready.scene.in_clocks) in let up = c.requires.levels.ranks.deeper c.args.k in_clocks in omega (arith, up))
            (λ i inside. let in_clocks : c.args.k < length c.args.scene.now.clocks.now = omega (arith, c.requires.within, c.requires.ready.scene.in_clocks) in let up = c.requires.levels.ranks.deeper c.args.k in_clocks in
            let e : c.requires.levels.rank (clock_at c.args.scene.now.clocks.now i) ≡ c.requires.levels.rank (Sub c.args.k) = ap c.requires.levels.rank inside in omega (arith, e, up))
            (c.run_clock.ensures.left c.requires.levels.rank c.requires.levels.ranks) c.requires.idle;
        some = omega (arith, c.if-many-eq0.false);
        short = c.wanted-many.ensures.short;
        later = omega (arith, c.requires.ready.rate, c.goes_for-rest.ensures.later, c.wanted-many.ensures.rest);
      };
      within = c.requires.within;
      room = omega (arith, same, c.wanted-many.ensures.room);
    }
