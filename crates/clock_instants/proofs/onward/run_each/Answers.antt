use Rattle.std.proofs.Common.{rules, ◌≡◌, ◌<◌, ◌∙◌, suc, Some, ℤ, List, length, get_or, slice_get, arith, ap, sym, refl, subst}
use Rattle.std.specs.Prelude.{is_some}
use Rattle.std.proofs.lemmas.List.{get_or-set_same}
use Rattle.std.proofs.lemmas.Option.{slice_get-get_or}
use Rattle.std.proofs.Math.ListN.{length-set}
use Rattle.frame_core.specs.Slots.{title_of}
use Rattle.stream_meaning.specs.declared.part.Part.{Part}
use Rattle.stream_meaning.specs.Instants.{crossfaded, part_at, silent, work_at}
use Rattle.op_mix.specs.Stretches.{samples_of}
use Rattle.node_states.specs.Passing.{LaneFills}
use Rattle.clock_nodes.specs.Scenes.{setting_over}
use Rattle.clock_nodes.proofs.Going.{fit_set}
use Rattle.clock_instants.proofs.Gone.{reads_begun, run_all, run_none, run_skip, run_step}
use Rattle.clock_instants.proofs.Kept.{laid_none, laid_skip, laid_step, parts_given}
use Rattle.clock_nodes.proofs.Places.{item_there, slice_get-set_other}
use Rattle.clock_nodes.proofs.Walking.{next_own, not_here}
use Rattle.clock_instants.proofs.onward.run_each.Goals as goal

pub loop-i-init : goal.loop-i-init
loop-i-init c =
    let first = c.first-i.ensures c.args.scene.now.clocks.now c.requires.ready.chains in
    record {
      high = first.high;
      own = first.own;
      fit = c.requires.ready.fit;
      laid = laid_skip c.args.scene.now.clocks.now c.args.clock (part_at c.args.held.now) (λ k. silent) c.args.parts.now 0 c.first-i.result first
          (laid_none c.args.scene.now.clocks.now c.args.clock (part_at c.args.held.now) (λ k. silent) c.args.parts.now (λ k outside. c.requires.room.clear k));
      in_parts = refl;
      in_left = refl;
      in_right = refl;
      spare = c.requires.room.in_spare;
      laned = λ k has. has;
      others = λ k outside. refl;
      stayed = λ k high. refl;
      left_kept = λ k outside. refl;
      right_kept = λ k outside. refl;
      done = λ other sub past filled going.
          run_skip (setting_over c.args.scene.now other) sub c.args.clock past c.args.many filled c.args.states.now 0 c.first-i.result c.args.left.now c.args.right.now c.args.states.now first
          (run_none (setting_over c.args.scene.now other) sub c.args.clock past c.args.many filled c.args.states.now c.args.left.now c.args.right.now c.args.states.now);
    }

pub loop-i-smaller : goal.loop-i-smaller
loop-i-smaller c =
    let next = c.after-i.ensures c.args.scene.now.clocks.now c.requires.ready.chains in
    let low = next.low in
    omega (arith, low, c.loop-i-test.true)

pub run_node-requires : goal.run_node-requires
run_node-requires c =
    let in_nodes : c.loop-i.i < length c.args.scene.now.plan.now.nodes = omega (arith, c.requires.ready.scene.in_clocks, c.loop-i-test.true) in
    let in_states : c.loop-i.i < length c.loop-i.states = omega (arith, c.loop-i.invariant.fit.size, in_nodes) in
    let in_parts : c.loop-i.i < length c.loop-i.parts = omega (arith, c.loop-i.invariant.in_parts, c.requires.room.in_parts, in_nodes) in
    record {
      node = record {
        scene = c.requires.ready.scene;
        within = in_nodes;
        in_parts = length-set _ _ _ ∙ c.loop-i.invariant.in_parts ∙ c.requires.room.in_parts;
        count = c.requires.ready.many;
        fits = λ node found. c.loop-i.invariant.fit.each c.loop-i.i node _ found (slice_get-get_or _ _ _ in_states);
      };
      in_left = c.loop-i.invariant.in_left ∙ c.requires.room.in_left;
      in_right = c.loop-i.invariant.in_right ∙ c.requires.room.in_right;
      spare = c.loop-i.invariant.spare;
      ahead = λ gave.
          c.requires.ready.ahead.each c.loop-i.i _ c.loop-i-test.true (c.loop-i.invariant.own c.loop-i-test.true) (sym (c.loop-i.invariant.stayed c.loop-i.i (omega arith)) ∙ slice_get-get_or _ _ _ in_states)
          (sym (ap (λ (p : Part). is_some p.slot) (get_or-set_same c.loop-i.parts c.loop-i.i (get_or c.args.held.now c.loop-i.i silent) silent in_parts)) ∙ gave);
    }

pub loop-i-preserved : goal.loop-i-preserved
loop-i-preserved c =
    let in_nodes : c.loop-i.i < length c.args.scene.now.plan.now.nodes = omega (arith, c.requires.ready.scene.in_clocks, c.loop-i-test.true) in
    let in_states : c.loop-i.i < length c.loop-i.states = omega (arith, c.loop-i.invariant.fit.size, in_nodes) in
    let in_parts : c.loop-i.i < length c.loop-i.parts = omega (arith, c.loop-i.invariant.in_parts, c.requires.room.in_parts, in_nodes) in
    let inside = c.loop-i.invariant.own c.loop-i-test.true in
    let after = next_own c.args.scene.now.clocks.now c.args.clock c.loop-i.i c.after-i.result inside (c.after-i.ensures c.args.scene.now.clocks.now c.requires.ready.chains) in
    let there : slice_get c.loop-i.states c.loop-i.i ≡ Some (get_or c.loop-i.states c.loop-i.i c.index-states-i.result) = slice_get-get_or _ _ _ in_states in
    let was = sym (c.loop-i.invariant.stayed c.loop-i.i (omega arith)) ∙ there in
    let node = item_there c.args.scene.now.plan.now.nodes c.loop-i.i in_nodes in
    let laid = laid_step c.args.scene.now.clocks.now c.args.clock (part_at c.args.held.now) (λ k. silent) c.loop-i.parts c.loop-i.i (get_or c.args.held.now c.loop-i.i silent) in_parts inside refl c.loop-i.invariant.laid in
    record {
      high = after.high;
      own = after.own;
      fit = fit_set _ _ _ _ in_states (λ node found. c.run_node.ensures.fits node found) c.loop-i.invariant.fit;
      laid = laid_skip c.args.scene.now.clocks.now c.args.clock (part_at c.args.held.now) (λ k. silent) _ (suc c.loop-i.i) c.after-i.result after laid;
      in_parts = length-set _ _ _ ∙ c.loop-i.invariant.in_parts;
      in_left = search rules;
      in_right = search rules;
      spare = c.run_node.ensures.spare;
      laned = λ k has. c.run_node.ensures.laned k (c.loop-i.invariant.laned k has);
      others = λ k outside. slice_get-set_other c.loop-i.states c.loop-i.i k c.run_node.new.state (λ e. not_here c.args.scene.now.clocks.now c.args.clock c.loop-i.i k inside outside (sym e))
          ∙ c.loop-i.invariant.others k outside;
      stayed = λ k high. slice_get-set_other c.loop-i.states c.loop-i.i k c.run_node.new.state (λ e. (let low = after.low in omega (arith, high, low, e)))
          ∙ c.loop-i.invariant.stayed k (let low = after.low in omega (arith, high, low));
      left_kept = λ k outside. (c.run_node.ensures.samples k (not_here c.args.scene.now.clocks.now c.args.clock c.loop-i.i k inside outside)).on_left ∙ c.loop-i.invariant.left_kept k outside;
      right_kept = λ k outside. (c.run_node.ensures.samples k (not_here c.args.scene.now.clocks.now c.args.clock c.loop-i.i k inside outside)).on_right ∙ c.loop-i.invariant.right_kept k outside;
      done = λ other sub past filled going.
          let S = setting_over c.args.scene.now other in
          let before = c.loop-i.invariant.done other sub past filled going in
          run_skip (setting_over c.args.scene.now other) sub c.args.clock past c.args.many filled c.args.states.now (suc c.loop-i.i) c.after-i.result c.run_node.new.left c.run_node.new.right _ after
          (run_step (setting_over c.args.scene.now other) sub c.args.clock past c.args.many filled c.args.states.now c.loop-i.i c.loop-i.left c.loop-i.right c.run_node.new.left c.run_node.new.right c.loop-i.states c.run_node.new.state in_states
          (λ k low. (c.run_node.ensures.samples k (λ e. omega (arith, low, e))).on_left) (λ k low. (c.run_node.ensures.samples k (λ e. omega (arith, low, e))).on_right)
          node.0 _ (record { there = node.1; inside = inside }) was
          (c.run_node.ensures.run.run other sub c.args.clock past (filled c.loop-i.i) node.0 (record {
            long = going.long;
            stretch = going.stretch;
            is = record { there = node.1; inside = inside };
            laned = c.loop-i.invariant.laned c.loop-i.i (going.laned c.loop-i.i node.0 (record { there = node.1; inside = inside }));
            given = λ k low. parts_given S sub c.args.clock past c.args.held.now _ (suc c.loop-i.i) going.held_are laid k (omega (arith, low)) (omega (arith, low, in_nodes));
            begun = reads_begun (work_at S c.loop-i.i node.0) (filled c.loop-i.i) past (λ buffer at. going.begun.each c.loop-i.i node.0 buffer (record { there = node.1; inside = inside }) at);
            stands = going.stands.each c.loop-i.i node.0 _ (record { there = node.1; inside = inside }) was;
            lanes = λ k low gave. before.lanes k low gave;
            supplied = λ gave through.
                let apart = going.supplied.apart c.loop-i.i node.0 _ (record { there = node.1; inside = inside }) was gave through in
                let child = crossfaded c.args.scene.now.plan.now.nodes c.loop-i.i in
                subst (λ (l : List ℤ). LaneFills (sub c.loop-i.i) (filled c.loop-i.i) c.args.many (title_of (part_at c.args.held.now child).slot) l (samples_of c.loop-i.right child c.args.many)) (sym (c.loop-i.invariant.left_kept child apart))
                (subst (λ (r : List ℤ). LaneFills (sub c.loop-i.i) (filled c.loop-i.i) c.args.many (title_of (part_at c.args.held.now child).slot) (samples_of c.args.left.now child c.args.many) r) (sym (c.loop-i.invariant.right_kept child apart))
                (going.supplied.each c.loop-i.i node.0 _ (record { there = node.1; inside = inside }) was gave through));
          })) before);
    }

pub returns-clause-samples : goal.returns-clause-samples
returns-clause-samples c i outside = record { on_left = c.loop-i.invariant.left_kept i outside; on_right = c.loop-i.invariant.right_kept i outside }

pub returns-clause-run : goal.returns-clause-run
returns-clause-run c = record {
  run = λ other sub past filled going.
      run_all (setting_over c.args.scene.now other) sub c.args.clock past c.args.many filled c.args.states.now c.loop-i.i c.loop-i.left c.loop-i.right c.loop-i.states
      (let high = c.loop-i.invariant.high in omega (arith, high, c.requires.ready.scene.in_clocks, c.loop-i-test.false))
      (c.loop-i.invariant.done other sub past filled going);
}
