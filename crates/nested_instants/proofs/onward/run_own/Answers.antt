use Rattle.std.proofs.Common.{◌≡◌, ◌∙◌, List, length, slice_get, arith, ap, sym, subst}
use Rattle.std.proofs.lemmas.List.{with_items_is}
use Rattle.std.specs.Prelude.{slice_index_or}
use Rattle.stream_meaning.specs.Instants.{part_at}
use Rattle.node_states.specs.declared.state.NodeState.{NodeState}
use Rattle.clock_instants.specs.Stretches.{HasGoneOn, IsGoing}
use Rattle.clock_nodes.specs.States.{AllFit}
use Rattle.clock_nodes.specs.Scenes.{setting_over}
use Rattle.nested_instants.proofs.Restful.{resting_own}
use Rattle.nested_instants.proofs.onward.run_own.Goals as goal

pub returns-clause-clocks : goal.returns-clause-clocks
returns-clause-clocks c =
    let many : length c.run_nodes.new.states ≡ c.args.clocks.now.states.len = omega (arith, c.deref_mut.ensures.len) in
    let items = with_items_is c.args.clocks.now.states c.run_nodes.new.states many in
    record {
      fit = subst (AllFit c.args.scene.now) (sym items) c.run_nodes.ensures.fit;
      in_times = c.requires.ready.clocks.in_times;
      chains = c.requires.ready.clocks.chains;
      latest = c.requires.ready.clocks.latest;
      room = c.requires.ready.clocks.room;
      stretch_room = c.run_nodes.ensures.room;
      resting = resting_own c.args.scene.now c.args.clocks.now _ c.requires.ready.clocks.resting c.args.clock c.requires.ready.idle
          (λ i. ap (λ r. slice_index_or r.items i 0) c.run_nodes.ensures.rests)
          (λ i outside. ap (λ xs. slice_get xs i) items ∙ c.run_nodes.ensures.others i outside ∙ ap (λ xs. slice_get xs i) c.deref_mut.ensures.value)
          (λ i outside. ap (λ h. part_at h.items i) c.run_nodes.ensures.held);
      rates = c.requires.ready.clocks.rates;
      frames = c.requires.ready.clocks.frames;
    }

pub returns-clause-others : goal.returns-clause-others
returns-clause-others c i outside =
    let many : length c.run_nodes.new.states ≡ c.args.clocks.now.states.len = omega (arith, c.deref_mut.ensures.len) in
    ap (λ xs. slice_get xs i) (with_items_is c.args.clocks.now.states c.run_nodes.new.states many)
    ∙ c.run_nodes.ensures.others i outside ∙ ap (λ xs. slice_get xs i) c.deref_mut.ensures.value

pub returns-clause-run : goal.returns-clause-run
returns-clause-run c other sub past filled going =
    let S = setting_over c.args.scene.now other in
    let many : length c.run_nodes.new.states ≡ c.args.clocks.now.states.len = omega (arith, c.deref_mut.ensures.len) in
    let items = with_items_is c.args.clocks.now.states c.run_nodes.new.states many in
    subst (λ (xs : List NodeState). HasGoneOn S sub c.args.clock past c.args.many filled c.args.clocks.now.states.items c.run_nodes.new.stretch_room.left.items c.run_nodes.new.stretch_room.right.items xs) (sym items)
    (subst (λ (xs : List NodeState). HasGoneOn S sub c.args.clock past c.args.many filled xs c.run_nodes.new.stretch_room.left.items c.run_nodes.new.stretch_room.right.items c.run_nodes.new.states) c.deref_mut.ensures.value
    (c.run_nodes.ensures.run.run other sub past filled
    (subst (λ (xs : List NodeState). IsGoing S sub c.args.clock past c.args.many filled c.args.clocks.now.room.held.items xs c.args.clocks.now.room.left.items c.args.clocks.now.room.right.items) (sym c.deref_mut.ensures.value) going)))
