use Rattle.std.proofs.Common.{ℕ, List, length, subst, sym}
use Rattle.stream_meaning.specs.declared.part.Part.{Part}
use Rattle.node_states.specs.declared.state.NodeState.{NodeState}
use Rattle.clock_instants.specs.Held.{AllAsk, AllPassOn}
use Rattle.clock_instants.specs.Stretches.{AllLieAhead, IsBehind}
use Rattle.clock_nodes.specs.Scenes.{setting_over}
use Rattle.nested_instants.proofs.keeping.rest_for.Goals as goal

pub returns-clause-ahead : goal.returns-clause-ahead
returns-clause-ahead c =
    subst (λ (xs : List NodeState). AllLieAhead c.args.scene.now c.args.clock c.args.clocks.now.room.held.items xs c.rest_of.result)
    c.deref-3.ensures.value
    (subst (λ (ps : List Part). AllLieAhead c.args.scene.now c.args.clock ps c.deref-3.result.now c.rest_of.result)
    c.deref-2.ensures.value c.rest_of.ensures.ahead)

pub returns-clause-through : goal.returns-clause-through
returns-clause-through c =
    subst (λ (ns : List ℕ). AllPassOn c.args.scene.now c.args.clock c.args.clocks.now.room.held.items c.args.clocks.now.states.items ns c.rest_of.result)
    c.deref-4.ensures.value
    (subst (λ (xs : List NodeState). AllPassOn c.args.scene.now c.args.clock c.args.clocks.now.room.held.items xs c.deref-4.result.now c.rest_of.result)
    c.deref-3.ensures.value
    (subst (λ (ps : List Part). AllPassOn c.args.scene.now c.args.clock ps c.deref-3.result.now c.deref-4.result.now c.rest_of.result)
    c.deref-2.ensures.value c.rest_of.ensures.through))

pub returns-clause-goes : goal.returns-clause-goes
returns-clause-goes c other sub past filled behind =
    let S = setting_over c.args.scene.now other in
    let seen : IsBehind S sub c.args.clock past filled c.args.time c.deref.result.now c.deref-2.result.now c.deref-3.result.now c.deref-4.result.now =
    subst (λ (parts : List Part). IsBehind S sub c.args.clock past filled c.args.time parts c.deref-2.result.now c.deref-3.result.now c.deref-4.result.now) (sym c.deref.ensures.value)
    (subst (λ (ps : List Part). IsBehind S sub c.args.clock past filled c.args.time c.args.clocks.now.latest.parts.items ps c.deref-3.result.now c.deref-4.result.now) (sym c.deref-2.ensures.value)
    (subst (λ (xs : List NodeState). IsBehind S sub c.args.clock past filled c.args.time c.args.clocks.now.latest.parts.items c.args.clocks.now.room.held.items xs c.deref-4.result.now) (sym c.deref-3.ensures.value)
    (subst (λ (ns : List ℕ). IsBehind S sub c.args.clock past filled c.args.time c.args.clocks.now.latest.parts.items c.args.clocks.now.room.held.items c.args.clocks.now.states.items ns) (sym c.deref-4.ensures.value) behind))) in
    record {
      stretch = c.rest_of.ensures.goes.stretch other sub past filled seen;
      held_is = behind.held_are;
      asks = subst (λ (xs : List NodeState). AllAsk S sub c.args.clock past filled xs (length c.args.scene.now.clocks.now) c.rest_of.result) c.deref-3.ensures.value
          (c.rest_of.ensures.goes.asks other sub past filled seen);
    }
