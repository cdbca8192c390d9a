use Rattle.std.proofs.Common.{◌≡◌, ◌∙◌, length, ap, subst, sym}
use Rattle.node_states.specs.declared.state.NodeState.{NodeState}
use Rattle.node_states.specs.States.{StateStands}
use Rattle.stream_meaning.specs.Instants.{work_at}
use Rattle.stream_meaning.specs.Operators.{marks_at}
use Rattle.node_states.proofs.Offered.{cross_part, select_part, turn_part}
use Rattle.node_states.proofs.state.NodeState.offer.Goals as goal

pub returns-in-Cross : goal.returns-in-Cross
returns-in-Cross c = record {
  part = λ setting sub past filled i same at long stands settled.
      c.unpicked-in-Cross.ensures
      ∙ cross_part setting sub past filled i (work_at setting i c.args.node.now) c.args.slots.now c.in-Cross.state c.item.result long
      (subst (λ (s : NodeState). StateStands setting sub past filled i (work_at setting i c.args.node.now) s) c.in-Cross.is stands) settled c.item.ensures;
}

pub returns-in-Select : goal.returns-in-Select
returns-in-Select c = record {
  part = λ setting sub past filled i same at long stands settled.
      let many : length c.args.marks.now ≡ length c.args.slots.now = c.requires.marks ∙ sym c.requires.slots in
      c.picked.ensures
      ∙ select_part setting sub past filled i (work_at setting i c.args.node.now) c.args.slots.now c.in-Select.state c.mark_eligible.new.marks c.args.at.second
      c.offer-in-Select.result at (subst (λ (s : NodeState). StateStands setting sub past filled i (work_at setting i c.args.node.now) s) c.in-Select.is stands)
      (λ choice eligible is. c.mark_eligible.ensures setting.plan.rate i c.args.node.now.kind choice eligible is ∙ ap (marks_at eligible c.args.at.second) many)
      c.offer-in-Select.ensures.offered;
}

pub returns-in-Turn : goal.returns-in-Turn
returns-in-Turn c = record {
  part = λ setting sub past filled i same at long stands settled.
      c.picked-in-Turn.ensures
      ∙ turn_part setting sub past filled i (work_at setting i c.args.node.now) c.args.slots.now c.in-Turn.state c.offer-in-Turn.result
      (subst (λ (s : NodeState). StateStands setting sub past filled i (work_at setting i c.args.node.now) s) c.in-Turn.is stands) c.offer-in-Turn.ensures.offered;
}
