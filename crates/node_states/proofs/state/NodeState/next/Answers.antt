use Rattle.std.proofs.Common.{subst}
use Rattle.node_states.specs.declared.state.NodeState.{NodeState}
use Rattle.node_states.specs.States.{StateStands}
use Rattle.node_states.proofs.Stepped.{cross_step, select_step, turn_step}
use Rattle.node_states.proofs.state.NodeState.next.Goals as goal

pub returns-in-Cross-clause-stands : goal.returns-in-Cross-clause-stands
returns-in-Cross-clause-stands c = λ setting sub past moment filled i work slots same long stands settled many is part_is mark_is.
    cross_step setting sub past moment filled i work slots c.in-Cross.state c.step_crossfade.new.state c.args.part c.args.is_demanded c.gives-gave.result long
    c.gives-gave.ensures c.step_crossfade.ensures.overlap c.step_crossfade.ensures.stands
    (subst (λ (s : NodeState). StateStands setting sub past filled i work s) c.in-Cross.is stands) settled is (record { part_is = part_is; mark_is = mark_is })

pub returns-in-Select-clause-stands : goal.returns-in-Select-clause-stands
returns-in-Select-clause-stands c = λ setting sub past moment filled i work slots same long stands settled many is part_is mark_is.
    select_step setting sub past moment filled i work slots c.args.children c.in-Select.state c.step_selection.new.state c.args.part c.args.is_demanded c.gives-gave.result
    many c.gives-gave.ensures c.step_selection.ensures.rule c.step_selection.ensures.used c.step_selection.ensures.unused
    (subst (λ (s : NodeState). StateStands setting sub past filled i work s) c.in-Select.is stands) is (record { part_is = part_is; mark_is = mark_is })

pub returns-in-Turn-clause-stands : goal.returns-in-Turn-clause-stands
returns-in-Turn-clause-stands c = λ setting sub past moment filled i work slots same long stands settled many is part_is mark_is.
    turn_step setting sub past moment filled i work slots c.args.children c.in-Turn.state c.step_turn.new.state c.args.part c.args.is_demanded c.gives-gave.result
    many c.gives-gave.ensures c.step_turn.ensures.given c.step_turn.ensures.stayed
    (subst (λ (s : NodeState). StateStands setting sub past filled i work s) c.in-Turn.is stands) is (record { part_is = part_is; mark_is = mark_is })
