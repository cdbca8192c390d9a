use Rattle.std.proofs.Common.{subst}
use Rattle.stream_meaning.specs.Operators.{Fades}
use Rattle.node_states.specs.declared.state.NodeState.TheVariants.{Cross}
use Rattle.node_states.specs.declared.state.NodeState.{NodeState}
use Rattle.node_states.specs.States.{StateStands}
use Rattle.node_states.proofs.Filled.{cross_more, cross_settled, cross_run}
use Rattle.node_states.proofs.state.NodeState.wants.Goals as goal

pub returns-in-Cross-clause-settled : goal.returns-in-Cross-clause-settled
returns-in-Cross-clause-settled c = λ setting sub past filled i work stands is begun.
    cross_settled setting sub past filled i work c.in-Cross.state c.wants.result c.wants.ensures.unsettled
    (subst (λ (s : NodeState). StateStands setting sub past filled i work s) c.in-Cross.is stands) is

pub returns-in-Cross-clause-run : goal.returns-in-Cross-clause-run
returns-in-Cross-clause-run c = λ setting sub past filled i overlap long stands is.
    let here : StateStands setting sub past filled i (Fades overlap) (Cross c.in-Cross.state) =
    subst (λ (s : NodeState). StateStands setting sub past filled i (Fades overlap) s) c.in-Cross.is stands in
    cross_run sub past filled i overlap c.in-Cross.state long here
    (cross_settled setting sub past filled i (Fades overlap) c.in-Cross.state c.wants.result c.wants.ensures.unsettled here is)

pub returns-in-Cross-clause-more : goal.returns-in-Cross-clause-more
returns-in-Cross-clause-more c = λ setting sub past filled i work long stands is.
    cross_more setting sub past filled i work c.in-Cross.state c.wants.result long c.wants.ensures.unsettled
    (subst (λ (s : NodeState). StateStands setting sub past filled i work s) c.in-Cross.is stands) is
