use Rattle.std.proofs.Common.{length, subst}
use Rattle.node_states.specs.declared.state.NodeState.{NodeState}
use Rattle.node_states.specs.States.{StateStands}
use Rattle.node_states.proofs.FilledStretch.{state_filled}
use Rattle.node_states.proofs.state.NodeState.fill_stretch.Goals as goal

pub returns-then-wanting-clause-filled : goal.returns-then-wanting-clause-filled
returns-then-wanting-clause-filled c = λ setting sub past filled i work slots stands lane titled steps.
    state_filled setting sub past filled (length c.args.lefts.now) i c.args.title work slots c.args.lefts.now c.args.rights.now c.in-Cross.state c.fill_stretch.new.self
    c.fill_stretch.ensures.overlap c.fill_stretch.ensures.filled c.fill_stretch.ensures.least
    (subst (λ (s : NodeState). StateStands setting sub past filled i work s) c.in-Cross.is stands) lane titled steps
