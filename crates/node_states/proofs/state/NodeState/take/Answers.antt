use Rattle.std.proofs.Common.{sym, subst}
use Rattle.stream_meaning.specs.Operators.{Reads}
use Rattle.node_states.specs.declared.state.NodeState.{NodeState}
use Rattle.node_states.specs.declared.state.NodeState.TheVariants.{Read}
use Rattle.node_states.specs.States.{StateStands}
use Rattle.node_states.specs.Takes.{HasBegun, HasTakenSome}
use Rattle.node_states.proofs.Chunks.{begun_other, has_begun, has_taken_some, on_err}
use Rattle.node_states.proofs.state.NodeState.take.Goals as goal

pub returns-in_ok-take_all-in-Read-clause-took : goal.returns-in_ok-take_all-in-Read-clause-took
returns-in_ok-take_all-in-Read-clause-took g c =
    subst (λ (s : NodeState). HasBegun g.T.Taps.stands c.args.buffer s (Read c.take_all.new.reader) c.args.taps.now c.take_all.new.taps) (sym c.in-Read.is)
    (has_begun g.T.Taps.stands c.args.buffer c.in-Read.reader c.take_all.new.reader c.args.taps.now c.take_all.new.taps c.in_ok-take_all-in-Read.ensures.took)

pub returns-in_err-take_all-in-Read-clause-stopped : goal.returns-in_err-take_all-in-Read-clause-stopped
returns-in_err-take_all-in-Read-clause-stopped g c =
    on_err c.from_residual.result (subst (λ (s : NodeState). HasTakenSome g.T.Taps.stands c.args.buffer s c.args.taps.now c.take_all.new.taps) (sym c.in-Read.is)
    (has_taken_some g.T.Taps.stands c.args.buffer c.in-Read.reader c.args.taps.now c.take_all.new.taps c.in_err-take_all-in-Read.ensures.stopped))

pub returns-in-Leaf-clause-took : goal.returns-in-Leaf-clause-took
returns-in-Leaf-clause-took g c = begun_other g.T.Taps.stands c.args.buffer _ c.args.taps.now
    (λ setting sub past filled i buffer at. subst (λ (s : NodeState). StateStands setting sub past filled i (Reads buffer) s) c.in-Leaf.is at)

pub returns-in-Select-clause-took : goal.returns-in-Select-clause-took
returns-in-Select-clause-took g c = begun_other g.T.Taps.stands c.args.buffer _ c.args.taps.now
    (λ setting sub past filled i buffer at. subst (λ (s : NodeState). StateStands setting sub past filled i (Reads buffer) s) c.in-Select.is at)

pub returns-in-Turn-clause-took : goal.returns-in-Turn-clause-took
returns-in-Turn-clause-took g c = begun_other g.T.Taps.stands c.args.buffer _ c.args.taps.now
    (λ setting sub past filled i buffer at. subst (λ (s : NodeState). StateStands setting sub past filled i (Reads buffer) s) c.in-Turn.is at)

pub returns-in-Mix-clause-took : goal.returns-in-Mix-clause-took
returns-in-Mix-clause-took g c = begun_other g.T.Taps.stands c.args.buffer _ c.args.taps.now
    (λ setting sub past filled i buffer at. subst (λ (s : NodeState). StateStands setting sub past filled i (Reads buffer) s) c.in-Mix.is at)

pub returns-in-Idle-clause-took : goal.returns-in-Idle-clause-took
returns-in-Idle-clause-took g c = begun_other g.T.Taps.stands c.args.buffer _ c.args.taps.now
    (λ setting sub past filled i buffer at. subst (λ (s : NodeState). StateStands setting sub past filled i (Reads buffer) s) c.in-Idle.is at)

pub returns-in-Cross-clause-took : goal.returns-in-Cross-clause-took
returns-in-Cross-clause-took g c = begun_other g.T.Taps.stands c.args.buffer _ c.args.taps.now
    (λ setting sub past filled i buffer at. subst (λ (s : NodeState). StateStands setting sub past filled i (Reads buffer) s) c.in-Cross.is at)
