use Rattle.std.proofs.Common.{◌≡◌, ◌+◌, ◌∙◌, ◌∷◌, suc, true, ap, subst, sym}
use Rattle.op_cross.specs.Runs.{run_of}
use Rattle.stream_meaning.specs.Operators.{Fades}
use Rattle.frame_core.specs.Library.{Sounds}
use Rattle.frame_core.specs.Slots.{title_of}
use Rattle.op_leaf.specs.Leaves.{leaf_slot}
use Rattle.op_leaf.specs.Standing.{StandsAt, leaf_of}
use Rattle.stream_meaning.specs.declared.part.Part.{Part}
use Rattle.stream_meaning.specs.Instants.{offer, position}
use Rattle.stretch_laws.specs.Stretches.{AreFilled}
use Rattle.node_states.specs.declared.state.NodeState.{NodeState}
use Rattle.node_states.specs.Passing.{asked, passes}
use Rattle.node_states.specs.States.{StateStands}
use Rattle.node_states.proofs.Rested.{cross_asked, cross_keeps, cross_rest, leaf_keeps, read_keeps, read_rest}
use Rattle.node_states.proofs.state.NodeState.rest.Goals as goal

pub returns-then-gave-2-clause-goes : goal.returns-then-gave-2-clause-goes
returns-then-gave-2-clause-goes c = λ latest work it.
    cross_rest latest.setting latest.sub latest.past latest.moment latest.filled latest.i work c.args.begins c.args.below c.args.below_title c.rest-then-gave-2.result c.in-Cross.state it.stood.long
    (subst (λ (s : NodeState). StateStands latest.setting latest.sub (latest.moment ∷ latest.past) latest.filled latest.i work s) c.in-Cross.is it.stood.stands) (it.stood.gave_is ∙ c.if-gave-2.true)
    (subst (λ (s : NodeState). passes s ≡ true → AreFilled latest.setting latest.sub latest.i latest.filled c.args.below c.args.below_title) c.in-Cross.is (it.stood.fills c.if-gave-2.true)) c.rest-then-gave-2.ensures.crossing
    c.rest-then-gave-2.ensures.ready c.rest-then-gave-2.ensures.plain c.rest-then-gave-2.ensures.below

pub returns-then-gave-3-clause-goes : goal.returns-then-gave-3-clause-goes
returns-then-gave-3-clause-goes c = λ latest work it.
    read_rest latest.setting latest.sub latest.past latest.moment latest.filled latest.i work c.args.begins c.rest-then-gave-3.result c.in-Read.state
    (subst (λ (s : NodeState). StateStands latest.setting latest.sub (latest.moment ∷ latest.past) latest.filled latest.i work s) c.in-Read.is it.stood.stands) it.begun (it.stood.gave_is ∙ c.if-gave-3.true) c.rest-then-gave-3.ensures.inner

pub returns-then-gave-2-clause-asks : goal.returns-then-gave-2-clause-asks
returns-then-gave-2-clause-asks c = λ latest overlap j it yes low.
    subst (λ (s : NodeState). run_of overlap (latest.sub latest.i) (suc (position latest.past latest.i) + j) ≡ latest.filled + asked (passes s) j) (sym c.in-Cross.is)
    (cross_asked latest.setting latest.sub latest.past latest.moment latest.filled latest.i overlap c.args.below c.args.below_title c.rest-then-gave-2.result j c.in-Cross.state it.long
    (subst (λ (s : NodeState). StateStands latest.setting latest.sub (latest.moment ∷ latest.past) latest.filled latest.i (Fades overlap) s) c.in-Cross.is it.stands) (it.gave_is ∙ yes)
    (subst (λ (s : NodeState). passes s ≡ true → AreFilled latest.setting latest.sub latest.i latest.filled c.args.below c.args.below_title) c.in-Cross.is (it.fills yes)) c.rest-then-gave-2.ensures.crossing
    c.rest-then-gave-2.ensures.ready c.rest-then-gave-2.ensures.plain c.rest-then-gave-2.ensures.below low)

pub returns-then-gave-clause-keeps : goal.returns-then-gave-clause-keeps
returns-then-gave-clause-keeps c = λ latest work it.
    leaf_keeps latest.setting latest.sub latest.past latest.moment latest.filled latest.i work c.rest.result c.in-Leaf.state
    (subst (λ (s : NodeState). StateStands latest.setting latest.sub (latest.moment ∷ latest.past) latest.filled latest.i work s) c.in-Leaf.is it.stood.stands) (it.stood.gave_is ∙ c.if-gave.true)
    (λ p j at low. ap (λ (l : Sounds). title_of (leaf_slot l (leaf_of c.in-Leaf.state) (p + j))) it.library
    ∙ c.rest.ensures.titled p j (subst (λ (l : Sounds). StandsAt l c.in-Leaf.state p) it.library at) low ∙ c.title_of.ensures ∙ sym (ap (λ (p : Part). title_of p.slot) it.part_is))

pub returns-then-gave-2-clause-keeps : goal.returns-then-gave-2-clause-keeps
returns-then-gave-2-clause-keeps c = λ latest work it.
    let title : c.title_of-then-gave-2.result ≡ title_of (offer latest.moment latest.i) = c.title_of-then-gave-2.ensures ∙ sym (ap (λ (p : Part). title_of p.slot) it.part_is) in
    cross_keeps latest.setting latest.sub latest.past latest.moment latest.filled latest.i work c.args.below c.args.below_title c.rest-then-gave-2.result c.in-Cross.state it.stood.long
    (subst (λ (s : NodeState). StateStands latest.setting latest.sub (latest.moment ∷ latest.past) latest.filled latest.i work s) c.in-Cross.is it.stood.stands) (it.stood.gave_is ∙ c.if-gave-2.true)
    (subst (λ (s : NodeState). passes s ≡ true → AreFilled latest.setting latest.sub latest.i latest.filled c.args.below c.args.below_title) c.in-Cross.is (it.stood.fills c.if-gave-2.true)) c.rest-then-gave-2.ensures.crossing
    c.rest-then-gave-2.ensures.ready (λ slots p j s e low. c.rest-then-gave-2.ensures.titled slots p j s e low ∙ title)
    c.rest-then-gave-2.ensures.plain c.rest-then-gave-2.ensures.below (λ j e low there. c.rest-then-gave-2.ensures.held j e low there ∙ title)
    (λ e more. c.rest-then-gave-2.ensures.over e more ∙ title)

pub returns-then-gave-3-clause-keeps : goal.returns-then-gave-3-clause-keeps
returns-then-gave-3-clause-keeps c = λ latest work it.
    read_keeps latest.setting latest.sub latest.past latest.moment latest.filled latest.i work c.rest-then-gave-3.result c.in-Read.state
    (subst (λ (s : NodeState). StateStands latest.setting latest.sub (latest.moment ∷ latest.past) latest.filled latest.i work s) c.in-Read.is it.stood.stands) it.begun (it.stood.gave_is ∙ c.if-gave-3.true)
    (λ j low. c.rest-then-gave-3.ensures.titled j low ∙ c.title_of-then-gave-3.ensures ∙ sym (ap (λ (p : Part). title_of p.slot) it.part_is))
