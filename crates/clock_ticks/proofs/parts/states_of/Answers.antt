use Rattle.std.proofs.Common.{◌≡◌, ◌<◌, ◌+◌, ◌∙◌, Some, length, get_or, slice_get, arith, ap, sym, refl, subst}
use Rattle.std.proofs.lemmas.Option.{slice_get_read}
use Rattle.clock_ticks.specs.Beginnings.{AreNewStates, IsNewState}
use Rattle.clock_ticks.proofs.Beginning.{states_more}
use Rattle.clock_ticks.proofs.parts.states_of.Goals as goal

pub state_of-requires-clause-range : goal.state_of-requires-clause-range
state_of-requires-clause-range c =
    let within : c.loop-i.i < length c.args.scene.now.plan.now.nodes = omega (arith, c.loop-i-test.true, ap length c.as_slice-nodes.ensures) in
    let found : slice_get c.args.scene.now.plan.now.nodes c.loop-i.i ≡ Some c.index-nodes-i.result =
    slice_get_read _ _ _ _ refl within (c.index-nodes-i.is ∙ ap (λ nodes. get_or nodes c.loop-i.i c.index-nodes-i.result) c.as_slice-nodes.ensures) in
    (c.requires.nodes c.loop-i.i c.index-nodes-i.result found).range

pub state_of-requires-clause-few : goal.state_of-requires-clause-few
state_of-requires-clause-few c =
    let within : c.loop-i.i < length c.args.scene.now.plan.now.nodes = omega (arith, c.loop-i-test.true, ap length c.as_slice-nodes.ensures) in
    let found : slice_get c.args.scene.now.plan.now.nodes c.loop-i.i ≡ Some c.index-nodes-i.result =
    slice_get_read _ _ _ _ refl within (c.index-nodes-i.is ∙ ap (λ nodes. get_or nodes c.loop-i.i c.index-nodes-i.result) c.as_slice-nodes.ensures) in
    (c.requires.nodes c.loop-i.i c.index-nodes-i.result found).few

pub loop-i-preserved : goal.loop-i-preserved
loop-i-preserved c =
    let within : c.loop-i.i < length c.args.scene.now.plan.now.nodes = omega (arith, c.loop-i-test.true, ap length c.as_slice-nodes.ensures) in
    let found : slice_get c.args.scene.now.plan.now.nodes c.loop-i.i ≡ Some c.index-nodes-i.result =
    slice_get_read _ _ _ _ refl within (c.index-nodes-i.is ∙ ap (λ nodes. get_or nodes c.loop-i.i c.index-nodes-i.result) c.as_slice-nodes.ensures) in
    subst (λ xs. AreNewStates c.args.scene.now.plan.now c.args.scene.now.clocks.now c.args.clock (c.loop-i.i + 1) xs) (sym c.in_ok-push.ensures.items)
    (states_more c.args.scene.now.plan.now c.args.scene.now.clocks.now c.args.clock c.loop-i.i c.loop-i.states.items c.in_ok-state_of.field-0
    (λ node at.
    let one : Some c.index-nodes-i.result ≡ Some node = sym found ∙ at in
    let same : c.index-nodes-i.result ≡ node = cc in
    subst (λ n. IsNewState c.args.scene.now.plan.now c.args.scene.now.clocks.now c.args.clock c.loop-i.i n c.in_ok-state_of.field-0) same c.in_ok-state_of.ensures)
    c.loop-i.invariant)
