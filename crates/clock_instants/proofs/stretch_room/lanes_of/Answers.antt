use Rattle.std.proofs.Common.{◌≡◌, ◌+◌, ◌∙◌, Some, slice_get, refl, subst, sym}
use Rattle.std.proofs.lemmas.Option.{slice_get_read}
use Rattle.clock_instants.specs.Stretches.{HaveLanes}
use Rattle.clock_instants.proofs.Laning.{lanes_more}
use Rattle.clock_instants.proofs.stretch_room.lanes_of.Goals as goal

pub loop-i-preserved : goal.loop-i-preserved
loop-i-preserved c =
    let found : slice_get c.args.states.now c.loop-i.i ≡ Some c.index-states-i.result = slice_get_read _ _ _ _ refl c.loop-i-test.true c.index-states-i.is in
    subst (λ xs. HaveLanes c.args.states.now (c.loop-i.i + 1) xs) (sym c.in_ok-push.ensures.items)
    (lanes_more c.args.states.now c.loop-i.i c.loop-i.lanes.items c.in_ok-lane_for.field-0
    (λ state at busy. c.in_ok-lane_for.ensures (λ idle.
    let one : Some c.index-states-i.result ≡ Some state = sym found ∙ at in
    let same : c.index-states-i.result ≡ state = cc in
    busy (sym same ∙ idle)))
    c.loop-i.invariant)
