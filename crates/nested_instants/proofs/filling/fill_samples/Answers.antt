use Rattle.std.proofs.Common.{◌≡◌, ◌+◌, ◌∙◌, ℤ, List, length, arith, sym, subst}
use Rattle.op_leaf.specs.Lanes.{IsLane}
use Rattle.op_mix.specs.Stretches.{samples_of}
use Rattle.node_states.specs.States.{StateStands}
use Rattle.nested_instants.proofs.filling.fill_samples.Goals as goal

pub fill_stretch-requires-clause-same : goal.fill_stretch-requires-clause-same
fill_stretch-requires-clause-same c = c.right_of.ensures.long ∙ sym c.left_of.ensures.long

pub fill_stretch-requires-clause-few : goal.fill_stretch-requires-clause-few
fill_stretch-requires-clause-few c = omega (arith, c.left_of.ensures.long, c.requires.room)

pub returns-clause-less : goal.returns-clause-less
returns-clause-less c = c.fill_stretch.ensures.less (omega (arith, c.left_of.ensures.long, c.requires.some))

pub returns-clause-filled : goal.returns-clause-filled
returns-clause-filled c setting sub past filled i work slots stands lane titled grows =
    let long : length c.left_of.result.now ≡ c.args.count = c.left_of.ensures.long in
    subst (λ n. StateStands setting sub past (filled + n) i work c.fill_stretch.new.self) long
    (c.fill_stretch.ensures.filled setting sub past filled i work slots stands
    (subst (λ n. IsLane slots n c.left_of.result.now c.right_of.result.now) (sym long)
    (subst (λ (xs : List ℤ). IsLane slots c.args.count xs c.right_of.result.now) (sym c.left_of.ensures.is)
    (subst (λ (ys : List ℤ). IsLane slots c.args.count (samples_of c.args.stretch_room.now.left.items c.args.child c.args.count) ys) (sym c.right_of.ensures.is) lane)))
    (λ j low. titled j (omega (arith, low, long)))
    (λ m low. grows m (omega (arith, low, long))))
