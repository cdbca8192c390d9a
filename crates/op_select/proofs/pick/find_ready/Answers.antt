use Rattle.std.proofs.Common.{◌≡◌, ◌<◌, ◌&&◌, ◌∙◌, sym, false, None, is_some, get_or, length, arith, refl}
use Rattle.op_select.proofs.Searching.{ready-later}
use Rattle.op_select.proofs.pick.find_ready.Goals as goal
use Rattle.op_select.proofs.pick.find_ready.Goals.{else-eligible-child-via-then-eligible-child+else-is_some, else-eligible-child-via-else-eligible-child}

pub loop-child-preserved : goal.loop-child-preserved
loop-child-preserved c =
    let within : c.loop-child.child < length c.args.offers.now = c.loop-child-test.true in
    let marked : c.loop-child.child < length c.args.eligible.now = omega arith in
    let other : (get_or c.args.eligible.now c.loop-child.child false && is_some (get_or c.args.offers.now c.loop-child.child None)) ≡ false =
    elim c.else-eligible-child.branch [
      | else-eligible-child-via-then-eligible-child+else-is_some w ↦ rw (w.if-eligible-child.true) (sym w.is_some.ensures ∙ w.if-is_some.false)
      | else-eligible-child-via-else-eligible-child w ↦ rw (w.if-eligible-child.false) refl
    ] in
    sym (ready-later _ _ _ within marked other) ∙ c.loop-child.invariant
