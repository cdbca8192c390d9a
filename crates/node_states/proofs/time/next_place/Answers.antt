use Rattle.std.proofs.Common.{◌≡◌, ◌+◌, arith, sym}
use Rattle.op_leaf.proofs.Turns.{mod-step, mod-round}
use Rattle.node_states.proofs.time.next_place.Goals as goal

pub returns-then-place-frame-clause-next : goal.returns-then-place-frame-clause-next
returns-then-place-frame-clause-next c = λ n is. sym (mod-step n c.args.frame c.args.place is c.if-place-frame.true)

pub returns-clause-next : goal.returns-clause-next
returns-clause-next c = λ n is.
    let long : c.args.place + 1 ≡ c.args.frame = omega (arith, c.requires, c.if-place-frame.false) in
    sym (mod-round n c.args.frame c.args.place is long)
