use Rattle.std.proofs.Common.{◌≡◌, ◌∙◌, ◌+◌, ◌%◌, arith, ap}
use Rattle.std.proofs.Math.Nat.{mod-add-mod}
use Rattle.node_states.proofs.time.place_later.Goals as goal

pub returns-clause-later : goal.returns-clause-later
returns-clause-later c = λ n is.
    let sum : c.from.result + c.from-2.result ≡ c.args.place + c.args.count = omega (arith, c.from.ensures, c.from-2.ensures) in
    ap (λ k. k % c.from-3.result) sum ∙ ap (λ f. (c.args.place + c.args.count) % f) c.from-3.ensures
    ∙ ap (λ k. (k + c.args.count) % c.args.frame) is ∙ mod-add-mod n c.args.frame c.args.count
