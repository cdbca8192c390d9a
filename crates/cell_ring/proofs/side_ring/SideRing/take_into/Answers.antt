use Rattle.std.proofs.Common.{◌≡◌, ◌∙◌, [], pos, length, ap, arith}
use Rattle.std.proofs.lemmas.List.{length-replicate}
use Rattle.cell_ring.proofs.Silence.{left_over, only_zeros, taken}
use Rattle.cell_ring.proofs.side_ring.SideRing.take_into.Goals as goal

pub returns-then-self-gt0-clause-read : goal.returns-then-self-gt0-clause-read
returns-then-self-gt0-clause-read c =
    let v = c.self.inside in
    let none : v.held.items ≡ [] = c.self.invariant.0 (omega (arith, c.if-self-gt0.true)) in
    let many = ap length (only_zeros v.zeros v.held.items c.args.self.now v.held.capacity none c.self.view_is) in
    c.fill.ensures.after (λ y e. e)
    ∙ taken (length c.args.into.now) v.zeros v.held.items c.args.self.now v.held.capacity none (omega (arith, c.requires, many, length-replicate v.zeros (pos 0))) c.self.view_is

pub returns-then-self-gt0-clause-rest : goal.returns-then-self-gt0-clause-rest
returns-then-self-gt0-clause-rest c =
    let v = c.self.inside in
    let none : v.held.items ≡ [] = c.self.invariant.0 (omega (arith, c.if-self-gt0.true)) in
    rw c.fill.ensures.len (left_over (length c.args.into.now) v.zeros v.held.items c.args.self.now v.held.capacity none c.self.view_is)
