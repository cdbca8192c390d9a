use Rattle.std.proofs.Common.{◌≡◌, ◌<◌, Some, sym, subst, arith}
use Rattle.op_leaf.specs.Inner.{stretch_from}
use Rattle.op_leaf.specs.Leaves.{blank_cell}
use Rattle.op_leaf.proofs.Stretching.{blank_ends, blank_inner, endless_inner, stretch_is}
use Rattle.op_leaf.proofs.blank.Blank.stretch.Goals as goal

pub returns-then-self-eq0-clause-stretch : goal.returns-then-self-eq0-clause-stretch
returns-then-self-eq0-clause-stretch c = λ p stands.
    subst (λ track. c.args.most ≡ stretch_from (λ q. Some (blank_cell track q)) p c.args.most) (sym c.if-self-eq0.true)
    (stretch_is (λ q. Some (blank_cell 0 q)) p c.args.most c.args.most c.requires.some (omega arith) (λ i some less. endless_inner p i some) (λ less. absurd (omega (arith, less))))

pub returns-clause-stretch : goal.returns-clause-stretch
returns-clause-stretch c = λ p stands.
    let some : 0 < c.args.self.now.track = omega (arith, c.if-self-eq0.false) in
    let low = c.requires.placed.within some in
    stretch_is (λ q. Some (blank_cell c.args.self.now.track q)) p c.args.most c.min.result
    (omega (arith, c.requires.some, c.min.ensures, c.from.ensures, low)) (omega (arith, c.min.ensures, c.from.ensures))
    (λ i more less. blank_inner c.args.self.now p i some stands more (omega (arith, less, c.min.ensures, low)))
    (λ less. blank_ends c.args.self.now p c.min.result some stands (omega (arith, c.requires.some, c.min.ensures, c.from.ensures, low)) (omega (arith, less, c.min.ensures, c.from.ensures, low)))
