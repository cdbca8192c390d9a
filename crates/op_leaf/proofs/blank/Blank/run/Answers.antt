use Rattle.std.proofs.Common.{◌<◌, arith}
use Rattle.op_leaf.proofs.Stretching.{blank_further, blank_over}
use Rattle.op_leaf.proofs.blank.Blank.run.Goals as goal

pub returns-then-count-self-clause-stands : goal.returns-then-count-self-clause-stands
returns-then-count-self-clause-stands c = λ p stands.
    let some : 0 < c.args.self.now.track = omega (arith, c.if-self-eq0.false) in
    blank_further c.args.self.now p c.args.count some stands (let less = c.if-count-self.true in omega (arith, less))

pub returns-else-count-self-clause-stands : goal.returns-else-count-self-clause-stands
returns-else-count-self-clause-stands c = λ p stands.
    let some : 0 < c.args.self.now.track = omega (arith, c.if-self-eq0.false) in
    let within = c.requires.ahead.within some in
    blank_over c.args.self.now p c.args.count some stands c.requires.some (let over = c.if-count-self.false in omega (arith, over, within))
