use Rattle.op_leaf.proofs.Turns.{blank-later}
use Rattle.op_leaf.proofs.blank.Blank.advance.Goals as goal

pub returns-then-self-clause-stands : goal.returns-then-self-clause-stands
returns-then-self-clause-stands c p stands =
    blank-later p c.args.self.now.track c.args.self.now.at c.if-self-eq0.false c.if-self.true stands
