use Rattle.std.proofs.Common.{◌≡◌, true, false, arith, rules}
use Rattle.week_lines.specs.Instead.{plays}
use Rattle.week_lines.proofs.Players.{played_all, played_first, played_same, played_twice}
use Rattle.week_lines.proofs.above.instead_among.Goals as goal

pub returns-then-found : goal.returns-then-found
returns-then-found c =
    let over : plays c.args.number c.node-item.result ≡ true = search rules in
    played_twice c.args.nodes.now c.args.number c.loop-node.node-index c.node-item.result c.loop-node.instead c.loop-node.found c.loop-node-test.true c.node-item.is over c.if-found.true c.loop-node.invariant

pub loop-node-preserved-then-not-plays : goal.loop-node-preserved-then-not-plays
loop-node-preserved-then-not-plays c =
    let none : plays c.args.number c.node-item.result ≡ false = search rules in
    played_same c.args.nodes.now c.args.number c.loop-node.node-index c.node-item.result c.loop-node.instead c.loop-node.found c.loop-node-test.true c.node-item.is none c.loop-node.invariant

pub loop-node-preserved : goal.loop-node-preserved
loop-node-preserved c =
    let over : plays c.args.number c.node-item.result ≡ true = search rules in
    rw c.instead_below-instead.ensures (played_first c.args.nodes.now c.args.number c.loop-node.node-index c.node-item.result c.loop-node.instead c.loop-node.found c.loop-node-test.true c.node-item.is over c.if-found.false c.loop-node.invariant)

pub returns : goal.returns
returns c = played_all c.args.nodes.now c.args.number c.loop-node.node-index c.loop-node.instead c.loop-node.found (omega (arith, c.loop-node-test.false)) c.loop-node.invariant
