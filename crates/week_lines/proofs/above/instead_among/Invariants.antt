use Rattle.week_lines.proofs.Players.{IsPlayed}
use Rattle.week_lines.proofs.above.instead_among.Given as goal

abbrev pub invariant-loop-node : goal.invariant-loop-node
invariant-loop-node l = IsPlayed l.nodes l.number l.node-index l.instead l.found
