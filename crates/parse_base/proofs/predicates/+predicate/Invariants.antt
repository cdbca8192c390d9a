use Rattle.std.proofs.Common.{◌≤◌, length, ◌+◌, ◌*◌}
use Rattle.std.specs.List.{All}
use Rattle.script_grammar.specs.Kinds.{is_or, is_and}
use Rattle.script_grammar.specs.Read.{next, behind}
use Rattle.script_grammar.specs.ReadPredicate.{pand, pnot, por_by}
use Rattle.script_grammar.specs.View.{view_pand, view_pnot}
use Rattle.script_grammar.specs.Whole.{IsWholePAnd, IsWholePNot}
use Rattle.parse_base.proofs.Turns.{Turning}
use Rattle.parse_base.proofs.predicates.+predicate.Given as goal

abbrev pub decreases-patom : goal.decreases-patom
decreases-patom l = 10 * length l.tokens.now

abbrev pub decreases-pnot : goal.decreases-pnot
decreases-pnot l = 10 * length l.tokens.now + 1

abbrev pub decreases-and_pnot : goal.decreases-and_pnot
decreases-and_pnot l = 10 * length l.tokens.now

abbrev pub decreases-pnots : goal.decreases-pnots
decreases-pnots l = 10 * length l.tokens.now + 2

abbrev pub decreases-pand : goal.decreases-pand
decreases-pand l = 10 * length l.tokens.now + 3

abbrev pub decreases-or_pand : goal.decreases-or_pand
decreases-or_pand l = 10 * length l.tokens.now

abbrev pub decreases-pands : goal.decreases-pands
decreases-pands l = 10 * length l.tokens.now + 4

abbrev pub decreases-por_step : goal.decreases-por_step
decreases-por_step l = 10 * length l.tokens.now + 5

abbrev pub decreases-por : goal.decreases-por
decreases-por l = 10 * length l.tokens.now + 6

abbrev pub invariant-pands-turns : goal.invariant-pands-turns
invariant-pands-turns l = (length l.rest ≤ length l.tokens) × Turning view_pand (next is_or) (behind is_or (pand (por_by l.levels))) l.tokens l.rest l.items.items × All IsWholePAnd l.items.items

abbrev pub decreases-pands-turns : goal.decreases-pands-turns
decreases-pands-turns l = length l.rest

abbrev pub invariant-pnots-turns : goal.invariant-pnots-turns
invariant-pnots-turns l = (length l.rest ≤ length l.tokens) × Turning view_pnot (next is_and) (behind is_and (pnot (por_by l.levels))) l.tokens l.rest l.items.items × All IsWholePNot l.items.items

abbrev pub decreases-pnots-turns : goal.decreases-pnots-turns
decreases-pnots-turns l = length l.rest
