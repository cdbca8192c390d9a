use Rattle.std.proofs.Common.{◌≤◌, length, map}
use Rattle.std.specs.List.{All}
use Rattle.script_grammar.specs.Kinds.{is_any}
use Rattle.script_grammar.specs.Read.{next}
use Rattle.script_grammar.specs.ReadScript.{stmt}
use Rattle.script_grammar.specs.Tree.{Tree, AStmt}
use Rattle.script_grammar.specs.View.{view_stmt}
use Rattle.script_grammar.specs.Whole.{IsWholeStmt}
use Rattle.parse_base.specs.Gives.{places}
use Rattle.parse_base.proofs.Turns.{Turning}
use Rattle.statement_parse.proofs.statement.statements.Given as goal

-- the trees of the statements so far are what was read
abbrev pub invariant-turns : goal.invariant-turns
invariant-turns l = (length l.rest ≤ length l.tokens) × Turning (λ (t : Tree AStmt). t) (next is_any) (stmt (places l.total)) l.tokens l.rest (map view_stmt l.items.items) × All IsWholeStmt l.items.items

abbrev pub decreases-turns : goal.decreases-turns
decreases-turns l = length l.rest
