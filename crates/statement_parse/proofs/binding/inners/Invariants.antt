use Rattle.std.proofs.Common.{◌≤◌, length}
use Rattle.std.specs.List.{All}
use Rattle.script_grammar.specs.ReadValue.{binds}
use Rattle.script_grammar.specs.ReadScript.{inner}
use Rattle.script_grammar.specs.View.{view_inner}
use Rattle.script_grammar.specs.Whole.{IsWholeInner}
use Rattle.parse_base.specs.Gives.{places}
use Rattle.parse_base.proofs.Turns.{Turning}
use Rattle.statement_parse.proofs.binding.inners.Given as goal

abbrev pub invariant-turns : goal.invariant-turns
invariant-turns l = (length l.rest ≤ length l.tokens) × Turning view_inner binds (inner (places l.total)) l.tokens l.rest l.items.items × All IsWholeInner l.items.items

abbrev pub decreases-turns : goal.decreases-turns
decreases-turns l = length l.rest
