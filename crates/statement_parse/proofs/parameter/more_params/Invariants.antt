use Rattle.std.proofs.Common.{◌≡◌, ◌<◌, ◌≤◌, length, take, drop}
use Rattle.std.specs.List.{All}
use Rattle.script_grammar.specs.Kinds.{is_comma}
use Rattle.script_grammar.specs.Read.{next, behind}
use Rattle.script_grammar.specs.ReadScript.{param}
use Rattle.script_grammar.specs.View.{view_param}
use Rattle.script_grammar.specs.Whole.{IsWholeParam}
use Rattle.parse_base.specs.Gives.{places}
use Rattle.parse_base.proofs.Turns.{Turning}
use Rattle.statement_parse.proofs.parameter.more_params.Given as goal

abbrev pub invariant-turns : goal.invariant-turns
invariant-turns l = (length l.rest ≤ length l.tokens) × Turning view_param (next is_comma) (behind is_comma (param (places l.total))) l.tokens l.rest (drop 1 l.items.items) × All IsWholeParam l.items.items × (0 < length l.items.items) × (take 1 l.items.items ≡ l.fn.items.items)

abbrev pub decreases-turns : goal.decreases-turns
decreases-turns l = length l.rest
