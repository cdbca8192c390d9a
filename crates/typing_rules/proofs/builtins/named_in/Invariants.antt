use Rattle.std.proofs.Common.{◌≡◌, drop}
use Rattle.typing_rules.proofs.Searches.{in_rows}
use Rattle.typing_rules.proofs.builtins.named_in.Given as goal

abbrev pub invariant-loop-row : goal.invariant-loop-row
invariant-loop-row l = in_rows l.name (drop l.row-index l.rows) ≡ in_rows l.name l.rows
