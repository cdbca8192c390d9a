use Rattle.std.proofs.Common.{◌≡◌, ◌≤◌, ℕ, drop, length, map}
use Rattle.typing_rules.specs.Scoping.{target_in}
use Rattle.name_scope.specs.Noted.{resolved}
use Rattle.expression_types.specs.Tables.{targets_of}
use Rattle.expression_types.proofs.targets.target_table.Given as goal

abbrev pub invariant-loop-left : goal.invariant-loop-left
invariant-loop-left l = (l.left ≤ length l.names) × ((t : ℕ) → targets_of l.table t ≡ target_in (map resolved (drop l.left l.names)) t)

abbrev pub decreases-loop-left : goal.decreases-loop-left
decreases-loop-left l = l.left
