use Rattle.std.proofs.Common.{◌≡◌, drop, map, Some}
use Rattle.name_scope.specs.InPlace.{left_behind}
use Rattle.name_scope.specs.Seen.{seen_parameter}
use Rattle.name_scope.proofs.arguments.left_behind.Given as goal

abbrev pub invariant-loop-param : goal.invariant-loop-param
invariant-loop-param l = left_behind (map seen_parameter (drop l.param-index l.params)) l.left ≡ left_behind (map seen_parameter l.params) (Some l.fn.count)
