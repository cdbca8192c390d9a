use Rattle.std.proofs.Common.{◌≡◌, ◌++◌, drop}
use Rattle.name_scope.specs.Seen.{left_of}
use Rattle.expression_eval.proofs.Taking.{taken_by}
use Rattle.expression_eval.proofs.arguments.find_places.Given as goal

abbrev pub invariant-loop-param : goal.invariant-loop-param
invariant-loop-param l = l.places.items ++ taken_by (left_of l.labels) (drop l.param-index l.params) ≡ l.fn.places.items ++ taken_by (left_of l.fn.labels) l.params
