use Rattle.std.proofs.Common.{◌≡◌, ◌++◌, drop, map}
use Rattle.script_values.specs.Views.{view_given}
use Rattle.expression_eval.specs.Parameters.{view_taken}
use Rattle.expression_eval.proofs.Taking.{taken_by}
use Rattle.expression_eval.proofs.arguments.take_in_turn.Given as goal

abbrev pub invariant-loop-param : goal.invariant-loop-param
invariant-loop-param l = map view_taken l.taken.items ++ taken_by (map view_given l.rest.items) (drop l.param-index l.params) ≡ map view_taken l.fn.taken.items ++ taken_by (map view_given l.fn.rest.items) l.params
