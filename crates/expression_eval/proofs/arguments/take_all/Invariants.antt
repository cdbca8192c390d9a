use Rattle.std.proofs.Common.{◌++◌, drop, map}
use Rattle.std.specs.Prelude.{option_map}
use Rattle.expression_eval.specs.Parameters.{value_at, view_taken}
use Rattle.expression_eval.proofs.Taking.{LeftAt}
use Rattle.expression_eval.proofs.arguments.take_all.Given as goal

abbrev pub invariant-loop-place : goal.invariant-loop-place
invariant-loop-place l = LeftAt (drop l.place-index l.places) (value_at l.given) (map view_taken l.taken.items) (map view_taken l.fn.taken.items ++ map (option_map (value_at l.fn.given)) l.places)
