use Rattle.std.proofs.Common.{◌≡◌, drop, map}
use Rattle.typing_rules.specs.Arguments.{first_missing, left_over}
use Rattle.name_scope.specs.Seen.{left_of, seen_label, seen_parameter}
use Rattle.name_scope.proofs.Matching.{or_first}
use Rattle.name_scope.proofs.arguments.match_labels.Given as goal

abbrev pub invariant-loop-param : goal.invariant-loop-param
invariant-loop-param l =
    (or_first (seen_label l.missing) (first_missing (map seen_parameter (drop l.param-index l.params)) (left_of l.labels)) ≡ first_missing (map seen_parameter l.params) (left_of l.fn.labels))
    × (left_over (map seen_parameter (drop l.param-index l.params)) (left_of l.labels) ≡ left_over (map seen_parameter l.params) (left_of l.fn.labels))
