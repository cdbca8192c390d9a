use Rattle.std.proofs.Common.{◌≡◌, drop, map}
use Rattle.typing_rules.specs.Arguments.{first_missing, left_over}
use Rattle.name_scope.specs.Seen.{seen_given, seen_label, seen_parameter}
use Rattle.name_scope.proofs.Matching.{or_first}
use Rattle.name_scope.proofs.arguments.match_arguments.Given as goal

abbrev pub invariant-loop-param : goal.invariant-loop-param
invariant-loop-param l =
    (or_first (seen_label l.missing) (first_missing (map seen_parameter (drop l.param-index l.params)) (map seen_given l.given.items)) ≡ first_missing (map seen_parameter l.params) (map seen_given l.fn.given.items))
    × (left_over (map seen_parameter (drop l.param-index l.params)) (map seen_given l.given.items) ≡ left_over (map seen_parameter l.params) (map seen_given l.fn.given.items))
