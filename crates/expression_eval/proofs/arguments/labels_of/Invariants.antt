use Rattle.std.proofs.Common.{◌≡◌, take, map}
use Rattle.name_scope.specs.Seen.{seen_label}
use Rattle.expression_eval.proofs.arguments.labels_of.Given as goal

abbrev pub invariant-loop-one : goal.invariant-loop-one
invariant-loop-one l = map seen_label l.labels.items ≡ map (λ g. g.label) (take l.one-index l.given)
