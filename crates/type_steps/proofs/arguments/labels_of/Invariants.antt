use Rattle.std.proofs.Common.{◌≡◌, take, map}
use Rattle.name_scope.specs.Seen.{seen_label}
use Rattle.type_steps.proofs.arguments.labels_of.Given as goal

abbrev pub invariant-loop-one : goal.invariant-loop-one
invariant-loop-one l = map seen_label l.labels.items ≡ map (λ g. seen_label g.label) (take l.one-index l.given)
