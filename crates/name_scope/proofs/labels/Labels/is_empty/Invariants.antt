use Rattle.std.proofs.Common.{◌≡◌, drop, map}
use Rattle.name_scope.specs.Labelled.{left_in, seen_label}
use Rattle.name_scope.specs.Seen.{left_of}
use Rattle.name_scope.proofs.labels.Labels.is_empty.Given as goal

abbrev pub invariant-loop-place : goal.invariant-loop-place
invariant-loop-place l = left_in l.place (drop l.place (map seen_label l.self.labels.items)) (drop l.place l.self.taken.items) ≡ left_of l.self
