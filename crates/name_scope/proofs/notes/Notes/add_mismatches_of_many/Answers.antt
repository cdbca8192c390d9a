use Rattle.std.proofs.Common.{◌∙◌, ap}
use Rattle.name_scope.specs.Labelled.{placed}
use Rattle.name_scope.proofs.notes.Notes.add_mismatches_of_many.Goals as goal

pub add_by_labels-requires : goal.add_by_labels-requires
add_by_labels-requires c = record { all = c.in_ok-labels.ensures.all ∙ ap (placed 0) c.in_ok-labels_of.ensures.same }
