use Rattle.std.proofs.Common.{◌∙◌, ap}
use Rattle.std.specs.Prelude.{is_some}
use Rattle.name_scope.specs.Seen.{left_of, seen_label}
use Rattle.name_scope.proofs.Labelling.{some_first}
use Rattle.name_scope.proofs.arguments.takes.Goals as goal

pub returns-clause-taken : goal.returns-clause-taken
returns-clause-taken c = c.is_some.ensures ∙ ap is_some c.in_ok-place.ensures.taken ∙ some_first (seen_label c.args.label) (left_of c.args.labels.now)
