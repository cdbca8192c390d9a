use Rattle.type_steps.proofs.Labelled.{all_given}
use Rattle.type_steps.proofs.arguments.fit_many.Goals as goal

pub fit_labelled-requires-clause-all : goal.fit_labelled-requires-clause-all
fit_labelled-requires-clause-all c = all_given c.args.given.now _ c.in_ok-labels.labels c.in_ok-labels.ensures.all c.in_ok-labels_of.ensures.same
