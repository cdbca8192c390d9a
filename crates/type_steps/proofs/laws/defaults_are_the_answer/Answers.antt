use Rattle.type_steps.proofs.Typed.{typed_by_defaults}
use Rattle.type_steps.proofs.laws.defaults_are_the_answer.Goals as goal

pub returns : goal.returns
returns c = record { typed = typed_by_defaults }
