use Rattle.type_steps.proofs.StepLemmas.{number_by}
use Rattle.type_steps.proofs.steps.is_number.Goals as goal

pub returns : goal.returns
returns c = number_by c.in_ok-yes.yes c.args.subst.now c.new_var.new.subst c.same.new.subst c.args.n c.in_ok-number.number c.requires.inside c.in_ok-number.ensures c.in_ok-yes.ensures
