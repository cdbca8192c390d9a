use Rattle.expression_eval.proofs.Taking.{others_kept}
use Rattle.expression_eval.proofs.arguments.take_at.Goals as goal

pub returns-clause-others : goal.returns-clause-others
returns-clause-others c = others_kept c.args.given.now c.args.place _
