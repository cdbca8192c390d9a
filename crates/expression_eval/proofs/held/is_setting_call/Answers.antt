use Rattle.expression_eval.proofs.CallsHeld.{setting_means}
use Rattle.expression_eval.proofs.held.is_setting_call.Goals as goal

pub returns-then-means_set : goal.returns-then-means_set
returns-then-means_set c = setting_means c.args.uses.now.all.now c.args.call.now _ c.args_hold.result c.deref.ensures.value c.if-means_set.ensures c.args_hold.ensures
