use Rattle.std.proofs.Common.{arith}
use Rattle.expression_eval.proofs.Predicates.{all_made, and_seen, any_made, or_seen}
use Rattle.expression_eval.proofs.preds.+pred.Goals as goal

pub any_part-returns : goal.any_part-returns
any_part-returns t c = rw (or_seen c.args.node.now _ c.deref.ensures.value) c.any_of.ensures

pub all_parts-returns : goal.all_parts-returns
all_parts-returns t c = rw (and_seen c.args.node.now _ c.deref.ensures.value) c.all_of.ensures

pub several_any-returns : goal.several_any-returns
several_any-returns t c = any_made c.in_ok-made.made c.args.parts.now (omega arith) c.in_ok-made.ensures

pub several_all-returns : goal.several_all-returns
several_all-returns t c = all_made c.in_ok-made.made c.args.parts.now (omega arith) c.in_ok-made.ensures
