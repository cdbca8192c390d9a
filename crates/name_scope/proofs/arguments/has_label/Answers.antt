use Rattle.std.proofs.Common.{sym, ◌∙◌}
use Rattle.name_scope.proofs.Filling.{label_next, label_none, label_there}
use Rattle.name_scope.proofs.arguments.has_label.Goals as goal

pub returns-then-is_some : goal.returns-then-is_some
returns-then-is_some c = record { same = label_there c.args.args.now c.loop-arg.arg-index c.arg-item.result _ c.loop-arg.invariant c.loop-arg-test.true c.arg-item.is (sym c.is_some.ensures ∙ c.if-is_some.true) }

pub loop-arg-preserved : goal.loop-arg-preserved
loop-arg-preserved c = label_next c.args.args.now c.loop-arg.arg-index c.arg-item.result _ c.loop-arg.invariant c.loop-arg-test.true c.arg-item.is (sym c.is_some.ensures ∙ c.if-is_some.false)

pub returns : goal.returns
returns c = record { same = label_none c.args.args.now c.loop-arg.arg-index _ c.loop-arg.invariant c.loop-arg-test.false }
