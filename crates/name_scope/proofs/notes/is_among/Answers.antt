use Rattle.std.proofs.Common.{sym, ◌∙◌}
use Rattle.name_scope.proofs.Searches.{param_there, param_next, param_none, turned}
use Rattle.name_scope.proofs.notes.is_among.Goals as goal

pub returns-then-is_same_name : goal.returns-then-is_same_name
returns-then-is_same_name c = record { same = param_there c.args.name.now c.args.params.now c.loop-param.param-index c.param-item.result _ c.loop-param.invariant c.loop-param-test.true c.param-item.is (turned _ _ _ _ _ c.as_str.ensures.same c.as_str-in-loop-param.ensures.same (sym c.is_same_name.ensures.same ∙ c.if-is_same_name.true)) }

pub loop-param-preserved : goal.loop-param-preserved
loop-param-preserved c = param_next c.args.name.now c.args.params.now c.loop-param.param-index c.param-item.result _ c.loop-param.invariant c.loop-param-test.true c.param-item.is (turned _ _ _ _ _ c.as_str.ensures.same c.as_str-in-loop-param.ensures.same (sym c.is_same_name.ensures.same ∙ c.if-is_same_name.false))

pub returns : goal.returns
returns c = record { same = param_none c.args.name.now c.args.params.now c.loop-param.param-index _ c.loop-param.invariant c.loop-param-test.false }
