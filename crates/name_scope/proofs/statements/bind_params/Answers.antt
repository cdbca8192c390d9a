use Rattle.std.proofs.Common.{◌∙◌, ap, map}
use Rattle.std.proofs.lemmas.List.{take_all}
use Rattle.script_grammar.specs.View.{listed, view_param}
use Rattle.typing_rules.specs.Scoping.{with_params}
use Rattle.name_scope.specs.Seen.{in_scope}
use Rattle.name_scope.proofs.Bindings.{param_next}
use Rattle.name_scope.proofs.statements.bind_params.Goals as goal

pub loop-param-preserved : goal.loop-param-preserved
loop-param-preserved c = param_next c.args.params.now c.loop-param.param-index c.param-item.result _ (in_scope c.args.inner.now) _ _ c.loop-param-test.true c.param-item.is c.as_str.ensures.same c.loop-param.invariant c.in_ok-bind.ensures.bound

pub returns : goal.returns
returns c = record { bound = c.loop-param.invariant ∙ ap (λ l. with_params (listed (map view_param l)) (in_scope c.args.inner.now)) (take_all c.loop-param.param-index c.args.params.now c.loop-param-test.false) }
