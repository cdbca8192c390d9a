use Rattle.std.proofs.Common.{◌∙◌, ap, map}
use Rattle.std.proofs.lemmas.List.{take_all}
use Rattle.name_scope.proofs.Matching.{param_seen, params_listed}
use Rattle.name_scope.proofs.arguments.parameters.Goals as goal

pub returns : goal.returns
returns c = record { same = c.loop-param.invariant ∙ ap (map param_seen) (take_all c.loop-param.param-index c.args.params.now c.loop-param-test.false) ∙ params_listed c.args.params.now }
