use Rattle.std.proofs.Common.{◌∙◌, ap, map}
use Rattle.std.proofs.lemmas.List.{take_all}
use Rattle.name_scope.proofs.Matching.{token_given, tokens_listed}
use Rattle.name_scope.proofs.arguments.given_arguments.Goals as goal

pub returns : goal.returns
returns c = record { same = c.loop-arg.invariant ∙ ap (map token_given) (take_all c.loop-arg.arg-index c.args.args.now c.loop-arg-test.false) ∙ tokens_listed c.args.args.now }
