use Rattle.std.proofs.Common.{◌∙◌, ap, map}
use Rattle.std.proofs.lemmas.List.{take_all}
use Rattle.expression_eval.proofs.arguments.labels_of.Goals as goal

pub returns : goal.returns
returns c = record { same = c.loop-one.invariant ∙ ap (map (λ g. g.label)) (take_all c.loop-one.one-index c.args.given.now c.loop-one-test.false) }
