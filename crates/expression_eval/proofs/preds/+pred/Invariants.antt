use Rattle.std.proofs.Common.{◌≡◌, map, take}
use Rattle.eval_meaning.specs.Preds.{and_pred, not_pred}
use Rattle.script_grammar.specs.View.{view_pand, view_pnot}
use Rattle.time_pred.specs.View.{view_pred}
use Rattle.expression_eval.proofs.preds.+pred.Given as goal

abbrev pub invariant-each_and-loop-part : goal.invariant-each_and-loop-part
invariant-each_and-loop-part l = map view_pred l.made.items ≡ map (λ a. and_pred (view_pand a)) (take l.part-index l.parts)

abbrev pub invariant-each_not-loop-part : goal.invariant-each_not-loop-part
invariant-each_not-loop-part l = map view_pred l.made.items ≡ map (λ n. not_pred (view_pnot n)) (take l.part-index l.parts)
