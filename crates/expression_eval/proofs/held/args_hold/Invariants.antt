use Rattle.std.proofs.Common.{◌≡◌, false, take}
use Rattle.std.specs.List.{list_any}
use Rattle.eval_meaning.specs.Calls.{holds_call}
use Rattle.script_grammar.specs.View.{view_arg}
use Rattle.expression_eval.proofs.held.args_hold.Given as goal

abbrev pub invariant-loop-arg : goal.invariant-loop-arg
invariant-loop-arg l = list_any (λ x. holds_call (view_arg x)) (take l.arg-index l.args) ≡ false
