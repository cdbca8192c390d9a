use Rattle.std.proofs.Common.{ap, sym, ◌∙◌}
use Rattle.script_grammar.specs.declared.tree.Operand.{Operand}
use Rattle.script_grammar.specs.View.{view_operand}
use Rattle.eval_meaning.specs.Calls.{holds_call}
use Rattle.expression_eval.proofs.CallsHeld.{and_rest, expr_rest, list_held, product_rest, sum_rest, tuple_held}
use Rattle.expression_eval.proofs.held.+holds.Goals as goal

pub and_holds-returns : goal.and_holds-returns
and_holds-returns t c = and_rest c.args.node.now _ c.nots_hold.result c.deref.ensures.value c.if-not_holds.ensures c.nots_hold.ensures

pub expr_holds-returns : goal.expr_holds-returns
expr_holds-returns t c = expr_rest c.args.node.now _ c.ands_hold.result c.deref.ensures.value c.if-and_holds.ensures c.ands_hold.ensures

pub sum_holds-returns : goal.sum_holds-returns
sum_holds-returns t c = sum_rest c.args.node.now _ c.addends_hold.result c.deref.ensures.value c.if-product_holds.ensures c.addends_hold.ensures

pub product_holds-returns : goal.product_holds-returns
product_holds-returns t c = product_rest c.args.node.now _ c.factors_hold.result c.deref.ensures.value c.if-operand_holds.ensures c.factors_hold.ensures

pub operand_holds-returns-in-Tuple : goal.operand_holds-returns-in-Tuple
operand_holds-returns-in-Tuple t c = c.fulls_hold.ensures ∙ sym (tuple_held c.in-Tuple.at c.in-Tuple.parts _ c.deref-in-Tuple.ensures.value) ∙ ap (λ (n : Operand). holds_call (view_operand n)) (sym c.in-Tuple.is)

pub operand_holds-returns-in-List : goal.operand_holds-returns-in-List
operand_holds-returns-in-List t c = c.fulls_hold-in-List.ensures ∙ sym (list_held c.in-List.at c.in-List.parts _ c.deref-in-List.ensures.value) ∙ ap (λ (n : Operand). holds_call (view_operand n)) (sym c.in-List.is)
