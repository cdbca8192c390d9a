use Rattle.std.proofs.Common.{rules, List, ◌++◌, ◌∷◌, [], ap, ◌∙◌}
use Rattle.script_lex.specs.declared.token.TokenKind.TheVariants.{NameOpen}
use Rattle.script_grammar.proofs.Spelled.{expr_parts, and_parts, sum_parts, product_parts, call_parts, tuple_spelled, list_spelled}
use Rattle.script_grammar.proofs.value_tokens.+value.Goals as goal

pub put_expr-returns : goal.put_expr-returns
put_expr-returns t c = expr_parts c.put_ands.result c.args.expr.now _ _ _ _ c.deref.ensures.value c.in_ok-put_and.ensures c.put_ands.ensures

pub put_and-returns : goal.put_and-returns
put_and-returns t c = and_parts c.put_nots.result c.args.and.now _ _ _ _ c.deref.ensures.value c.in_ok-put_not.ensures c.put_nots.ensures

pub put_sum-returns : goal.put_sum-returns
put_sum-returns t c = sum_parts c.put_addends.result c.args.sum.now _ _ _ _ c.deref.ensures.value c.in_ok-put_product.ensures c.put_addends.ensures

pub put_product-returns : goal.put_product-returns
put_product-returns t c = product_parts c.put_factors.result c.args.product.now _ _ _ _ c.deref.ensures.value c.in_ok-put_operand.ensures c.put_factors.ensures

pub put_call-returns : goal.put_call-returns
put_call-returns t c = call_parts c.put-2.result c.args.call.now _ _ _ _ _ c.deref.ensures.value (c.in_ok-put.ensures ∙ ap (λ (x : List _). c.args.out.now.items ++ (NameOpen x ∷ [])) c.in_ok-copy.ensures.copied) c.in_ok-put_args.ensures c.put-2.ensures

pub put_operand-returns-in-Tuple : goal.put_operand-returns-in-Tuple
put_operand-returns-in-Tuple t c = rw (c.in-Tuple.is, tuple_spelled c.in-Tuple.at c.in-Tuple.parts) (search rules)

pub put_operand-returns-in-List : goal.put_operand-returns-in-List
put_operand-returns-in-List t c = rw (c.in-List.is, list_spelled c.in-List.at c.in-List.parts) (search rules)
