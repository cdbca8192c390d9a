use Rattle.std.proofs.Common.{rules, ◌∙◌, ap, map}
use Rattle.script_grammar.specs.View.{view_and, view_not, view_added, view_multiplied, view_full, view_arg}
use Rattle.typing_rules.specs.Scoping.{names}
use Rattle.name_scope.specs.Noted.{names_each, noted, with_names}
use Rattle.name_scope.specs.Seen.{both_scopes}
use Rattle.std.proofs.lemmas.List.{take_all}
use Rattle.name_scope.proofs.Rows.{and_parts, call_parts, compare_parts, each_next, expr_parts, list_names, product_parts, renamed, sum_parts, three_parts, tuple_names}
use Rattle.name_scope.proofs.values.+value.Goals as goal

pub note_ands-loop-and-preserved : goal.note_ands-loop-and-preserved
note_ands-loop-and-preserved t c = each_next (both_scopes c.args.scopes) view_and c.args.ands.now c.loop-and.and-index c.and-item.result _ _ _ c.loop-and-test.true c.and-item.is c.loop-and.invariant c.in_ok-note_and.ensures

pub note_ands-returns : goal.note_ands-returns
note_ands-returns t c = c.loop-and.invariant ∙ ap (λ l. with_names (noted c.args.notes.now) (names_each (both_scopes c.args.scopes) (map view_and l))) (take_all c.loop-and.and-index c.args.ands.now c.loop-and-test.false)

pub note_nots-loop-not-preserved : goal.note_nots-loop-not-preserved
note_nots-loop-not-preserved t c = each_next (both_scopes c.args.scopes) view_not c.args.nots.now c.loop-not.not-index c.not-item.result _ _ _ c.loop-not-test.true c.not-item.is c.loop-not.invariant c.in_ok-note_not.ensures

pub note_nots-returns : goal.note_nots-returns
note_nots-returns t c = c.loop-not.invariant ∙ ap (λ l. with_names (noted c.args.notes.now) (names_each (both_scopes c.args.scopes) (map view_not l))) (take_all c.loop-not.not-index c.args.nots.now c.loop-not-test.false)

pub note_addends-loop-added-preserved : goal.note_addends-loop-added-preserved
note_addends-loop-added-preserved t c = each_next (both_scopes c.args.scopes) view_added c.args.addends.now c.loop-added.added-index c.added-item.result _ _ _ c.loop-added-test.true c.added-item.is c.loop-added.invariant c.in_ok-note_added.ensures

pub note_addends-returns : goal.note_addends-returns
note_addends-returns t c = c.loop-added.invariant ∙ ap (λ l. with_names (noted c.args.notes.now) (names_each (both_scopes c.args.scopes) (map view_added l))) (take_all c.loop-added.added-index c.args.addends.now c.loop-added-test.false)

pub note_factors-loop-multiplied-preserved : goal.note_factors-loop-multiplied-preserved
note_factors-loop-multiplied-preserved t c = each_next (both_scopes c.args.scopes) view_multiplied c.args.factors.now c.loop-multiplied.multiplied-index c.multiplied-item.result _ _ _ c.loop-multiplied-test.true c.multiplied-item.is c.loop-multiplied.invariant c.in_ok-note_multiplied.ensures

pub note_factors-returns : goal.note_factors-returns
note_factors-returns t c = c.loop-multiplied.invariant ∙ ap (λ l. with_names (noted c.args.notes.now) (names_each (both_scopes c.args.scopes) (map view_multiplied l))) (take_all c.loop-multiplied.multiplied-index c.args.factors.now c.loop-multiplied-test.false)

pub note_fulls-loop-part-preserved : goal.note_fulls-loop-part-preserved
note_fulls-loop-part-preserved t c = each_next (both_scopes c.args.scopes) view_full c.args.parts.now c.loop-part.part-index c.part-item.result _ _ _ c.loop-part-test.true c.part-item.is c.loop-part.invariant c.in_ok-note_full.ensures

pub note_fulls-returns : goal.note_fulls-returns
note_fulls-returns t c = c.loop-part.invariant ∙ ap (λ l. with_names (noted c.args.notes.now) (names_each (both_scopes c.args.scopes) (map view_full l))) (take_all c.loop-part.part-index c.args.parts.now c.loop-part-test.false)

pub note_args-loop-arg-preserved : goal.note_args-loop-arg-preserved
note_args-loop-arg-preserved t c = each_next (both_scopes c.args.scopes) view_arg c.args.args.now c.loop-arg.arg-index c.arg-item.result _ _ _ c.loop-arg-test.true c.arg-item.is c.loop-arg.invariant c.in_ok-note_arg.ensures

pub note_args-returns : goal.note_args-returns
note_args-returns t c = c.loop-arg.invariant ∙ ap (λ l. with_names (noted c.args.notes.now) (names_each (both_scopes c.args.scopes) (map view_arg l))) (take_all c.loop-arg.arg-index c.args.args.now c.loop-arg-test.false)

pub note_expr-returns : goal.note_expr-returns
note_expr-returns t c = expr_parts (both_scopes c.args.scopes) c.args.expr.now _ _ _ _ c.deref.ensures.value c.in_ok-note_and.ensures c.in_ok-note_ands.ensures

pub note_and-returns : goal.note_and-returns
note_and-returns t c = and_parts (both_scopes c.args.scopes) c.args.and.now _ _ _ _ c.deref.ensures.value c.in_ok-note_not.ensures c.in_ok-note_nots.ensures

pub note_sum-returns : goal.note_sum-returns
note_sum-returns t c = sum_parts (both_scopes c.args.scopes) c.args.sum.now _ _ _ _ c.deref.ensures.value c.in_ok-note_product.ensures c.in_ok-note_addends.ensures

pub note_product-returns : goal.note_product-returns
note_product-returns t c = product_parts (both_scopes c.args.scopes) c.args.product.now _ _ _ _ c.deref.ensures.value c.in_ok-note_operand.ensures c.in_ok-note_factors.ensures

pub note_call-returns : goal.note_call-returns
note_call-returns t c = call_parts (both_scopes c.args.scopes) c.args.call.now _ _ _ _ _ c.deref.ensures.value c.deref-2.ensures.value c.in_ok-add_call.ensures.added c.in_ok-note_args.ensures

pub note_choice-returns : goal.note_choice-returns
note_choice-returns t c =
    let sc = both_scopes c.args.scopes in
    three_parts (noted c.args.notes.now) (noted c.note_full.new.notes) (noted c.note_full-2.new.notes) (noted c.note_full-3.new.notes)
    (names sc (view_full c.args.choice.now.condition.value)) (names sc (view_full c.args.choice.now.then_part.value)) (names sc (view_full c.args.choice.now.else_part.value))
    (renamed sc _ _ _ _ c.deref.ensures c.in_ok-note_full.ensures) (renamed sc _ _ _ _ c.deref-2.ensures c.in_ok-note_full-2.ensures) (renamed sc _ _ _ _ c.deref-3.ensures c.in_ok-note_full-3.ensures)

pub note_compare-returns-in_ok-note_sum-in-Some : goal.note_compare-returns-in_ok-note_sum-in-Some
note_compare-returns-in_ok-note_sum-in-Some t c = compare_parts (both_scopes c.args.scopes) c.args.compare.now c.in-Some.right (noted c.args.notes.now) (noted c.note_sum.new.notes) (noted c.note_sum-in-Some.new.notes) c.in-Some.is c.in_ok-note_sum.ensures c.in_ok-note_sum-in-Some.ensures

pub note_operand-returns-in-Tuple : goal.note_operand-returns-in-Tuple
note_operand-returns-in-Tuple t c = rw (c.in-Tuple.is, tuple_names (both_scopes c.args.scopes) c.in-Tuple.at c.in-Tuple.parts) (search rules)

pub note_operand-returns-in-List : goal.note_operand-returns-in-List
note_operand-returns-in-List t c = rw (c.in-List.is, list_names (both_scopes c.args.scopes) c.in-List.at c.in-List.parts) (search rules)
