use Rattle.std.proofs.Common.{◌-◌, ◌≡◌, ℕ, List, [], Option, length, Result, Ok, true, false, refl, sym, ap, subst, ◌∙◌, arith, drop}
use Rattle.std.proofs.lemmas.Result.{err_from_is_err_and}
use Rattle.std.specs.Prelude.{map}
use Rattle.std.specs.Global.{Vec}
use Rattle.std.specs.Vec.Iter.{into_iter_items, into_iter_len}
use Rattle.script_grammar.specs.Tree.{Tree, ADef}
use Rattle.script_grammar.specs.View.{listed, view_full, view_and, view_not, view_call, view_compare, view_if, view_sum, view_added, view_product, view_multiplied, view_operand, view_arg, view_param, view_inner}
use Rattle.script_grammar.specs.declared.tree.Added as added
use Rattle.script_grammar.specs.declared.tree.And as and_
use Rattle.script_grammar.specs.declared.tree.Call as call
use Rattle.script_grammar.specs.declared.tree.Compare as compare
use Rattle.script_grammar.specs.declared.tree.Compared as compared_
use Rattle.script_grammar.specs.declared.tree.Expr as expr
use Rattle.script_grammar.specs.declared.tree.Not as not_
use Rattle.script_grammar.specs.declared.tree.Product as product
use Rattle.script_grammar.specs.declared.tree.Sum as sum
use Rattle.script_values.specs.Outcomes.{◌>>=◌, Outcome}
use Rattle.script_values.specs.declared.slots.Slot.{Slot}
use Rattle.script_values.specs.declared.fault.Stop.{Stop}
use Rattle.script_values.specs.declared.fault.Stop.TheVariants.{Stuck}
use Rattle.script_values.specs.declared.value.Value.{Value as AValue}
use Rattle.script_values.specs.declared.machine.Machine.{Machine}
use Rattle.script_values.specs.Gives.{Gives}
use Rattle.script_values.specs.Machines.{count_work}
use Rattle.script_values.specs.Numbers.{compared, opposite}
use Rattle.script_values.specs.Slots.{Argument}
use Rattle.typing_rules.specs.Uses.{use_at}
use Rattle.expression_eval.specs.Steps.{after_count}
use Rattle.eval_meaning.specs.Meaning as meaning
use Rattle.eval_meaning.specs.Meaning.{operator_applied}
use Rattle.eval_scope.specs.Scopes.{scope_of, base_of, world_of}
use Rattle.script_values.specs.Values.{Value}
use Rattle.script_values.specs.View.{view_value}
use Rattle.script_values.specs.Views.{view_given, view_slot}
use Rattle.expression_eval.specs.declared.steps.Operator.TheVariants as operator
use Rattle.expression_eval.proofs.Joins.{plus_means, times_means}
use Rattle.expression_eval.proofs.Loops.{turn, stops, ends}
use Rattle.expression_eval.proofs.Productions.{expr_means, conjunction_means, sum_means, product_means, call_means, ors_steps, ands_steps, addends_steps, factors_steps, fulls_steps, arguments_steps, inners_steps, with_last, went, ors_none, ands_none, addends_none, factors_none, fulls_none, arguments_none, inners_none, first_fails, pair_means, as_list, as_tuple, not_means, plain_means, alone_means, compared_means, argued_means, call_counted, choice_counted, paren_counted, tuple_counted, list_counted, calls_end, calls_turn}
use Rattle.expression_eval.proofs.Putting.{applied_gives, behind_gives, choice_fails, choice_goes, compare_stops, failed_gives, failed_means, failed_same, failed_stops, full_same, gives_same, goes_means, goes_same, joins_goes, kept_off, kept_on, left_ends, left_starts, left_stops, left_turns, made_gives, plain_last}
use Rattle.expression_eval.proofs.Singles.{full_lone}
use Rattle.expression_eval.proofs.Slots.{filled_by, filled_none, filled_steps, from_taken, next_taken, none_fails, none_left, one_less, parameters_filled, slot_fails, slot_went}
use Rattle.expression_eval.specs.Parameters.{all_filled, filled, view_taken}
use Rattle.expression_eval.proofs.+value.Goals as goal

pub logic::ors-turns-init : goal.logic::ors-turns-init
logic::ors-turns-init t c = left_starts (λ v. meaning.ors (scope_of c.args.scope.now) (listed (map view_and c.args.parts.now)) v c.args.machine.now) (meaning.ors (scope_of c.args.scope.now) (listed (map view_and c.args.parts.now))) c.args.out.now c.args.machine.now (λ v. refl)

pub logic::ors-turns-preserved : goal.logic::ors-turns-preserved
logic::ors-turns-preserved t c = left_turns view_and (ors_steps (scope_of c.args.scope.now)) c.args.parts.now c.turns.part-index c.part-item.result c.args.out.now c.turns.out c.or_one.new.out c.turns.machine c.or_one.new.machine (λ v. meaning.ors (scope_of c.args.scope.now) (listed (map view_and c.args.parts.now)) v c.args.machine.now) c.turns.invariant c.turns-test.true c.part-item.is c.or_one.ensures

pub logic::ors-returns-then-is_err : goal.logic::ors-returns-then-is_err
logic::ors-returns-then-is_err t c = left_stops (λ v. meaning.ors (scope_of c.args.scope.now) (listed (map view_and c.args.parts.now)) v c.args.machine.now) (meaning.ors (scope_of c.args.scope.now) (listed (map view_and (drop c.turns.part-index c.args.parts.now)))) c.args.out.now c.turns.out c.turns.machine c.turns.invariant (sym c.if-is_err.ensures.value)

pub logic::ors-returns : goal.logic::ors-returns
logic::ors-returns t c = left_ends view_and (meaning.ors (scope_of c.args.scope.now)) c.args.parts.now c.turns.part-index c.args.out.now c.turns.out c.turns.machine (λ v. meaning.ors (scope_of c.args.scope.now) (listed (map view_and c.args.parts.now)) v c.args.machine.now) c.turns.invariant c.turns-test.false (λ v. ors_none (scope_of c.args.scope.now) v c.turns.machine)

pub logic::ands-turns-init : goal.logic::ands-turns-init
logic::ands-turns-init t c = left_starts (λ v. meaning.ands (scope_of c.args.scope.now) (listed (map view_not c.args.parts.now)) v c.args.machine.now) (meaning.ands (scope_of c.args.scope.now) (listed (map view_not c.args.parts.now))) c.args.out.now c.args.machine.now (λ v. refl)

pub logic::ands-turns-preserved : goal.logic::ands-turns-preserved
logic::ands-turns-preserved t c = left_turns view_not (ands_steps (scope_of c.args.scope.now)) c.args.parts.now c.turns.part-index c.part-item.result c.args.out.now c.turns.out c.and_one.new.out c.turns.machine c.and_one.new.machine (λ v. meaning.ands (scope_of c.args.scope.now) (listed (map view_not c.args.parts.now)) v c.args.machine.now) c.turns.invariant c.turns-test.true c.part-item.is c.and_one.ensures

pub logic::ands-returns-then-is_err : goal.logic::ands-returns-then-is_err
logic::ands-returns-then-is_err t c = left_stops (λ v. meaning.ands (scope_of c.args.scope.now) (listed (map view_not c.args.parts.now)) v c.args.machine.now) (meaning.ands (scope_of c.args.scope.now) (listed (map view_not (drop c.turns.part-index c.args.parts.now)))) c.args.out.now c.turns.out c.turns.machine c.turns.invariant (sym c.if-is_err.ensures.value)

pub logic::ands-returns : goal.logic::ands-returns
logic::ands-returns t c = left_ends view_not (meaning.ands (scope_of c.args.scope.now)) c.args.parts.now c.turns.part-index c.args.out.now c.turns.out c.turns.machine (λ v. meaning.ands (scope_of c.args.scope.now) (listed (map view_not c.args.parts.now)) v c.args.machine.now) c.turns.invariant c.turns-test.false (λ v. ands_none (scope_of c.args.scope.now) v c.turns.machine)

pub arithmetic::addends-turns-init : goal.arithmetic::addends-turns-init
arithmetic::addends-turns-init t c = left_starts (λ v. meaning.addends (scope_of c.args.scope.now) (listed (map view_added c.args.parts.now)) v c.args.machine.now) (meaning.addends (scope_of c.args.scope.now) (listed (map view_added c.args.parts.now))) c.args.out.now c.args.machine.now (λ v. refl)

pub arithmetic::addends-turns-preserved : goal.arithmetic::addends-turns-preserved
arithmetic::addends-turns-preserved t c = left_turns view_added (addends_steps (scope_of c.args.scope.now)) c.args.parts.now c.turns.part-index c.part-item.result c.args.out.now c.turns.out c.added.new.out c.turns.machine c.added.new.machine (λ v. meaning.addends (scope_of c.args.scope.now) (listed (map view_added c.args.parts.now)) v c.args.machine.now) c.turns.invariant c.turns-test.true c.part-item.is c.added.ensures

pub arithmetic::addends-returns-then-is_err : goal.arithmetic::addends-returns-then-is_err
arithmetic::addends-returns-then-is_err t c = left_stops (λ v. meaning.addends (scope_of c.args.scope.now) (listed (map view_added c.args.parts.now)) v c.args.machine.now) (meaning.addends (scope_of c.args.scope.now) (listed (map view_added (drop c.turns.part-index c.args.parts.now)))) c.args.out.now c.turns.out c.turns.machine c.turns.invariant (sym c.if-is_err.ensures.value)

pub arithmetic::addends-returns : goal.arithmetic::addends-returns
arithmetic::addends-returns t c = left_ends view_added (meaning.addends (scope_of c.args.scope.now)) c.args.parts.now c.turns.part-index c.args.out.now c.turns.out c.turns.machine (λ v. meaning.addends (scope_of c.args.scope.now) (listed (map view_added c.args.parts.now)) v c.args.machine.now) c.turns.invariant c.turns-test.false (λ v. addends_none (scope_of c.args.scope.now) v c.turns.machine)

pub arithmetic::factors-turns-init : goal.arithmetic::factors-turns-init
arithmetic::factors-turns-init t c = left_starts (λ v. meaning.factors (scope_of c.args.scope.now) (listed (map view_multiplied c.args.parts.now)) v c.args.machine.now) (meaning.factors (scope_of c.args.scope.now) (listed (map view_multiplied c.args.parts.now))) c.args.out.now c.args.machine.now (λ v. refl)

pub arithmetic::factors-turns-preserved : goal.arithmetic::factors-turns-preserved
arithmetic::factors-turns-preserved t c = left_turns view_multiplied (factors_steps (scope_of c.args.scope.now)) c.args.parts.now c.turns.part-index c.part-item.result c.args.out.now c.turns.out c.multiplied.new.out c.turns.machine c.multiplied.new.machine (λ v. meaning.factors (scope_of c.args.scope.now) (listed (map view_multiplied c.args.parts.now)) v c.args.machine.now) c.turns.invariant c.turns-test.true c.part-item.is c.multiplied.ensures

pub arithmetic::factors-returns-then-is_err : goal.arithmetic::factors-returns-then-is_err
arithmetic::factors-returns-then-is_err t c = left_stops (λ v. meaning.factors (scope_of c.args.scope.now) (listed (map view_multiplied c.args.parts.now)) v c.args.machine.now) (meaning.factors (scope_of c.args.scope.now) (listed (map view_multiplied (drop c.turns.part-index c.args.parts.now)))) c.args.out.now c.turns.out c.turns.machine c.turns.invariant (sym c.if-is_err.ensures.value)

pub arithmetic::factors-returns : goal.arithmetic::factors-returns
arithmetic::factors-returns t c = left_ends view_multiplied (meaning.factors (scope_of c.args.scope.now)) c.args.parts.now c.turns.part-index c.args.out.now c.turns.out c.turns.machine (λ v. meaning.factors (scope_of c.args.scope.now) (listed (map view_multiplied c.args.parts.now)) v c.args.machine.now) c.turns.invariant c.turns-test.false (λ v. factors_none (scope_of c.args.scope.now) v c.turns.machine)

pub logic::expr-returns : goal.logic::expr-returns
logic::expr-returns t c = goes_means c.conjunction.new.out c.ors.new.out c.conjunction.new.machine c.ors.new.machine _ (meaning.conjunction (scope_of c.args.scope.now) (view_and (expr.out-Expr c.args.node.now).first) c.args.machine.now) (λ x. meaning.ors (scope_of c.args.scope.now) (listed (map view_and c.deref.result.now)) x.0 x.1) (expr_means (scope_of c.args.scope.now) c.args.node.now c.deref.result.now c.args.machine.now c.deref.ensures.value) c.conjunction.ensures c.ors.ensures

pub logic::conjunction-returns : goal.logic::conjunction-returns
logic::conjunction-returns t c = goes_means c.negation.new.out c.ands.new.out c.negation.new.machine c.ands.new.machine _ (meaning.negation (scope_of c.args.scope.now) (view_not (and_.out-And c.args.node.now).first) c.args.machine.now) (λ x. meaning.ands (scope_of c.args.scope.now) (listed (map view_not c.deref.result.now)) x.0 x.1) (conjunction_means (scope_of c.args.scope.now) c.args.node.now c.deref.result.now c.args.machine.now c.deref.ensures.value) c.negation.ensures c.ands.ensures

pub arithmetic::sum-returns : goal.arithmetic::sum-returns
arithmetic::sum-returns t c = goes_means c.product.new.out c.addends.new.out c.product.new.machine c.addends.new.machine _ (meaning.product (scope_of c.args.scope.now) (view_product (sum.out-Sum c.args.node.now).first) c.args.machine.now) (λ x. meaning.addends (scope_of c.args.scope.now) (listed (map view_added c.deref.result.now)) x.0 x.1) (sum_means (scope_of c.args.scope.now) c.args.node.now c.deref.result.now c.args.machine.now c.deref.ensures.value) c.product.ensures c.addends.ensures

pub arithmetic::product-returns : goal.arithmetic::product-returns
arithmetic::product-returns t c = goes_means c.operand.new.out c.factors.new.out c.operand.new.machine c.factors.new.machine _ (meaning.operand (scope_of c.args.scope.now) (view_operand (product.out-Product c.args.node.now).first) c.args.machine.now) (λ x. meaning.factors (scope_of c.args.scope.now) (listed (map view_multiplied c.deref.result.now)) x.0 x.1) (product_means (scope_of c.args.scope.now) c.args.node.now c.deref.result.now c.args.machine.now c.deref.ensures.value) c.operand.ensures c.factors.ensures

pub logic::or_one-returns : goal.logic::or_one-returns
logic::or_one-returns t c = joins_goes operator.Or c.args.out.now c.operate.new.out c.conjunction.new.out c.conjunction.new.machine c.operate.new.machine (meaning.conjunction (scope_of c.args.scope.now) (view_and c.args.part.now) c.args.machine.now) c.conjunction.ensures c.operate.ensures

pub logic::and_one-returns : goal.logic::and_one-returns
logic::and_one-returns t c = joins_goes operator.And c.args.out.now c.operate.new.out c.negation.new.out c.negation.new.machine c.operate.new.machine (meaning.negation (scope_of c.args.scope.now) (view_not c.args.part.now) c.args.machine.now) c.negation.ensures c.operate.ensures

pub arithmetic::compare_with-returns : goal.arithmetic::compare_with-returns
arithmetic::compare_with-returns t c = joins_goes (operator.Comparison c.args.op) c.args.out.now c.operate.new.out c.sum.new.out c.sum.new.machine c.operate.new.machine (meaning.sum (scope_of c.args.scope.now) (view_sum c.args.right.now) c.args.machine.now) c.sum.ensures c.operate.ensures

pub arithmetic::added-returns : goal.arithmetic::added-returns
arithmetic::added-returns t c =
    goes_same c.args.out.now c.operate.new.out c.operate.new.machine _ _ (λ v. plus_means (scope_of c.args.scope.now) c.args.part.now v c.args.machine.now) (joins_goes (operator.Sum (added.out-Added c.args.part.now).minus (added.out-Added c.args.part.now).at) c.args.out.now c.operate.new.out c.product.new.out c.product.new.machine c.operate.new.machine (meaning.product (scope_of c.args.scope.now) (view_product (added.out-Added c.args.part.now).product) c.args.machine.now) c.product.ensures c.operate.ensures)

pub arithmetic::multiplied-returns : goal.arithmetic::multiplied-returns
arithmetic::multiplied-returns t c =
    goes_same c.args.out.now c.operate.new.out c.operate.new.machine _ _ (λ v. times_means (scope_of c.args.scope.now) c.args.part.now v c.args.machine.now) (joins_goes (operator.Product c.args.part.now.divide c.args.part.now.at) c.args.out.now c.operate.new.out c.operand.new.out c.operand.new.machine c.operate.new.machine (meaning.operand (scope_of c.args.scope.now) (view_operand c.args.part.now.operand) c.args.machine.now) c.operand.ensures c.operate.ensures)

pub logic::negation-returns-then-node : goal.logic::negation-returns-then-node
logic::negation-returns-then-node t c = goes_means c.compare.new.out c.negate.new.out c.compare.new.machine c.negate.new.machine _ (meaning.compare (scope_of c.args.scope.now) (view_compare (not_.out-Not c.args.node.now).inner) c.args.machine.now) (λ x. after_count (opposite x.0) x.1) (not_means (scope_of c.args.scope.now) c.args.node.now c.args.machine.now c.if-node.true) c.compare.ensures c.negate.ensures

pub logic::negation-returns-else-node : goal.logic::negation-returns-else-node
logic::negation-returns-else-node t c = gives_same c.compare.new.out c.compare.new.machine _ _ (plain_means (scope_of c.args.scope.now) c.args.node.now c.args.machine.now c.if-node.false) c.compare.ensures

pub arithmetic::compare-returns-in-None : goal.arithmetic::compare-returns-in-None
arithmetic::compare-returns-in-None t c = gives_same c.sum.new.out c.sum.new.machine _ _ (alone_means (scope_of c.args.scope.now) c.args.node.now c.args.machine.now c.in-None.is) c.sum.ensures

pub arithmetic::compare-returns-in-Some : goal.arithmetic::compare-returns-in-Some
arithmetic::compare-returns-in-Some t c = goes_means c.sum.new.out c.compare_with.new.out c.sum.new.machine c.compare_with.new.machine _ (meaning.sum (scope_of c.args.scope.now) (view_sum (compare.out-Compare c.args.node.now).left) c.args.machine.now) (λ x. operator_applied (compared (compared_.out-Compared c.in-Some.right).op) x.0 (meaning.sum (scope_of c.args.scope.now) (view_sum (compared_.out-Compared c.in-Some.right).sum) x.1)) (compared_means (scope_of c.args.scope.now) c.args.node.now c.in-Some.right c.args.machine.now c.in-Some.is) c.sum.ensures c.compare_with.ensures

pub arithmetic::compare-returns-then-is_err : goal.arithmetic::compare-returns-then-is_err
arithmetic::compare-returns-then-is_err t c = compare_stops (scope_of c.args.scope.now) c.args.node.now c.args.machine.now c.sum.new.out c.sum.new.machine c.sum.ensures (sym c.if-is_err.ensures.value)

pub operands::operand-returns-then-step : goal.operands::operand-returns-then-step
operands::operand-returns-then-step t c = behind_gives c.put_call.new.out c.put_call.new.machine _ (count_work 1 c.args.machine.now) (meaning.call (scope_of c.args.scope.now) (view_call c.in-Call.inside)) c.step.new.machine (call_counted (scope_of c.args.scope.now) c.args.node.now c.in-Call.inside c.args.machine.now c.in-Call.is) c.if-step.ensures c.put_call.ensures

pub operands::operand-returns-else-step : goal.operands::operand-returns-else-step
operands::operand-returns-else-step t c = failed_means c.step.new.out c.step.new.machine _ (count_work 1 c.args.machine.now) (meaning.call (scope_of c.args.scope.now) (view_call c.in-Call.inside)) (call_counted (scope_of c.args.scope.now) c.args.node.now c.in-Call.inside c.args.machine.now c.in-Call.is) c.if-step.ensures

pub operands::operand-returns-then-step-2 : goal.operands::operand-returns-then-step-2
operands::operand-returns-then-step-2 t c = behind_gives c.put_choice.new.out c.put_choice.new.machine _ (count_work 1 c.args.machine.now) (meaning.choice (scope_of c.args.scope.now) (view_if c.in-If.inside)) c.step-in-If.new.machine (choice_counted (scope_of c.args.scope.now) c.args.node.now c.in-If.inside c.args.machine.now c.in-If.is) c.if-step-2.ensures c.put_choice.ensures

pub operands::operand-returns-else-step-2 : goal.operands::operand-returns-else-step-2
operands::operand-returns-else-step-2 t c = failed_means c.step-in-If.new.out c.step-in-If.new.machine _ (count_work 1 c.args.machine.now) (meaning.choice (scope_of c.args.scope.now) (view_if c.in-If.inside)) (choice_counted (scope_of c.args.scope.now) c.args.node.now c.in-If.inside c.args.machine.now c.in-If.is) c.if-step-2.ensures

pub operands::operand-returns-then-step-3 : goal.operands::operand-returns-then-step-3
operands::operand-returns-then-step-3 t c = behind_gives c.put_full.new.out c.put_full.new.machine _ (count_work 1 c.args.machine.now) (meaning.full (scope_of c.args.scope.now) (view_full c.in-Paren.inside.value)) c.step-in-Paren.new.machine (paren_counted (scope_of c.args.scope.now) c.args.node.now c.in-Paren.inside c.args.machine.now c.in-Paren.is) c.if-step-3.ensures (full_same (scope_of c.args.scope.now) c.deref.result.now c.in-Paren.inside.value c.put_full.new.out c.step-in-Paren.new.machine c.put_full.new.machine c.deref.ensures c.put_full.ensures)

pub operands::operand-returns-else-step-3 : goal.operands::operand-returns-else-step-3
operands::operand-returns-else-step-3 t c = failed_means c.step-in-Paren.new.out c.step-in-Paren.new.machine _ (count_work 1 c.args.machine.now) (meaning.full (scope_of c.args.scope.now) (view_full c.in-Paren.inside.value)) (paren_counted (scope_of c.args.scope.now) c.args.node.now c.in-Paren.inside c.args.machine.now c.in-Paren.is) c.if-step-3.ensures

pub operands::operand-returns-then-step-4 : goal.operands::operand-returns-then-step-4
operands::operand-returns-then-step-4 t c = behind_gives c.grouped.new.out c.grouped.new.machine _ (count_work 1 c.args.machine.now) (meaning.grouped (scope_of c.args.scope.now) (listed (map view_full c.deref-then-step-4.result.now))) c.step-in-Tuple.new.machine (tuple_counted (scope_of c.args.scope.now) c.args.node.now c.in-Tuple.at c.in-Tuple.parts c.deref-then-step-4.result.now c.args.machine.now c.in-Tuple.is c.deref-then-step-4.ensures.value) c.if-step-4.ensures c.grouped.ensures

pub operands::operand-returns-else-step-4 : goal.operands::operand-returns-else-step-4
operands::operand-returns-else-step-4 t c = failed_means c.step-in-Tuple.new.out c.step-in-Tuple.new.machine _ (count_work 1 c.args.machine.now) (meaning.grouped (scope_of c.args.scope.now) (listed (map view_full c.in-Tuple.parts.items))) (tuple_counted (scope_of c.args.scope.now) c.args.node.now c.in-Tuple.at c.in-Tuple.parts c.in-Tuple.parts.items c.args.machine.now c.in-Tuple.is refl) c.if-step-4.ensures

pub operands::operand-returns-then-step-5 : goal.operands::operand-returns-then-step-5
operands::operand-returns-then-step-5 t c = behind_gives c.list.new.out c.list.new.machine _ (count_work 1 c.args.machine.now) (meaning.all_of (scope_of c.args.scope.now) (listed (map view_full c.deref-then-step-5.result.now))) c.step-in-List.new.machine (list_counted (scope_of c.args.scope.now) c.args.node.now c.in-List.at c.in-List.parts c.deref-then-step-5.result.now c.args.machine.now c.in-List.is c.deref-then-step-5.ensures.value) c.if-step-5.ensures c.list.ensures

pub operands::operand-returns-else-step-5 : goal.operands::operand-returns-else-step-5
operands::operand-returns-else-step-5 t c = failed_means c.step-in-List.new.out c.step-in-List.new.machine _ (count_work 1 c.args.machine.now) (meaning.all_of (scope_of c.args.scope.now) (listed (map view_full c.in-List.parts.items))) (list_counted (scope_of c.args.scope.now) c.args.node.now c.in-List.at c.in-List.parts c.in-List.parts.items c.args.machine.now c.in-List.is refl) c.if-step-5.ensures

pub conditionals::put_choice-returns-in-None : goal.conditionals::put_choice-returns-in-None
conditionals::put_choice-returns-in-None t c = choice_fails (scope_of c.args.scope.now) c.args.node.now c.deref.result.now c.put_full.new.out c.truth.new.out c.args.machine.now c.put_full.new.machine c.deref.ensures c.put_full.ensures c.in-None.ensures

pub conditionals::put_choice-returns-in-Some-true : goal.conditionals::put_choice-returns-in-Some-true
conditionals::put_choice-returns-in-Some-true t c =
    choice_goes (scope_of c.args.scope.now) c.args.node.now true c.deref.result.now c.put_full.new.out c.truth.new.out c.put_full-in-Some-true.new.out c.args.machine.now c.put_full.new.machine c.put_full-in-Some-true.new.machine c.deref.ensures c.put_full.ensures (rw c.in-Some-true.field-0-test at c.in-Some-true.ensures)
    (full_same (scope_of c.args.scope.now) c.deref-in-Some-true.result.now c.args.node.now.then_part.value c.put_full-in-Some-true.new.out c.put_full.new.machine c.put_full-in-Some-true.new.machine c.deref-in-Some-true.ensures c.put_full-in-Some-true.ensures)

pub conditionals::put_choice-returns-in-Some-false : goal.conditionals::put_choice-returns-in-Some-false
conditionals::put_choice-returns-in-Some-false t c =
    choice_goes (scope_of c.args.scope.now) c.args.node.now false c.deref.result.now c.put_full.new.out c.truth.new.out c.put_full-in-Some-false.new.out c.args.machine.now c.put_full.new.machine c.put_full-in-Some-false.new.machine c.deref.ensures c.put_full.ensures (rw c.in-Some-false.field-0-test at c.in-Some-false.ensures)
    (full_same (scope_of c.args.scope.now) c.deref-in-Some-false.result.now c.args.node.now.else_part.value c.put_full-in-Some-false.new.out c.put_full.new.machine c.put_full-in-Some-false.new.machine c.deref-in-Some-false.ensures c.put_full-in-Some-false.ensures)

pub calls::put_call-returns-in-None : goal.calls::put_call-returns-in-None
calls::put_call-returns-in-None t c = failed_means c.arguments.new.out c.arguments.new.machine _ (meaning.arguments (scope_of c.args.scope.now) (listed (map view_arg c.deref.result.now)) [] c.args.machine.now) (λ x. meaning.applied (scope_of c.args.scope.now) (use_at (call.out-Call c.args.node.now).at (scope_of c.args.scope.now).uses) (call.out-Call c.args.node.now).at x.0 x.1) (call_means (scope_of c.args.scope.now) c.args.node.now c.deref.result.now c.args.machine.now c.deref.ensures.value) c.in-None.ensures

pub calls::put_call-returns-in-Some : goal.calls::put_call-returns-in-Some
calls::put_call-returns-in-Some t c = behind_gives c.applied.new.out c.applied.new.machine _ (meaning.arguments (scope_of c.args.scope.now) (listed (map view_arg c.deref.result.now)) [] c.args.machine.now) (λ x. meaning.applied (scope_of c.args.scope.now) (use_at (call.out-Call c.args.node.now).at (scope_of c.args.scope.now).uses) (call.out-Call c.args.node.now).at x.0 x.1) (map view_given c.in-Some.given.items, c.arguments.new.machine) (call_means (scope_of c.args.scope.now) c.args.node.now c.deref.result.now c.args.machine.now c.deref.ensures.value) c.in-Some.ensures c.applied.ensures

pub operands::pair-returns-in-None : goal.operands::pair-returns-in-None
operands::pair-returns-in-None t c = failed_means c.fulls.new.out c.fulls.new.machine _ (meaning.fulls (scope_of c.args.scope.now) (listed (map view_full c.args.parts.now)) [] c.args.machine.now) as_tuple (pair_means (scope_of c.args.scope.now) c.args.parts.now c.args.machine.now (omega arith)) c.in-None.ensures

pub operands::pair-returns-in-Some : goal.operands::pair-returns-in-Some
operands::pair-returns-in-Some t c = made_gives c.put.new.out c.fulls.new.machine _ (meaning.fulls (scope_of c.args.scope.now) (listed (map view_full c.args.parts.now)) [] c.args.machine.now) as_tuple (map view_value c.in-Some.values.items, c.fulls.new.machine) c.tuple.result (pair_means (scope_of c.args.scope.now) c.args.parts.now c.args.machine.now (omega arith)) c.in-Some.ensures (ap (λ (v : Value). Ok (v, c.fulls.new.machine)) (sym c.tuple.ensures)) c.put.ensures

pub operands::list-returns-in-Some : goal.operands::list-returns-in-Some
operands::list-returns-in-Some t c = made_gives c.put.new.out c.fulls.new.machine _ (meaning.fulls (scope_of c.args.scope.now) (listed (map view_full c.args.parts.now)) [] c.args.machine.now) as_list (map view_value c.in-Some.values.items, c.fulls.new.machine) c.listed.result refl c.in-Some.ensures (ap (λ (v : Value). Ok (v, c.fulls.new.machine)) (sym c.listed.ensures)) c.put.ensures

pub operands::list-returns-in-None : goal.operands::list-returns-in-None
operands::list-returns-in-None t c = failed_gives (λ v. (view_value v, c.fulls.new.machine)) c.fulls.new.out (meaning.fulls (scope_of c.args.scope.now) (listed (map view_full c.args.parts.now)) [] c.args.machine.now) as_list c.in-None.ensures

pub values::fulls-turns-preserved : goal.values::fulls-turns-preserved
values::fulls-turns-preserved t c = turn view_full (fulls_steps (scope_of c.args.scope.now)) c.args.parts.now c.turns.part-index c.part-item.result (map view_value c.turns.values.items) (map view_value c.kept_value.new.values.items) c.turns.machine c.put_full.new.machine (meaning.fulls (scope_of c.args.scope.now) (listed (map view_full c.args.parts.now)) [] c.args.machine.now) c.turns.invariant c.turns-test.true c.part-item.is (plain_last (meaning.full (scope_of c.args.scope.now) (view_full c.part-item.result) c.turns.machine) (map view_value c.turns.values.items) ∙ kept_on (λ v. v) c.put_full.new.out c.kept_value.new.out (map view_value c.turns.values.items) (map view_value c.kept_value.new.values.items) c.put_full.new.machine (meaning.full (scope_of c.args.scope.now) (view_full c.part-item.result) c.turns.machine) c.put_full.ensures (rw c.if-not-kept_value.false at c.kept_value.ensures))

pub values::fulls-returns-then-not-kept_value : goal.values::fulls-returns-then-not-kept_value
values::fulls-returns-then-not-kept_value t c = failed_stops view_full (fulls_steps (scope_of c.args.scope.now)) c.args.parts.now c.turns.part-index c.part-item.result (map view_value c.turns.values.items) c.turns.machine (meaning.fulls (scope_of c.args.scope.now) (listed (map view_full c.args.parts.now)) [] c.args.machine.now) c.kept_value.new.out c.turns.invariant c.turns-test.true c.part-item.is (failed_same c.kept_value.new.out _ _ (sym (plain_last (meaning.full (scope_of c.args.scope.now) (view_full c.part-item.result) c.turns.machine) (map view_value c.turns.values.items))) (kept_off (λ v. v) c.put_full.new.out c.kept_value.new.out (map view_value c.turns.values.items) (map view_value c.kept_value.new.values.items) c.put_full.new.machine (meaning.full (scope_of c.args.scope.now) (view_full c.part-item.result) c.turns.machine) c.put_full.ensures (rw c.if-not-kept_value.true at c.kept_value.ensures)))

pub values::fulls-returns : goal.values::fulls-returns
values::fulls-returns t c = ends view_full (meaning.fulls (scope_of c.args.scope.now)) c.args.parts.now c.turns.part-index (map view_value c.turns.values.items) c.turns.machine (meaning.fulls (scope_of c.args.scope.now) (listed (map view_full c.args.parts.now)) [] c.args.machine.now) c.turns.invariant c.turns-test.false ∙ fulls_none (scope_of c.args.scope.now) (map view_value c.turns.values.items) c.turns.machine

pub calls::arguments-turns-preserved : goal.calls::arguments-turns-preserved
calls::arguments-turns-preserved t c = turn view_arg (arguments_steps (scope_of c.args.scope.now)) c.args.args.now c.turns.arg-index c.arg-item.result (map view_given c.turns.given.items) (map view_given c.kept_argument.new.given.items) c.turns.machine c.put_full.new.machine (meaning.arguments (scope_of c.args.scope.now) (listed (map view_arg c.args.args.now)) [] c.args.machine.now) c.turns.invariant c.turns-test.true c.arg-item.is (ap (λ (o : Result (Argument × Machine) Stop). o >>= with_last (map view_given c.turns.given.items)) (argued_means (scope_of c.args.scope.now) c.arg-item.result c.turns.machine) ∙ kept_on (λ v. (c.arg-item.result.label, v)) c.put_full.new.out c.kept_argument.new.out (map view_given c.turns.given.items) (map view_given c.kept_argument.new.given.items) c.put_full.new.machine (meaning.full (scope_of c.args.scope.now) (view_full c.arg-item.result.value) c.turns.machine) c.put_full.ensures (rw c.if-not-kept_argument.false at c.kept_argument.ensures))

pub calls::arguments-returns-then-not-kept_argument : goal.calls::arguments-returns-then-not-kept_argument
calls::arguments-returns-then-not-kept_argument t c = failed_stops view_arg (arguments_steps (scope_of c.args.scope.now)) c.args.args.now c.turns.arg-index c.arg-item.result (map view_given c.turns.given.items) c.turns.machine (meaning.arguments (scope_of c.args.scope.now) (listed (map view_arg c.args.args.now)) [] c.args.machine.now) c.kept_argument.new.out c.turns.invariant c.turns-test.true c.arg-item.is (failed_same c.kept_argument.new.out _ _ (sym (ap (λ (o : Result (Argument × Machine) Stop). o >>= with_last (map view_given c.turns.given.items)) (argued_means (scope_of c.args.scope.now) c.arg-item.result c.turns.machine))) (kept_off (λ v. (c.arg-item.result.label, v)) c.put_full.new.out c.kept_argument.new.out (map view_given c.turns.given.items) (map view_given c.kept_argument.new.given.items) c.put_full.new.machine (meaning.full (scope_of c.args.scope.now) (view_full c.arg-item.result.value) c.turns.machine) c.put_full.ensures (rw c.if-not-kept_argument.true at c.kept_argument.ensures)))

pub calls::arguments-returns : goal.calls::arguments-returns
calls::arguments-returns t c = ends view_arg (meaning.arguments (scope_of c.args.scope.now)) c.args.args.now c.turns.arg-index (map view_given c.turns.given.items) c.turns.machine (meaning.arguments (scope_of c.args.scope.now) (listed (map view_arg c.args.args.now)) [] c.args.machine.now) c.turns.invariant c.turns-test.false ∙ arguments_none (scope_of c.args.scope.now) (map view_given c.turns.given.items) c.turns.machine

pub values::put_full-returns-in-Some : goal.values::put_full-returns-in-Some
values::put_full-returns-in-Some t c =
    gives_same c.operand.new.out c.operand.new.machine _ _ (full_lone (scope_of c.args.scope.now) c.args.node.now c.in-Plain.inside (view_operand c.in-Some.lone.now) c.args.machine.now c.in-Plain.is c.in-Some.ensures.seen) c.operand.ensures

pub bodies::inners-returns-in_err-slot : goal.bodies::inners-returns-in_err-slot
bodies::inners-returns-in_err-slot t c =
    let p = err_from_is_err_and c.from_residual.result c.from_residual.ensures.1 in
    rw (p.1, p.2) (stops view_inner (inners_steps (base_of c.args.scope.now)) c.args.bindings.now c.turns.binding-index c.binding-item.result (map view_slot c.turns.slots.items) c.turns.machine (meaning.inners (base_of c.args.scope.now) (listed (map view_inner c.args.bindings.now)) (map view_slot c.args.slots.now.items) c.args.machine.now) c.in_err-slot.field-0.0 c.turns.invariant c.turns-test.true c.binding-item.is (first_fails c.in_err-slot.field-0.0 (meaning.inner (base_of c.args.scope.now) (view_inner c.binding-item.result) (map view_slot c.deref.result.now) c.turns.machine) ((meaning.inner (base_of c.args.scope.now) (view_inner c.binding-item.result) (map view_slot c.turns.slots.items) c.turns.machine) >>= with_last (map view_slot c.turns.slots.items)) (with_last (map view_slot c.turns.slots.items)) (ap (λ (q : Result _ Stop). q >>= with_last (map view_slot c.turns.slots.items)) (ap (λ (l : List Slot). meaning.inner (base_of c.args.scope.now) (view_inner c.binding-item.result) (map view_slot l) c.turns.machine) (sym c.deref.ensures.value))) c.in_err-slot.ensures))

pub bodies::inners-turns-preserved : goal.bodies::inners-turns-preserved
bodies::inners-turns-preserved t c = turn view_inner (inners_steps (base_of c.args.scope.now)) c.args.bindings.now c.turns.binding-index c.binding-item.result (map view_slot c.turns.slots.items) (map view_slot c.push.new.self.items) c.turns.machine c.inner.new.machine (meaning.inners (base_of c.args.scope.now) (listed (map view_inner c.args.bindings.now)) (map view_slot c.args.slots.now.items) c.args.machine.now) c.turns.invariant c.turns-test.true c.binding-item.is (went view_slot (meaning.inner (base_of c.args.scope.now) (view_inner c.binding-item.result) (map view_slot c.turns.slots.items) c.turns.machine) c.turns.slots.items c.push.new.self.items c.in_ok-slot.slot c.inner.new.machine (ap (λ (l : List Slot). meaning.inner (base_of c.args.scope.now) (view_inner c.binding-item.result) (map view_slot l) c.turns.machine) (sym c.deref.ensures.value) ∙ c.in_ok-slot.ensures) c.in_ok-push.ensures.items)

pub bodies::inners-returns : goal.bodies::inners-returns
bodies::inners-returns t c = ends view_inner (meaning.inners (base_of c.args.scope.now)) c.args.bindings.now c.turns.binding-index (map view_slot c.turns.slots.items) c.turns.machine (meaning.inners (base_of c.args.scope.now) (listed (map view_inner c.args.bindings.now)) (map view_slot c.args.slots.now.items) c.args.machine.now) c.turns.invariant c.turns-test.false ∙ inners_none (base_of c.args.scope.now) (map view_slot c.turns.slots.items) c.turns.machine

pub bodies::filled_parameters-turns-preserved : goal.bodies::filled_parameters-turns-preserved
bodies::filled_parameters-turns-preserved t c =
    let long : into_iter_len c.next.new.self ≡ length (into_iter_items c.next.new.self) = one_less (into_iter_items c.turns.rest) (into_iter_items c.next.new.self) c.in-Some.one (into_iter_len c.turns.rest) (into_iter_len c.next.new.self) c.in-Some.ensures.cases.0 c.in-Some.ensures.cases.1 c.turns.invariant.0 in
    let front = next_taken (into_iter_items c.turns.rest) (into_iter_items c.next.new.self) c.in-Some.one c.in-Some.ensures.cases.0 in (
      long,
      turn view_param (filled_steps (base_of c.args.scope.now)) c.args.params.now c.turns.param-index c.param-item.result (map view_taken (into_iter_items c.turns.rest), map view_slot c.turns.slots.items) (map view_taken (into_iter_items c.next.new.self), map view_slot c.push.new.self.items) c.turns.machine c.parameter.new.machine (all_filled (base_of c.args.scope.now) (listed (map view_param c.args.params.now)) (map view_taken c.args.taken.items) [] c.args.machine.now) c.turns.invariant.1 c.turns-test.true c.param-item.is (slot_went (base_of c.args.scope.now) (view_param c.param-item.result) (view_taken c.in-Some.one) (map view_taken (into_iter_items c.turns.rest)) (map view_taken (into_iter_items c.next.new.self)) c.turns.slots.items c.push.new.self.items c.in_ok-slot.slot c.turns.machine c.parameter.new.machine front c.in_ok-slot.ensures c.in_ok-push.ensures.items),
    )

pub bodies::filled_parameters-returns-in_default : goal.bodies::filled_parameters-returns-in_default
bodies::filled_parameters-returns-in_default t c =
    stops view_param (filled_steps (base_of c.args.scope.now)) c.args.params.now c.turns.param-index c.param-item.result (map view_taken (into_iter_items c.turns.rest), map view_slot c.turns.slots.items) c.turns.machine (all_filled (base_of c.args.scope.now) (listed (map view_param c.args.params.now)) (map view_taken c.args.taken.items) [] c.args.machine.now) Stuck c.turns.invariant.1 c.turns-test.true c.param-item.is (none_fails (base_of c.args.scope.now) (view_param c.param-item.result) (map view_taken (into_iter_items c.turns.rest)) (map view_slot c.turns.slots.items) c.turns.machine (none_left (into_iter_items c.turns.rest) (into_iter_len c.turns.rest) c.turns.invariant.0 c.in_default.ensures.cases.0))

pub bodies::filled_parameters-returns-in_err-slot : goal.bodies::filled_parameters-returns-in_err-slot
bodies::filled_parameters-returns-in_err-slot t c =
    let p = err_from_is_err_and c.from_residual.result c.from_residual.ensures.1 in
    let front = next_taken (into_iter_items c.turns.rest) (into_iter_items c.next.new.self) c.in-Some.one c.in-Some.ensures.cases.0 in
    rw (p.1, p.2) (stops view_param (filled_steps (base_of c.args.scope.now)) c.args.params.now c.turns.param-index c.param-item.result (map view_taken (into_iter_items c.turns.rest), map view_slot c.turns.slots.items) c.turns.machine (all_filled (base_of c.args.scope.now) (listed (map view_param c.args.params.now)) (map view_taken c.args.taken.items) [] c.args.machine.now) c.in_err-slot.field-0.0 c.turns.invariant.1 c.turns-test.true c.param-item.is (slot_fails (base_of c.args.scope.now) (view_param c.param-item.result) (view_taken c.in-Some.one) (map view_taken (into_iter_items c.turns.rest)) (map view_taken (into_iter_items c.next.new.self)) (map view_slot c.turns.slots.items) c.turns.machine c.in_err-slot.field-0.0 front c.in_err-slot.ensures))

pub bodies::filled_parameters-returns : goal.bodies::filled_parameters-returns
bodies::filled_parameters-returns t c = ends view_param (from_taken (base_of c.args.scope.now)) c.args.params.now c.turns.param-index (map view_taken (into_iter_items c.turns.rest), map view_slot c.turns.slots.items) c.turns.machine (all_filled (base_of c.args.scope.now) (listed (map view_param c.args.params.now)) (map view_taken c.args.taken.items) [] c.args.machine.now) c.turns.invariant.1 c.turns-test.false ∙ filled_none (base_of c.args.scope.now) (map view_taken (into_iter_items c.turns.rest)) (map view_slot c.turns.slots.items) c.turns.machine

pub bodies::parameter-returns-in-Some : goal.bodies::parameter-returns-in-Some
bodies::parameter-returns-in-Some t c =
    ap (λ (o : Option AValue). filled (base_of c.args.scope.now) (view_param c.args.param.now) (view_taken o) c.args.machine.now) c.in-Some.is ∙ filled_by (base_of c.args.scope.now) c.args.param.now (view_value c.in-Some.value) c.args.machine.now

pub bodies::parameters-returns : goal.bodies::parameters-returns
bodies::parameters-returns t c =
    let same =
    parameters_filled (base_of c.args.scope.now) (listed (map view_param c.args.params.now)) (map view_given c.args.given.items) [] c.args.machine.now
    ∙ ap (λ (os : List (Option Value)). all_filled (base_of c.args.scope.now) (listed (map view_param c.args.params.now)) os [] c.args.machine.now) (sym c.in_ok-taken.ensures) in
    subst (λ (r : Result (List (ℕ × Value) × Machine) Stop). Gives (λ (v : Vec Slot). (map view_slot v.items, c.filled_parameters.new.machine)) c.filled_parameters.result r) (sym same) c.filled_parameters.ensures

pub calls::applied-returns-in-Some : goal.calls::applied-returns-in-Some
calls::applied-returns-in-Some t c =
    rw c.put-in-Some.ensures (applied_gives (scope_of c.args.scope.now) (use_at c.args.at c.args.scope.now.uses.now.all.now) c.in-Some.found.now c.args.at c.sources_made-before.result (map view_given c.args.given.items) c.applied_to-made.result c.noted.result c.args.machine.now c.applied_to-made.new.machine c.noted.new.machine (sym c.in-Some.ensures) c.sources_made-before.ensures c.applied_to-made.ensures c.noted.ensures)

pub calls::call_def-returns-then-scope-eq0 : goal.calls::call_def-returns-then-scope-eq0
calls::call_def-returns-then-scope-eq0 t c = calls_end (world_of c.args.scope.now) c.args.scope.now.calls c.args.at c.args.kinds.now (map view_given c.args.given.items) c.args.machine.now (omega arith)

pub calls::call_def-returns-in-None : goal.calls::call_def-returns-in-None
calls::call_def-returns-in-None t c =
    calls_turn (world_of c.args.scope.now) c.args.scope.now.calls (c.args.scope.now.calls - 1) c.args.at c.args.kinds.now (map view_given c.args.given.items) c.args.machine.now (omega arith)
    ∙ ap (λ (o : Option (Tree ADef)). meaning.run (record { uses = c.args.scope.now.uses.now.all.now; slots = map view_slot c.args.scope.now.globals.now.all.items; kinds = c.args.kinds.now; call = meaning.call_by (world_of c.args.scope.now) (c.args.scope.now.calls - 1) }) o (map view_given c.args.given.items) c.args.machine.now) (sym c.in-None.ensures)

pub calls::call_def-returns-in-Some : goal.calls::call_def-returns-in-Some
calls::call_def-returns-in-Some t c =
    let turned =
    calls_turn (world_of c.args.scope.now) c.args.scope.now.calls (c.args.scope.now.calls - 1) c.args.at c.args.kinds.now (map view_given c.args.given.items) c.args.machine.now (omega arith)
    ∙ ap (λ (o : Option (Tree ADef)). meaning.run (record { uses = c.args.scope.now.uses.now.all.now; slots = map view_slot c.args.scope.now.globals.now.all.items; kinds = c.args.kinds.now; call = meaning.call_by (world_of c.args.scope.now) (c.args.scope.now.calls - 1) }) o (map view_given c.args.given.items) c.args.machine.now) (sym c.in-Some.ensures) in
    subst (λ (r : Outcome). Gives (λ v. (view_value v, c.body.new.machine)) c.body.result r) (sym turned) c.body.ensures
