use Rattle.std.proofs.Common.{◌≡◌, ◌+◌, ◌*◌, drop, length, []}
use Rattle.std.specs.Vec.Iter.{into_iter_items, into_iter_len}
use Rattle.std.specs.Prelude.{map}
use Rattle.script_grammar.specs.View.{listed, view_full, view_and, view_not, view_added, view_multiplied, view_arg, view_param, view_inner}
use Rattle.eval_meaning.specs.Meaning.{ors, ands, addends, factors, fulls, arguments, inners}
use Rattle.expression_eval.specs.Parameters.{all_filled, view_taken}
use Rattle.eval_scope.specs.Scopes.{scope_of, base_of}
use Rattle.script_values.specs.Views.{view_given, view_slot}
use Rattle.script_values.specs.View.{view_value}
use Rattle.expression_eval.proofs.Putting.{Left}
use Rattle.expression_eval.proofs.+value.Given as goal

abbrev pub decreases-values::put_full : goal.decreases-values::put_full
decreases-values::put_full l = 30 * l.left + 0

abbrev pub decreases-values::full : goal.decreases-values::full
decreases-values::full l = 30 * l.left + 1

abbrev pub decreases-values::fulls : goal.decreases-values::fulls
decreases-values::fulls l = 30 * l.left + 1

abbrev pub decreases-calls::arguments : goal.decreases-calls::arguments
decreases-calls::arguments l = 30 * l.left + 1

abbrev pub decreases-conditionals::put_choice : goal.decreases-conditionals::put_choice
decreases-conditionals::put_choice l = 30 * l.left + 1

abbrev pub decreases-operands::list : goal.decreases-operands::list
decreases-operands::list l = 30 * l.left + 2

abbrev pub decreases-operands::pair : goal.decreases-operands::pair
decreases-operands::pair l = 30 * l.left + 2

abbrev pub decreases-operands::grouped : goal.decreases-operands::grouped
decreases-operands::grouped l = 30 * l.left + 3

abbrev pub decreases-bodies::parameter : goal.decreases-bodies::parameter
decreases-bodies::parameter l = 30 * l.left + 3

abbrev pub decreases-bodies::missing_parameter : goal.decreases-bodies::missing_parameter
decreases-bodies::missing_parameter l = 30 * l.left + 2

abbrev pub decreases-bodies::filled_parameters : goal.decreases-bodies::filled_parameters
decreases-bodies::filled_parameters l = 30 * l.left + 4

abbrev pub decreases-bodies::parameters : goal.decreases-bodies::parameters
decreases-bodies::parameters l = 30 * l.left + 5

abbrev pub decreases-bodies::inner : goal.decreases-bodies::inner
decreases-bodies::inner l = 30 * l.left + 2

abbrev pub decreases-bodies::inners : goal.decreases-bodies::inners
decreases-bodies::inners l = 30 * l.left + 3

abbrev pub decreases-bodies::body : goal.decreases-bodies::body
decreases-bodies::body l = 30 * l.left + 6

abbrev pub decreases-calls::call_def : goal.decreases-calls::call_def
decreases-calls::call_def l = 30 * l.left + 7

abbrev pub decreases-calls::applied_to : goal.decreases-calls::applied_to
decreases-calls::applied_to l = 30 * l.left + 8

abbrev pub decreases-calls::applied : goal.decreases-calls::applied
decreases-calls::applied l = 30 * l.left + 9

abbrev pub decreases-calls::put_call : goal.decreases-calls::put_call
decreases-calls::put_call l = 30 * l.left + 10

abbrev pub decreases-operands::operand : goal.decreases-operands::operand
decreases-operands::operand l = 30 * l.left + 11

abbrev pub decreases-arithmetic::multiplied : goal.decreases-arithmetic::multiplied
decreases-arithmetic::multiplied l = 30 * l.left + 12

abbrev pub decreases-arithmetic::factors : goal.decreases-arithmetic::factors
decreases-arithmetic::factors l = 30 * l.left + 13

abbrev pub decreases-arithmetic::product : goal.decreases-arithmetic::product
decreases-arithmetic::product l = 30 * l.left + 14

abbrev pub decreases-arithmetic::added : goal.decreases-arithmetic::added
decreases-arithmetic::added l = 30 * l.left + 15

abbrev pub decreases-arithmetic::addends : goal.decreases-arithmetic::addends
decreases-arithmetic::addends l = 30 * l.left + 16

abbrev pub decreases-arithmetic::sum : goal.decreases-arithmetic::sum
decreases-arithmetic::sum l = 30 * l.left + 17

abbrev pub decreases-arithmetic::compare_with : goal.decreases-arithmetic::compare_with
decreases-arithmetic::compare_with l = 30 * l.left + 18

abbrev pub decreases-arithmetic::compare : goal.decreases-arithmetic::compare
decreases-arithmetic::compare l = 30 * l.left + 19

abbrev pub decreases-logic::negation : goal.decreases-logic::negation
decreases-logic::negation l = 30 * l.left + 20

abbrev pub decreases-logic::and_one : goal.decreases-logic::and_one
decreases-logic::and_one l = 30 * l.left + 21

abbrev pub decreases-logic::ands : goal.decreases-logic::ands
decreases-logic::ands l = 30 * l.left + 22

abbrev pub decreases-logic::conjunction : goal.decreases-logic::conjunction
decreases-logic::conjunction l = 30 * l.left + 23

abbrev pub decreases-logic::or_one : goal.decreases-logic::or_one
decreases-logic::or_one l = 30 * l.left + 24

abbrev pub decreases-logic::ors : goal.decreases-logic::ors
decreases-logic::ors l = 30 * l.left + 25

abbrev pub decreases-logic::expr : goal.decreases-logic::expr
decreases-logic::expr l = 30 * l.left + 26

abbrev pub invariant-logic::ors-turns : goal.invariant-logic::ors-turns
invariant-logic::ors-turns l = Left (λ v. ors (scope_of l.scope) (listed (map view_and l.parts)) v l.fn.machine) (ors (scope_of l.scope) (listed (map view_and (drop l.part-index l.parts)))) l.fn.out l.out l.machine

abbrev pub invariant-logic::ands-turns : goal.invariant-logic::ands-turns
invariant-logic::ands-turns l = Left (λ v. ands (scope_of l.scope) (listed (map view_not l.parts)) v l.fn.machine) (ands (scope_of l.scope) (listed (map view_not (drop l.part-index l.parts)))) l.fn.out l.out l.machine

abbrev pub invariant-arithmetic::addends-turns : goal.invariant-arithmetic::addends-turns
invariant-arithmetic::addends-turns l = Left (λ v. addends (scope_of l.scope) (listed (map view_added l.parts)) v l.fn.machine) (addends (scope_of l.scope) (listed (map view_added (drop l.part-index l.parts)))) l.fn.out l.out l.machine

abbrev pub invariant-arithmetic::factors-turns : goal.invariant-arithmetic::factors-turns
invariant-arithmetic::factors-turns l = Left (λ v. factors (scope_of l.scope) (listed (map view_multiplied l.parts)) v l.fn.machine) (factors (scope_of l.scope) (listed (map view_multiplied (drop l.part-index l.parts)))) l.fn.out l.out l.machine

abbrev pub invariant-values::fulls-turns : goal.invariant-values::fulls-turns
invariant-values::fulls-turns l = fulls (scope_of l.scope) (listed (map view_full (drop l.part-index l.parts))) (map view_value l.values.items) l.machine ≡ fulls (scope_of l.scope) (listed (map view_full l.parts)) [] l.fn.machine

abbrev pub invariant-calls::arguments-turns : goal.invariant-calls::arguments-turns
invariant-calls::arguments-turns l = arguments (scope_of l.scope) (listed (map view_arg (drop l.arg-index l.args))) (map view_given l.given.items) l.machine ≡ arguments (scope_of l.scope) (listed (map view_arg l.args)) [] l.fn.machine

abbrev pub invariant-bodies::filled_parameters-turns : goal.invariant-bodies::filled_parameters-turns
invariant-bodies::filled_parameters-turns l =
    (into_iter_len l.rest ≡ length (into_iter_items l.rest))
    × (all_filled (base_of l.scope) (listed (map view_param (drop l.param-index l.params))) (map view_taken (into_iter_items l.rest)) (map view_slot l.slots.items) l.machine ≡ all_filled (base_of l.scope) (listed (map view_param l.params)) (map view_taken l.fn.taken.items) [] l.fn.machine)

abbrev pub invariant-bodies::inners-turns : goal.invariant-bodies::inners-turns
invariant-bodies::inners-turns l = inners (base_of l.scope) (listed (map view_inner (drop l.binding-index l.bindings))) (map view_slot l.slots.items) l.machine ≡ inners (base_of l.scope) (listed (map view_inner l.bindings)) (map view_slot l.fn.slots.items) l.fn.machine
