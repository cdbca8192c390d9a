use Rattle.std.proofs.Common.{◌<◌, ◌≤◌, length, ◌+◌, ◌*◌}
use Rattle.std.specs.List.{All}
use Rattle.script_grammar.specs.Kinds.{is_or, is_and, is_comma, is_added, is_multiplied}
use Rattle.script_grammar.specs.Read.{next, behind}
use Rattle.script_grammar.specs.ReadValue.{full_by, and_, not_, added, multiplied, arg}
use Rattle.script_grammar.specs.View.{view_full, view_and, view_not, view_added, view_multiplied, view_arg}
use Rattle.script_grammar.specs.Whole.{IsWholeFull, IsWholeAnd, IsWholeNot, IsWholeAdded, IsWholeMultiplied, IsWholeArg}
use Rattle.parse_base.specs.Gives.{places}
use Rattle.parse_base.proofs.Turns.{Turning}
use Rattle.value_parse.proofs.Chained.{Chaining}
use Rattle.value_parse.proofs.+value.Given as goal

abbrev pub decreases-arguments::call : goal.decreases-arguments::call
decreases-arguments::call l = 20 * length l.tokens.now

abbrev pub decreases-conditionals::choice : goal.decreases-conditionals::choice
decreases-conditionals::choice l = 20 * length l.tokens.now

abbrev pub decreases-operands::operand : goal.decreases-operands::operand
decreases-operands::operand l = 20 * length l.at.tokens.now + 1

abbrev pub decreases-logic::not_term : goal.decreases-logic::not_term
decreases-logic::not_term l = 20 * length l.at.tokens.now + 5

abbrev pub decreases-values::plain : goal.decreases-values::plain
decreases-values::plain l = 20 * length l.at.tokens.now + 8

abbrev pub decreases-values::full_step : goal.decreases-values::full_step
decreases-values::full_step l = 20 * length l.at.tokens.now + 9

abbrev pub decreases-values::full : goal.decreases-values::full
decreases-values::full l = 20 * length l.tokens.now + 10

abbrev pub decreases-arguments::labelled : goal.decreases-arguments::labelled
decreases-arguments::labelled l = 20 * length l.tokens.now + 11

abbrev pub decreases-conditionals::chosen : goal.decreases-conditionals::chosen
decreases-conditionals::chosen l = 20 * length l.tokens.now + 12

abbrev pub decreases-arguments::arg : goal.decreases-arguments::arg
decreases-arguments::arg l = 20 * length l.tokens.now + 12

abbrev pub decreases-logic::or_and : goal.decreases-logic::or_and
decreases-logic::or_and l = 20 * length l.at.tokens.now

abbrev pub decreases-logic::ands : goal.decreases-logic::ands
decreases-logic::ands l = 20 * length l.at.tokens.now + 1

abbrev pub decreases-logic::and_not : goal.decreases-logic::and_not
decreases-logic::and_not l = 20 * length l.at.tokens.now

abbrev pub decreases-logic::nots : goal.decreases-logic::nots
decreases-logic::nots l = 20 * length l.at.tokens.now + 1

abbrev pub decreases-arithmetic::behind_sum : goal.decreases-arithmetic::behind_sum
decreases-arithmetic::behind_sum l = 20 * length l.tokens.now

abbrev pub decreases-arithmetic::added : goal.decreases-arithmetic::added
decreases-arithmetic::added l = 20 * length l.here.tokens.now

abbrev pub decreases-arithmetic::addends : goal.decreases-arithmetic::addends
decreases-arithmetic::addends l = 20 * length l.at.tokens.now + 1

abbrev pub decreases-arithmetic::multiplied : goal.decreases-arithmetic::multiplied
decreases-arithmetic::multiplied l = 20 * length l.here.tokens.now

abbrev pub decreases-arithmetic::factors : goal.decreases-arithmetic::factors
decreases-arithmetic::factors l = 20 * length l.at.tokens.now + 1

abbrev pub decreases-operands::comma_full : goal.decreases-operands::comma_full
decreases-operands::comma_full l = 20 * length l.tokens.now

abbrev pub decreases-arguments::comma_arg : goal.decreases-arguments::comma_arg
decreases-arguments::comma_arg l = 20 * length l.tokens.now

abbrev pub decreases-conditionals::branches : goal.decreases-conditionals::branches
decreases-conditionals::branches l = 20 * length l.tokens.now

abbrev pub decreases-conditionals::otherwise : goal.decreases-conditionals::otherwise
decreases-conditionals::otherwise l = 20 * length l.tokens.now

abbrev pub decreases-logic::expr_of : goal.decreases-logic::expr_of
decreases-logic::expr_of l = 20 * length l.at.tokens.now

abbrev pub decreases-logic::and_of : goal.decreases-logic::and_of
decreases-logic::and_of l = 20 * length l.at.tokens.now

abbrev pub decreases-arithmetic::compare_of : goal.decreases-arithmetic::compare_of
decreases-arithmetic::compare_of l = 20 * length l.at.tokens.now

abbrev pub decreases-arithmetic::sum_of : goal.decreases-arithmetic::sum_of
decreases-arithmetic::sum_of l = 20 * length l.at.tokens.now

abbrev pub decreases-arithmetic::product_of : goal.decreases-arithmetic::product_of
decreases-arithmetic::product_of l = 20 * length l.at.tokens.now

abbrev pub decreases-values::full_box : goal.decreases-values::full_box
decreases-values::full_box l = 20 * length l.tokens.now + 11

abbrev pub decreases-values::plain_of : goal.decreases-values::plain_of
decreases-values::plain_of l = 20 * length l.at.tokens.now + 3

abbrev pub decreases-arguments::push_operand : goal.decreases-arguments::push_operand
decreases-arguments::push_operand l = 20 * length l.tokens.now + 3

abbrev pub decreases-logic::expr_from : goal.decreases-logic::expr_from
decreases-logic::expr_from l = 20 * length l.at.tokens.now + 2

abbrev pub decreases-logic::negation_of : goal.decreases-logic::negation_of
decreases-logic::negation_of l = 20 * length l.tokens.now + 1

abbrev pub decreases-operands::some_fulls : goal.decreases-operands::some_fulls
decreases-operands::some_fulls l = 20 * length l.tokens.now + 11

abbrev pub decreases-operands::fulls : goal.decreases-operands::fulls
decreases-operands::fulls l = 20 * length l.tokens.now + 12

abbrev pub decreases-operands::round : goal.decreases-operands::round
decreases-operands::round l = 20 * length l.tokens.now + 13

abbrev pub decreases-operands::list : goal.decreases-operands::list
decreases-operands::list l = 20 * length l.tokens.now + 13

abbrev pub decreases-arguments::some_args : goal.decreases-arguments::some_args
decreases-arguments::some_args l = 20 * length l.tokens.now + 13

abbrev pub decreases-arguments::args : goal.decreases-arguments::args
decreases-arguments::args l = 20 * length l.tokens.now + 14

abbrev pub invariant-logic::ands-turns : goal.invariant-logic::ands-turns
invariant-logic::ands-turns l = (length l.rest ≤ length l.at.tokens.now) × Turning view_and (next is_or) (behind is_or (and_ l.at.loose (places l.at.total) (full_by l.at.levels (places l.at.total)))) l.at.tokens.now l.rest l.items.items × All IsWholeAnd l.items.items

abbrev pub decreases-logic::ands-turns : goal.decreases-logic::ands-turns
decreases-logic::ands-turns l = length l.rest

abbrev pub invariant-logic::nots-turns : goal.invariant-logic::nots-turns
invariant-logic::nots-turns l = (length l.rest ≤ length l.at.tokens.now) × Turning view_not (next is_and) (behind is_and (not_ l.at.loose (places l.at.total) (full_by l.at.levels (places l.at.total)))) l.at.tokens.now l.rest l.items.items × All IsWholeNot l.items.items

abbrev pub decreases-logic::nots-turns : goal.decreases-logic::nots-turns
decreases-logic::nots-turns l = length l.rest

abbrev pub invariant-arithmetic::addends-turns : goal.invariant-arithmetic::addends-turns
invariant-arithmetic::addends-turns l = (length l.rest ≤ length l.at.tokens.now) × Turning view_added (next is_added) (added l.at.loose (places l.at.total) (full_by l.at.levels (places l.at.total))) l.at.tokens.now l.rest l.items.items × All IsWholeAdded l.items.items

abbrev pub decreases-arithmetic::addends-turns : goal.decreases-arithmetic::addends-turns
decreases-arithmetic::addends-turns l = length l.rest

abbrev pub invariant-arithmetic::factors-turns : goal.invariant-arithmetic::factors-turns
invariant-arithmetic::factors-turns l = (length l.rest ≤ length l.at.tokens.now) × Turning view_multiplied (next is_multiplied) (multiplied l.at.loose (places l.at.total) (full_by l.at.levels (places l.at.total))) l.at.tokens.now l.rest l.items.items × All IsWholeMultiplied l.items.items

abbrev pub decreases-arithmetic::factors-turns : goal.decreases-arithmetic::factors-turns
decreases-arithmetic::factors-turns l = length l.rest

abbrev pub invariant-operands::some_fulls-turns : goal.invariant-operands::some_fulls-turns
invariant-operands::some_fulls-turns l = (length l.rest < length l.tokens) × Chaining view_full is_comma (full_by l.levels (places l.total)) l.tokens l.rest l.parts.items × All IsWholeFull l.parts.items

abbrev pub decreases-operands::some_fulls-turns : goal.decreases-operands::some_fulls-turns
decreases-operands::some_fulls-turns l = length l.rest

abbrev pub invariant-arguments::some_args-turns : goal.invariant-arguments::some_args-turns
invariant-arguments::some_args-turns l = (length l.rest < length l.tokens) × Chaining view_arg is_comma (arg (places l.total) (full_by l.levels (places l.total))) l.tokens l.rest l.items.items × All IsWholeArg l.items.items

abbrev pub decreases-arguments::some_args-turns : goal.decreases-arguments::some_args-turns
decreases-arguments::some_args-turns l = length l.rest
