use Rattle.std.proofs.Common.{rules, arith, ◌≡◌, ◌∙◌, sym, ap, subst, refl, ℕ, ◌++◌, ◌∷◌, map, [], false, Some, None}
use Rattle.std.proofs.lemmas.List.{map-append}
use Rattle.std.specs.Prelude.{option_map}
use Rattle.script_grammar.specs.Tree.{Quoted, Truth, Called, Chosen, Nothing, Paren, Plain, Braces, PlaceFormat}
use Rattle.script_grammar.specs.View.{listed, view_added, view_and, view_arg, view_call, view_expr, view_full, view_if, view_multiplied, view_not, view_por, view_operand, view_product, view_sum}
use Rattle.script_grammar.specs.declared.tree.Added.{out-Added, size-Added}
use Rattle.script_grammar.specs.declared.tree.And.{size-And, size_is-And}
use Rattle.script_grammar.specs.declared.tree.Call.{out-Call, size_is-Call}
use Rattle.script_grammar.specs.declared.tree.Expr.{size_is-Expr}
use Rattle.script_grammar.specs.declared.tree.Full.{size-Full}
use Rattle.script_grammar.specs.declared.tree.Multiplied.{size-Multiplied}
use Rattle.script_grammar.specs.declared.tree.Not.{size-Not}
use Rattle.script_grammar.specs.declared.tree.Product.{size_is-Product}
use Rattle.script_grammar.specs.declared.tree.Sum.{size_is-Sum}
use Rattle.typing_rules.specs.declared.uses.Target.TheVariants as target
use Rattle.type_terms.specs.Term.{Term, term_of, variable}
use Rattle.type_terms.specs.declared.ty.Ty as ty
use Rattle.type_terms.proofs.Views.{term_Bool, term_Format, term_Pred, term_Text, term_Unit}
use Rattle.typing_rules.specs.Arguments.{GivenArgument}
use Rattle.type_steps.specs.Flow.{Defines}
use Rattle.type_terms.specs.declared.ty.Base.TheVariants as base
use Rattle.name_scope.specs.Seen.{seen_parameter}
use Rattle.type_steps.specs.Fitting.{seen_argument}
use Rattle.type_steps.proofs.Tables.{follows_both, over_later, uses_later}
use Rattle.type_steps.proofs.Forms.{one_none}
use Rattle.type_steps.proofs.Exits.{and_done, and_first, and_others, expr_done, expr_first, expr_others, product_done, product_first, product_others, sum_done, sum_first, sum_others}
use Rattle.type_steps.proofs.Shapes.{choice_condition, choice_first, choice_untrue, list_infers, list_none}
use Rattle.type_steps.proofs.Ends.{added_done, alone_infers, args_end, args_stop, branches_done, comparison_done, factor_done, fulls_end, fulls_stop, join_done, joins_end, joins_stop, leaf_infers, left_none, not_done, not_none, not_plain, numbers_never, right_none, tuple_done, tuple_empty, tuple_never, tuple_one}
use Rattle.expression_types.specs.Seen.{called_scheme, def_seen, env_of, founds}
use Rattle.expression_types.proofs.Calling.{args_none, builtin_called, call_done, call_no_def, call_none, call_value}
use Rattle.expression_types.proofs.Seeing.{seen_later}
use Rattle.expression_types.specs.Order.{tokens_used}
use Rattle.expression_types.proofs.Adding.{added_if, added_where, all_added, alone_added, and_added, branches_added, call_added, compared_added, empty_added, expr_added, name_answered, none_added, not_added, part_added, product_added, sum_added, term_added, tuple_added, use_added}
use Rattle.script_grammar.proofs.OneOperand.{lone_below}
use Rattle.expression_types.proofs.Alone.{lone_added, lone_typed}
use Rattle.expression_types.proofs.Applying.{begun_seen, builtin_counted, def_called, def_counted, def_not_called, terms_later}
use Rattle.expression_types.proofs.Operands.{answered_as, constant_infers, negative_infers, operand_list, operand_tuple}
use Rattle.expression_types.proofs.Sizes.{arg_below, compared_below, else_below, item_below, then_below}
use Rattle.expression_types.proofs.Turns.{next_given, next_joined, next_typed, none_given, none_joined, none_typed}
use Rattle.expression_types.proofs.+value.Goals as goal

pub logic::type_expr-join_ands-requires : goal.logic::type_expr-join_ands-requires
logic::type_expr-join_ands-requires t c =
    let f = rw c.in-Some.is at c.in_ok-type_and.ensures.typed in
    let size = size_is-Expr c.args.expr.now in
    (rw c.deref.ensures.value (omega (arith, c.decreases, size)), (seen_later c.args.subst.now c.type_and.new.subst c.args.names c.args.uses.now.items c.type_and.new.uses.items c.requires.seen f.follows f.uses, f.over))

pub logic::type_expr-is_truth_of_many-requires : goal.logic::type_expr-is_truth_of_many-requires
logic::type_expr-is_truth_of_many-requires t c =
    let f = rw c.in-Some.is at c.in_ok-type_and.ensures.typed in
    let g = rw c.if-not-joined.false at c.in_ok-joined-in-Some.ensures.typed in
    record { inside = over_later c.type_and.new.subst c.join_ands.new.subst (variable c.in-Some.n) g.follows f.over }

pub logic::type_expr-returns-in-None-clause-typed : goal.logic::type_expr-returns-in-None-clause-typed
logic::type_expr-returns-in-None-clause-typed t c = expr_first c.args.expr.now c.args.subst.now (env_of c.args.names) (founds c.args.uses.now.items) (rw c.in-None.is at c.in_ok-type_and.ensures.typed)

pub logic::type_expr-returns-then-not-joined-clause-typed : goal.logic::type_expr-returns-then-not-joined-clause-typed
logic::type_expr-returns-then-not-joined-clause-typed t c =
    let f = rw c.in-Some.is at c.in_ok-type_and.ensures.typed in
    expr_others c.args.expr.now c.deref.result.now c.deref.ensures.value c.args.subst.now (env_of c.args.names) (founds c.args.uses.now.items) c.requires.seen.over c.type_and.new.subst c.in-Some.n (founds c.type_and.new.uses.items) f (rw c.if-not-joined.true at c.in_ok-joined-in-Some.ensures.typed)

pub logic::type_expr-returns-in_ok-yes-in-Some-clause-typed : goal.logic::type_expr-returns-in_ok-yes-in-Some-clause-typed
logic::type_expr-returns-in_ok-yes-in-Some-clause-typed t c =
    let f = rw c.in-Some.is at c.in_ok-type_and.ensures.typed in
    let g = rw c.if-not-joined.false at c.in_ok-joined-in-Some.ensures.typed in
    expr_done c.args.expr.now c.deref.result.now c.deref.ensures.value c.args.subst.now (env_of c.args.names) (founds c.args.uses.now.items) c.requires.seen.over c.type_and.new.subst c.join_ands.new.subst c.is_truth_of_many.new.subst c.in-Some.n (founds c.type_and.new.uses.items) (founds c.join_ands.new.uses.items) c.in_ok-yes-in-Some.yes _ c.some_if.result (search rules) c.some_if.ensures f g c.in_ok-yes-in-Some.ensures

pub logic::type_expr-returns-in_ok-yes-in-Some-clause-order : goal.logic::type_expr-returns-in_ok-yes-in-Some-clause-order
logic::type_expr-returns-in_ok-yes-in-Some-clause-order t c =
    expr_added c.args.names (founds c.args.uses.now.items) (founds c.type_and.new.uses.items) (founds c.join_ands.new.uses.items) c.in_ok-yes-in-Some.yes c.in-Some.n c.some_if.result c.some_if.ensures c.args.expr.now c.deref.result.now c.deref.ensures.value (rw c.in-Some.is at c.in_ok-type_and.ensures.order) (rw c.if-not-joined.false at c.in_ok-joined-in-Some.ensures.order)

pub logic::type_and-join_nots-requires : goal.logic::type_and-join_nots-requires
logic::type_and-join_nots-requires t c =
    let f = rw c.in-Some.is at c.in_ok-type_not.ensures.typed in
    let size = size_is-And c.args.and.now in
    (rw c.deref.ensures.value (omega (arith, c.decreases, size)), (seen_later c.args.subst.now c.type_not.new.subst c.args.names c.args.uses.now.items c.type_not.new.uses.items c.requires.seen f.follows f.uses, f.over))

pub logic::type_and-is_truth_of_many-requires : goal.logic::type_and-is_truth_of_many-requires
logic::type_and-is_truth_of_many-requires t c =
    let f = rw c.in-Some.is at c.in_ok-type_not.ensures.typed in
    let g = rw c.if-not-joined.false at c.in_ok-joined-in-Some.ensures.typed in
    record { inside = over_later c.type_not.new.subst c.join_nots.new.subst (variable c.in-Some.n) g.follows f.over }

pub logic::type_and-returns-in-None-clause-typed : goal.logic::type_and-returns-in-None-clause-typed
logic::type_and-returns-in-None-clause-typed t c = and_first c.args.and.now c.args.subst.now (env_of c.args.names) (founds c.args.uses.now.items) (rw c.in-None.is at c.in_ok-type_not.ensures.typed)

pub logic::type_and-returns-then-not-joined-clause-typed : goal.logic::type_and-returns-then-not-joined-clause-typed
logic::type_and-returns-then-not-joined-clause-typed t c =
    let f = rw c.in-Some.is at c.in_ok-type_not.ensures.typed in
    and_others c.args.and.now c.deref.result.now c.deref.ensures.value c.args.subst.now (env_of c.args.names) (founds c.args.uses.now.items) c.requires.seen.over c.type_not.new.subst c.in-Some.n (founds c.type_not.new.uses.items) f (rw c.if-not-joined.true at c.in_ok-joined-in-Some.ensures.typed)

pub logic::type_and-returns-in_ok-yes-in-Some-clause-typed : goal.logic::type_and-returns-in_ok-yes-in-Some-clause-typed
logic::type_and-returns-in_ok-yes-in-Some-clause-typed t c =
    let f = rw c.in-Some.is at c.in_ok-type_not.ensures.typed in
    let g = rw c.if-not-joined.false at c.in_ok-joined-in-Some.ensures.typed in
    and_done c.args.and.now c.deref.result.now c.deref.ensures.value c.args.subst.now (env_of c.args.names) (founds c.args.uses.now.items) c.requires.seen.over c.type_not.new.subst c.join_nots.new.subst c.is_truth_of_many.new.subst c.in-Some.n (founds c.type_not.new.uses.items) (founds c.join_nots.new.uses.items) c.in_ok-yes-in-Some.yes _ c.some_if.result (search rules) c.some_if.ensures f g c.in_ok-yes-in-Some.ensures

pub logic::type_and-returns-in_ok-yes-in-Some-clause-order : goal.logic::type_and-returns-in_ok-yes-in-Some-clause-order
logic::type_and-returns-in_ok-yes-in-Some-clause-order t c =
    and_added c.args.names (founds c.args.uses.now.items) (founds c.type_not.new.uses.items) (founds c.join_nots.new.uses.items) c.in_ok-yes-in-Some.yes c.in-Some.n c.some_if.result c.some_if.ensures c.args.and.now c.deref.result.now c.deref.ensures.value (rw c.in-Some.is at c.in_ok-type_not.ensures.order) (rw c.if-not-joined.false at c.in_ok-joined-in-Some.ensures.order)

pub arithmetic::type_sum-join_addends-requires : goal.arithmetic::type_sum-join_addends-requires
arithmetic::type_sum-join_addends-requires t c =
    let f = rw c.in-Some.is at c.in_ok-type_product.ensures.typed in
    let size = size_is-Sum c.args.sum.now in
    (rw c.deref.ensures.value (omega (arith, c.decreases, size)), (seen_later c.args.subst.now c.type_product.new.subst c.args.names c.args.uses.now.items c.type_product.new.uses.items c.requires.seen f.follows f.uses, f.over))

pub arithmetic::type_sum-is_number_of_many-requires : goal.arithmetic::type_sum-is_number_of_many-requires
arithmetic::type_sum-is_number_of_many-requires t c =
    let f = rw c.in-Some.is at c.in_ok-type_product.ensures.typed in
    let g = rw c.if-not-joined.false at c.in_ok-joined-in-Some.ensures.typed in
    record { inside = over_later c.type_product.new.subst c.join_addends.new.subst (variable c.in-Some.n) g.follows f.over }

pub arithmetic::type_sum-returns-in-None-clause-typed : goal.arithmetic::type_sum-returns-in-None-clause-typed
arithmetic::type_sum-returns-in-None-clause-typed t c = sum_first c.args.sum.now c.args.subst.now (env_of c.args.names) (founds c.args.uses.now.items) (rw c.in-None.is at c.in_ok-type_product.ensures.typed)

pub arithmetic::type_sum-returns-then-not-joined-clause-typed : goal.arithmetic::type_sum-returns-then-not-joined-clause-typed
arithmetic::type_sum-returns-then-not-joined-clause-typed t c =
    let f = rw c.in-Some.is at c.in_ok-type_product.ensures.typed in
    sum_others c.args.sum.now c.deref.result.now c.deref.ensures.value c.args.subst.now (env_of c.args.names) (founds c.args.uses.now.items) c.requires.seen.over c.type_product.new.subst c.in-Some.n (founds c.type_product.new.uses.items) f (rw c.if-not-joined.true at c.in_ok-joined-in-Some.ensures.typed)

pub arithmetic::type_sum-returns-in_ok-yes-in-Some-clause-typed : goal.arithmetic::type_sum-returns-in_ok-yes-in-Some-clause-typed
arithmetic::type_sum-returns-in_ok-yes-in-Some-clause-typed t c =
    let f = rw c.in-Some.is at c.in_ok-type_product.ensures.typed in
    let g = rw c.if-not-joined.false at c.in_ok-joined-in-Some.ensures.typed in
    sum_done c.args.sum.now c.deref.result.now c.deref.ensures.value c.args.subst.now (env_of c.args.names) (founds c.args.uses.now.items) c.requires.seen.over c.type_product.new.subst c.join_addends.new.subst c.is_number_of_many.new.subst c.in-Some.n (founds c.type_product.new.uses.items) (founds c.join_addends.new.uses.items) c.in_ok-yes-in-Some.yes _ c.some_if.result (search rules) c.some_if.ensures f g c.in_ok-yes-in-Some.ensures

pub arithmetic::type_sum-returns-in_ok-yes-in-Some-clause-order : goal.arithmetic::type_sum-returns-in_ok-yes-in-Some-clause-order
arithmetic::type_sum-returns-in_ok-yes-in-Some-clause-order t c =
    sum_added c.args.names (founds c.args.uses.now.items) (founds c.type_product.new.uses.items) (founds c.join_addends.new.uses.items) c.in_ok-yes-in-Some.yes c.in-Some.n c.some_if.result c.some_if.ensures c.args.sum.now c.deref.result.now c.deref.ensures.value (rw c.in-Some.is at c.in_ok-type_product.ensures.order) (rw c.if-not-joined.false at c.in_ok-joined-in-Some.ensures.order)

pub arithmetic::type_product-join_factors-requires : goal.arithmetic::type_product-join_factors-requires
arithmetic::type_product-join_factors-requires t c =
    let f = rw c.in-Some.is at c.in_ok-type_operand.ensures.typed in
    let size = size_is-Product c.args.product.now in
    (rw c.deref.ensures.value (omega (arith, c.decreases, size)), (seen_later c.args.subst.now c.type_operand.new.subst c.args.names c.args.uses.now.items c.type_operand.new.uses.items c.requires.seen f.follows f.uses, f.over))

pub arithmetic::type_product-is_number_of_many-requires : goal.arithmetic::type_product-is_number_of_many-requires
arithmetic::type_product-is_number_of_many-requires t c =
    let f = rw c.in-Some.is at c.in_ok-type_operand.ensures.typed in
    let g = rw c.if-not-joined.false at c.in_ok-joined-in-Some.ensures.typed in
    record { inside = over_later c.type_operand.new.subst c.join_factors.new.subst (variable c.in-Some.n) g.follows f.over }

pub arithmetic::type_product-returns-in-None-clause-typed : goal.arithmetic::type_product-returns-in-None-clause-typed
arithmetic::type_product-returns-in-None-clause-typed t c = product_first c.args.product.now c.args.subst.now (env_of c.args.names) (founds c.args.uses.now.items) (rw c.in-None.is at c.in_ok-type_operand.ensures.typed)

pub arithmetic::type_product-returns-then-not-joined-clause-typed : goal.arithmetic::type_product-returns-then-not-joined-clause-typed
arithmetic::type_product-returns-then-not-joined-clause-typed t c =
    let f = rw c.in-Some.is at c.in_ok-type_operand.ensures.typed in
    product_others c.args.product.now c.deref.result.now c.deref.ensures.value c.args.subst.now (env_of c.args.names) (founds c.args.uses.now.items) c.requires.seen.over c.type_operand.new.subst c.in-Some.n (founds c.type_operand.new.uses.items) f (rw c.if-not-joined.true at c.in_ok-joined-in-Some.ensures.typed)

pub arithmetic::type_product-returns-in_ok-yes-in-Some-clause-typed : goal.arithmetic::type_product-returns-in_ok-yes-in-Some-clause-typed
arithmetic::type_product-returns-in_ok-yes-in-Some-clause-typed t c =
    let f = rw c.in-Some.is at c.in_ok-type_operand.ensures.typed in
    let g = rw c.if-not-joined.false at c.in_ok-joined-in-Some.ensures.typed in
    product_done c.args.product.now c.deref.result.now c.deref.ensures.value c.args.subst.now (env_of c.args.names) (founds c.args.uses.now.items) c.requires.seen.over c.type_operand.new.subst c.join_factors.new.subst c.is_number_of_many.new.subst c.in-Some.n (founds c.type_operand.new.uses.items) (founds c.join_factors.new.uses.items) c.in_ok-yes-in-Some.yes _ c.some_if.result (search rules) c.some_if.ensures f g c.in_ok-yes-in-Some.ensures

pub arithmetic::type_product-returns-in_ok-yes-in-Some-clause-order : goal.arithmetic::type_product-returns-in_ok-yes-in-Some-clause-order
arithmetic::type_product-returns-in_ok-yes-in-Some-clause-order t c =
    product_added c.args.names (founds c.args.uses.now.items) (founds c.type_operand.new.uses.items) (founds c.join_factors.new.uses.items) c.in_ok-yes-in-Some.yes c.in-Some.n c.some_if.result c.some_if.ensures c.args.product.now c.deref.result.now c.deref.ensures.value (rw c.in-Some.is at c.in_ok-type_operand.ensures.order) (rw c.if-not-joined.false at c.in_ok-joined-in-Some.ensures.order)

pub logic::join_and-same-requires-clause-left : goal.logic::join_and-same-requires-clause-left
logic::join_and-same-requires-clause-left t c = let f = rw c.in-Some.is at c.in_ok-type_and.ensures.typed in over_later c.args.subst.now c.type_and.new.subst (variable c.args.n) f.follows c.requires.inside

pub logic::join_and-same-requires-clause-right : goal.logic::join_and-same-requires-clause-right
logic::join_and-same-requires-clause-right t c = let f = rw c.in-Some.is at c.in_ok-type_and.ensures.typed in f.over

pub logic::join_and-returns-in-None-clause-typed : goal.logic::join_and-returns-in-None-clause-typed
logic::join_and-returns-in-None-clause-typed t c = one_none c.args.subst.now (env_of c.args.names) (view_and c.args.and.now) (variable c.args.n) (founds c.args.uses.now.items) (rw c.in-None.is at c.in_ok-type_and.ensures.typed)

pub logic::join_and-returns-in_ok-yes-in-Some-clause-typed : goal.logic::join_and-returns-in_ok-yes-in-Some-clause-typed
logic::join_and-returns-in_ok-yes-in-Some-clause-typed t c =
    join_done c.args.subst.now c.type_and.new.subst c.same.new.subst (env_of c.args.names) (view_and c.args.and.now) c.args.n c.in-Some.other (founds c.args.uses.now.items) (founds c.type_and.new.uses.items) c.in_ok-yes-in-Some.yes c.requires.seen.over c.requires.seen.uses_over c.requires.inside (rw c.in-Some.is at c.in_ok-type_and.ensures.typed) c.in_ok-yes-in-Some.ensures

pub logic::join_and-returns-in_ok-yes-in-Some-clause-order : goal.logic::join_and-returns-in_ok-yes-in-Some-clause-order
logic::join_and-returns-in_ok-yes-in-Some-clause-order t c = added_where c.args.names (tokens_used (view_and c.args.and.now)) (founds c.args.uses.now.items) (founds c.type_and.new.uses.items) c.in_ok-yes-in-Some.yes (rw c.in-Some.is at c.in_ok-type_and.ensures.order)

pub logic::join_not-same-requires-clause-left : goal.logic::join_not-same-requires-clause-left
logic::join_not-same-requires-clause-left t c = let f = rw c.in-Some.is at c.in_ok-type_not.ensures.typed in over_later c.args.subst.now c.type_not.new.subst (variable c.args.n) f.follows c.requires.inside

pub logic::join_not-same-requires-clause-right : goal.logic::join_not-same-requires-clause-right
logic::join_not-same-requires-clause-right t c = let f = rw c.in-Some.is at c.in_ok-type_not.ensures.typed in f.over

pub logic::join_not-returns-in-None-clause-typed : goal.logic::join_not-returns-in-None-clause-typed
logic::join_not-returns-in-None-clause-typed t c = one_none c.args.subst.now (env_of c.args.names) (view_not c.args.not.now) (variable c.args.n) (founds c.args.uses.now.items) (rw c.in-None.is at c.in_ok-type_not.ensures.typed)

pub logic::join_not-returns-in_ok-yes-in-Some-clause-typed : goal.logic::join_not-returns-in_ok-yes-in-Some-clause-typed
logic::join_not-returns-in_ok-yes-in-Some-clause-typed t c =
    join_done c.args.subst.now c.type_not.new.subst c.same.new.subst (env_of c.args.names) (view_not c.args.not.now) c.args.n c.in-Some.other (founds c.args.uses.now.items) (founds c.type_not.new.uses.items) c.in_ok-yes-in-Some.yes c.requires.seen.over c.requires.seen.uses_over c.requires.inside (rw c.in-Some.is at c.in_ok-type_not.ensures.typed) c.in_ok-yes-in-Some.ensures

pub logic::join_not-returns-in_ok-yes-in-Some-clause-order : goal.logic::join_not-returns-in_ok-yes-in-Some-clause-order
logic::join_not-returns-in_ok-yes-in-Some-clause-order t c = added_where c.args.names (tokens_used (view_not c.args.not.now)) (founds c.args.uses.now.items) (founds c.type_not.new.uses.items) c.in_ok-yes-in-Some.yes (rw c.in-Some.is at c.in_ok-type_not.ensures.order)

pub arithmetic::join_sum-same-requires-clause-left : goal.arithmetic::join_sum-same-requires-clause-left
arithmetic::join_sum-same-requires-clause-left t c = let f = rw c.in-Some.is at c.in_ok-type_sum.ensures.typed in over_later c.args.subst.now c.type_sum.new.subst (variable c.args.n) f.follows c.requires.inside

pub arithmetic::join_sum-same-requires-clause-right : goal.arithmetic::join_sum-same-requires-clause-right
arithmetic::join_sum-same-requires-clause-right t c = let f = rw c.in-Some.is at c.in_ok-type_sum.ensures.typed in f.over

pub arithmetic::join_sum-returns-in-None-clause-typed : goal.arithmetic::join_sum-returns-in-None-clause-typed
arithmetic::join_sum-returns-in-None-clause-typed t c = one_none c.args.subst.now (env_of c.args.names) (view_sum c.args.sum.now) (variable c.args.n) (founds c.args.uses.now.items) (rw c.in-None.is at c.in_ok-type_sum.ensures.typed)

pub arithmetic::join_sum-returns-in_ok-yes-in-Some-clause-typed : goal.arithmetic::join_sum-returns-in_ok-yes-in-Some-clause-typed
arithmetic::join_sum-returns-in_ok-yes-in-Some-clause-typed t c =
    join_done c.args.subst.now c.type_sum.new.subst c.same.new.subst (env_of c.args.names) (view_sum c.args.sum.now) c.args.n c.in-Some.other (founds c.args.uses.now.items) (founds c.type_sum.new.uses.items) c.in_ok-yes-in-Some.yes c.requires.seen.over c.requires.seen.uses_over c.requires.inside (rw c.in-Some.is at c.in_ok-type_sum.ensures.typed) c.in_ok-yes-in-Some.ensures

pub arithmetic::join_sum-returns-in_ok-yes-in-Some-clause-order : goal.arithmetic::join_sum-returns-in_ok-yes-in-Some-clause-order
arithmetic::join_sum-returns-in_ok-yes-in-Some-clause-order t c = added_where c.args.names (tokens_used (view_sum c.args.sum.now)) (founds c.args.uses.now.items) (founds c.type_sum.new.uses.items) c.in_ok-yes-in-Some.yes (rw c.in-Some.is at c.in_ok-type_sum.ensures.order)

pub arithmetic::join_added-same-requires-clause-left : goal.arithmetic::join_added-same-requires-clause-left
arithmetic::join_added-same-requires-clause-left t c =
    let f = rw c.in-Some.is at c.in_ok-type_product.ensures.typed in over_later c.args.subst.now c.type_product.new.subst (variable c.args.n) f.follows c.requires.inside

pub arithmetic::join_added-same-requires-clause-right : goal.arithmetic::join_added-same-requires-clause-right
arithmetic::join_added-same-requires-clause-right t c =
    let f = rw c.in-Some.is at c.in_ok-type_product.ensures.typed in f.over

pub arithmetic::join_added-returns-in-None-clause-typed : goal.arithmetic::join_added-returns-in-None-clause-typed
arithmetic::join_added-returns-in-None-clause-typed t c =
    added_done c.args.subst.now c.args.subst.now (env_of c.args.names) c.args.added.now c.args.n (founds c.args.uses.now.items) (founds c.args.uses.now.items) false (one_none c.args.subst.now (env_of c.args.names) (view_product (out-Added c.args.added.now).product) (variable c.args.n) (founds c.args.uses.now.items) (rw c.in-None.is at c.in_ok-type_product.ensures.typed))

pub arithmetic::join_added-returns-in_ok-yes-in-Some-clause-typed : goal.arithmetic::join_added-returns-in_ok-yes-in-Some-clause-typed
arithmetic::join_added-returns-in_ok-yes-in-Some-clause-typed t c =
    added_done c.args.subst.now c.same.new.subst (env_of c.args.names) c.args.added.now c.args.n (founds c.args.uses.now.items) (founds c.type_product.new.uses.items) c.in_ok-yes-in-Some.yes (join_done c.args.subst.now c.type_product.new.subst c.same.new.subst (env_of c.args.names) (view_product (out-Added c.args.added.now).product) c.args.n c.in-Some.other (founds c.args.uses.now.items) (founds c.type_product.new.uses.items) c.in_ok-yes-in-Some.yes c.requires.seen.over c.requires.seen.uses_over c.requires.inside (rw c.in-Some.is at c.in_ok-type_product.ensures.typed) c.in_ok-yes-in-Some.ensures)

pub arithmetic::join_added-returns-in_ok-yes-in-Some-clause-order : goal.arithmetic::join_added-returns-in_ok-yes-in-Some-clause-order
arithmetic::join_added-returns-in_ok-yes-in-Some-clause-order t c =
    added_where c.args.names (tokens_used (view_added c.args.added.now)) (founds c.args.uses.now.items) (founds c.type_product.new.uses.items) c.in_ok-yes-in-Some.yes (term_added c.args.names c.args.added.now (founds c.args.uses.now.items) (founds c.type_product.new.uses.items) (rw c.in-Some.is at c.in_ok-type_product.ensures.order))

pub arithmetic::join_multiplied-same-requires-clause-left : goal.arithmetic::join_multiplied-same-requires-clause-left
arithmetic::join_multiplied-same-requires-clause-left t c =
    let f = rw c.in-Some.is at c.in_ok-type_operand.ensures.typed in over_later c.args.subst.now c.type_operand.new.subst (variable c.args.n) f.follows c.requires.inside

pub arithmetic::join_multiplied-same-requires-clause-right : goal.arithmetic::join_multiplied-same-requires-clause-right
arithmetic::join_multiplied-same-requires-clause-right t c =
    let f = rw c.in-Some.is at c.in_ok-type_operand.ensures.typed in f.over

pub arithmetic::join_multiplied-returns-in-None-clause-typed : goal.arithmetic::join_multiplied-returns-in-None-clause-typed
arithmetic::join_multiplied-returns-in-None-clause-typed t c =
    factor_done c.args.subst.now c.args.subst.now (env_of c.args.names) c.args.multiplied.now.at c.args.multiplied.now.divide (view_operand c.args.multiplied.now.operand) c.args.n (founds c.args.uses.now.items) (founds c.args.uses.now.items) false (one_none c.args.subst.now (env_of c.args.names) (view_operand c.args.multiplied.now.operand) (variable c.args.n) (founds c.args.uses.now.items) (rw c.in-None.is at c.in_ok-type_operand.ensures.typed))

pub arithmetic::join_multiplied-returns-in_ok-yes-in-Some-clause-typed : goal.arithmetic::join_multiplied-returns-in_ok-yes-in-Some-clause-typed
arithmetic::join_multiplied-returns-in_ok-yes-in-Some-clause-typed t c =
    factor_done c.args.subst.now c.same.new.subst (env_of c.args.names) c.args.multiplied.now.at c.args.multiplied.now.divide (view_operand c.args.multiplied.now.operand) c.args.n (founds c.args.uses.now.items) (founds c.type_operand.new.uses.items) c.in_ok-yes-in-Some.yes (join_done c.args.subst.now c.type_operand.new.subst c.same.new.subst (env_of c.args.names) (view_operand c.args.multiplied.now.operand) c.args.n c.in-Some.other (founds c.args.uses.now.items) (founds c.type_operand.new.uses.items) c.in_ok-yes-in-Some.yes c.requires.seen.over c.requires.seen.uses_over c.requires.inside (rw c.in-Some.is at c.in_ok-type_operand.ensures.typed) c.in_ok-yes-in-Some.ensures)

pub arithmetic::join_multiplied-returns-in_ok-yes-in-Some-clause-order : goal.arithmetic::join_multiplied-returns-in_ok-yes-in-Some-clause-order
arithmetic::join_multiplied-returns-in_ok-yes-in-Some-clause-order t c =
    added_where c.args.names (tokens_used (view_multiplied c.args.multiplied.now)) (founds c.args.uses.now.items) (founds c.type_operand.new.uses.items) c.in_ok-yes-in-Some.yes (rw c.in-Some.is at c.in_ok-type_operand.ensures.order)

pub values::join_full-same-requires-clause-left : goal.values::join_full-same-requires-clause-left
values::join_full-same-requires-clause-left t c =
    let f = rw c.in-Some.is at c.in_ok-type_full.ensures.typed in over_later c.args.subst.now c.type_full.new.subst (variable c.args.n) f.follows c.requires.inside

pub values::join_full-same-requires-clause-right : goal.values::join_full-same-requires-clause-right
values::join_full-same-requires-clause-right t c =
    let f = rw c.in-Some.is at c.in_ok-type_full.ensures.typed in f.over

pub values::join_full-returns-in-None-clause-typed : goal.values::join_full-returns-in-None-clause-typed
values::join_full-returns-in-None-clause-typed t c =
    one_none c.args.subst.now (env_of c.args.names) (view_full c.args.full.now) (variable c.args.n) (founds c.args.uses.now.items) (rw c.in-None.is at c.in_ok-type_full.ensures.typed)

pub values::join_full-returns-in_ok-yes-in-Some-clause-typed : goal.values::join_full-returns-in_ok-yes-in-Some-clause-typed
values::join_full-returns-in_ok-yes-in-Some-clause-typed t c =
    join_done c.args.subst.now c.type_full.new.subst c.same.new.subst (env_of c.args.names) (view_full c.args.full.now) c.args.n c.in-Some.other (founds c.args.uses.now.items) (founds c.type_full.new.uses.items) c.in_ok-yes-in-Some.yes c.requires.seen.over c.requires.seen.uses_over c.requires.inside (rw c.in-Some.is at c.in_ok-type_full.ensures.typed) c.in_ok-yes-in-Some.ensures

pub values::join_full-returns-in_ok-yes-in-Some-clause-order : goal.values::join_full-returns-in_ok-yes-in-Some-clause-order
values::join_full-returns-in_ok-yes-in-Some-clause-order t c =
    added_where c.args.names (tokens_used (view_full c.args.full.now)) (founds c.args.uses.now.items) (founds c.type_full.new.uses.items) c.in_ok-yes-in-Some.yes (rw c.in-Some.is at c.in_ok-type_full.ensures.order)

pub logic::join_ands-join_and-requires : goal.logic::join_ands-join_and-requires
logic::join_ands-join_and-requires t c =
    let f = c.loop-and.invariant.typed in
    let size = item_below size-And c.args.ands.now c.loop-and.and-index c.and-item.result c.loop-and-test.true c.and-item.is in
    (omega (arith, c.decreases, size), (seen_later c.args.subst.now c.loop-and.subst c.args.names c.args.uses.now.items c.loop-and.uses.items c.requires.seen f.follows f.uses, over_later c.args.subst.now c.loop-and.subst (variable c.args.n) f.follows c.requires.inside))

pub logic::join_ands-loop-and-init : goal.logic::join_ands-loop-and-init
logic::join_ands-loop-and-init t c =
    none_joined c.args.subst.now c.args.names c.args.n (founds c.args.uses.now.items) c.requires.seen.uses_over

pub logic::join_ands-returns-then-not-joined-clause-typed : goal.logic::join_ands-returns-then-not-joined-clause-typed
logic::join_ands-returns-then-not-joined-clause-typed t c =
    joins_stop view_and c.args.ands.now c.loop-and.and-index c.and-item.result c.loop-and-test.true c.and-item.is c.args.subst.now c.loop-and.subst (env_of c.args.names) c.args.n (founds c.args.uses.now.items) (founds c.loop-and.uses.items) c.requires.seen.over c.requires.inside c.loop-and.invariant.typed (rw c.if-not-joined.true at c.in_ok-joined.ensures.typed)

pub logic::join_ands-loop-and-preserved : goal.logic::join_ands-loop-and-preserved
logic::join_ands-loop-and-preserved t c =
    next_joined view_and c.args.ands.now c.loop-and.and-index c.and-item.result c.loop-and-test.true c.and-item.is c.args.subst.now c.loop-and.subst c.join_and.new.subst c.args.names c.args.n (founds c.args.uses.now.items) (founds c.loop-and.uses.items) (founds c.join_and.new.uses.items) c.requires.seen.over c.requires.inside c.loop-and.invariant (rw c.if-not-joined.false at c.in_ok-joined.ensures.typed) (rw c.if-not-joined.false at c.in_ok-joined.ensures.order)

pub logic::join_ands-returns-clause-typed : goal.logic::join_ands-returns-clause-typed
logic::join_ands-returns-clause-typed t c =
    joins_end view_and c.args.ands.now c.loop-and.and-index c.args.subst.now c.loop-and.subst (env_of c.args.names) c.args.n (founds c.args.uses.now.items) (founds c.loop-and.uses.items) c.loop-and-test.false c.loop-and.invariant.typed

pub logic::join_ands-returns-clause-order : goal.logic::join_ands-returns-clause-order
logic::join_ands-returns-clause-order t c =
    all_added view_and c.args.ands.now c.loop-and.and-index c.loop-and-test.false c.args.names (founds c.args.uses.now.items) (founds c.loop-and.uses.items) c.loop-and.invariant.order

pub logic::join_nots-join_not-requires : goal.logic::join_nots-join_not-requires
logic::join_nots-join_not-requires t c =
    let f = c.loop-not.invariant.typed in
    let size = item_below size-Not c.args.nots.now c.loop-not.not-index c.not-item.result c.loop-not-test.true c.not-item.is in
    (omega (arith, c.decreases, size), (seen_later c.args.subst.now c.loop-not.subst c.args.names c.args.uses.now.items c.loop-not.uses.items c.requires.seen f.follows f.uses, over_later c.args.subst.now c.loop-not.subst (variable c.args.n) f.follows c.requires.inside))

pub logic::join_nots-loop-not-init : goal.logic::join_nots-loop-not-init
logic::join_nots-loop-not-init t c =
    none_joined c.args.subst.now c.args.names c.args.n (founds c.args.uses.now.items) c.requires.seen.uses_over

pub logic::join_nots-returns-then-not-joined-clause-typed : goal.logic::join_nots-returns-then-not-joined-clause-typed
logic::join_nots-returns-then-not-joined-clause-typed t c =
    joins_stop view_not c.args.nots.now c.loop-not.not-index c.not-item.result c.loop-not-test.true c.not-item.is c.args.subst.now c.loop-not.subst (env_of c.args.names) c.args.n (founds c.args.uses.now.items) (founds c.loop-not.uses.items) c.requires.seen.over c.requires.inside c.loop-not.invariant.typed (rw c.if-not-joined.true at c.in_ok-joined.ensures.typed)

pub logic::join_nots-loop-not-preserved : goal.logic::join_nots-loop-not-preserved
logic::join_nots-loop-not-preserved t c =
    next_joined view_not c.args.nots.now c.loop-not.not-index c.not-item.result c.loop-not-test.true c.not-item.is c.args.subst.now c.loop-not.subst c.join_not.new.subst c.args.names c.args.n (founds c.args.uses.now.items) (founds c.loop-not.uses.items) (founds c.join_not.new.uses.items) c.requires.seen.over c.requires.inside c.loop-not.invariant (rw c.if-not-joined.false at c.in_ok-joined.ensures.typed) (rw c.if-not-joined.false at c.in_ok-joined.ensures.order)

pub logic::join_nots-returns-clause-typed : goal.logic::join_nots-returns-clause-typed
logic::join_nots-returns-clause-typed t c =
    joins_end view_not c.args.nots.now c.loop-not.not-index c.args.subst.now c.loop-not.subst (env_of c.args.names) c.args.n (founds c.args.uses.now.items) (founds c.loop-not.uses.items) c.loop-not-test.false c.loop-not.invariant.typed

pub logic::join_nots-returns-clause-order : goal.logic::join_nots-returns-clause-order
logic::join_nots-returns-clause-order t c =
    all_added view_not c.args.nots.now c.loop-not.not-index c.loop-not-test.false c.args.names (founds c.args.uses.now.items) (founds c.loop-not.uses.items) c.loop-not.invariant.order

pub arithmetic::join_addends-join_added-requires : goal.arithmetic::join_addends-join_added-requires
arithmetic::join_addends-join_added-requires t c =
    let f = c.loop-added.invariant.typed in
    let size = item_below size-Added c.args.addends.now c.loop-added.added-index c.added-item.result c.loop-added-test.true c.added-item.is in
    (omega (arith, c.decreases, size), (seen_later c.args.subst.now c.loop-added.subst c.args.names c.args.uses.now.items c.loop-added.uses.items c.requires.seen f.follows f.uses, over_later c.args.subst.now c.loop-added.subst (variable c.args.n) f.follows c.requires.inside))

pub arithmetic::join_addends-loop-added-init : goal.arithmetic::join_addends-loop-added-init
arithmetic::join_addends-loop-added-init t c =
    none_joined c.args.subst.now c.args.names c.args.n (founds c.args.uses.now.items) c.requires.seen.uses_over

pub arithmetic::join_addends-returns-then-not-joined-clause-typed : goal.arithmetic::join_addends-returns-then-not-joined-clause-typed
arithmetic::join_addends-returns-then-not-joined-clause-typed t c =
    joins_stop view_added c.args.addends.now c.loop-added.added-index c.added-item.result c.loop-added-test.true c.added-item.is c.args.subst.now c.loop-added.subst (env_of c.args.names) c.args.n (founds c.args.uses.now.items) (founds c.loop-added.uses.items) c.requires.seen.over c.requires.inside c.loop-added.invariant.typed (rw c.if-not-joined.true at c.in_ok-joined.ensures.typed)

pub arithmetic::join_addends-loop-added-preserved : goal.arithmetic::join_addends-loop-added-preserved
arithmetic::join_addends-loop-added-preserved t c =
    next_joined view_added c.args.addends.now c.loop-added.added-index c.added-item.result c.loop-added-test.true c.added-item.is c.args.subst.now c.loop-added.subst c.join_added.new.subst c.args.names c.args.n (founds c.args.uses.now.items) (founds c.loop-added.uses.items) (founds c.join_added.new.uses.items) c.requires.seen.over c.requires.inside c.loop-added.invariant (rw c.if-not-joined.false at c.in_ok-joined.ensures.typed) (rw c.if-not-joined.false at c.in_ok-joined.ensures.order)

pub arithmetic::join_addends-returns-clause-typed : goal.arithmetic::join_addends-returns-clause-typed
arithmetic::join_addends-returns-clause-typed t c =
    joins_end view_added c.args.addends.now c.loop-added.added-index c.args.subst.now c.loop-added.subst (env_of c.args.names) c.args.n (founds c.args.uses.now.items) (founds c.loop-added.uses.items) c.loop-added-test.false c.loop-added.invariant.typed

pub arithmetic::join_addends-returns-clause-order : goal.arithmetic::join_addends-returns-clause-order
arithmetic::join_addends-returns-clause-order t c =
    all_added view_added c.args.addends.now c.loop-added.added-index c.loop-added-test.false c.args.names (founds c.args.uses.now.items) (founds c.loop-added.uses.items) c.loop-added.invariant.order

pub arithmetic::join_factors-join_multiplied-requires : goal.arithmetic::join_factors-join_multiplied-requires
arithmetic::join_factors-join_multiplied-requires t c =
    let f = c.loop-multiplied.invariant.typed in
    let size = item_below size-Multiplied c.args.factors.now c.loop-multiplied.multiplied-index c.multiplied-item.result c.loop-multiplied-test.true c.multiplied-item.is in
    (omega (arith, c.decreases, size), (seen_later c.args.subst.now c.loop-multiplied.subst c.args.names c.args.uses.now.items c.loop-multiplied.uses.items c.requires.seen f.follows f.uses, over_later c.args.subst.now c.loop-multiplied.subst (variable c.args.n) f.follows c.requires.inside))

pub arithmetic::join_factors-loop-multiplied-init : goal.arithmetic::join_factors-loop-multiplied-init
arithmetic::join_factors-loop-multiplied-init t c =
    none_joined c.args.subst.now c.args.names c.args.n (founds c.args.uses.now.items) c.requires.seen.uses_over

pub arithmetic::join_factors-returns-then-not-joined-clause-typed : goal.arithmetic::join_factors-returns-then-not-joined-clause-typed
arithmetic::join_factors-returns-then-not-joined-clause-typed t c =
    joins_stop view_multiplied c.args.factors.now c.loop-multiplied.multiplied-index c.multiplied-item.result c.loop-multiplied-test.true c.multiplied-item.is c.args.subst.now c.loop-multiplied.subst (env_of c.args.names) c.args.n (founds c.args.uses.now.items) (founds c.loop-multiplied.uses.items) c.requires.seen.over c.requires.inside c.loop-multiplied.invariant.typed (rw c.if-not-joined.true at c.in_ok-joined.ensures.typed)

pub arithmetic::join_factors-loop-multiplied-preserved : goal.arithmetic::join_factors-loop-multiplied-preserved
arithmetic::join_factors-loop-multiplied-preserved t c =
    next_joined view_multiplied c.args.factors.now c.loop-multiplied.multiplied-index c.multiplied-item.result c.loop-multiplied-test.true c.multiplied-item.is c.args.subst.now c.loop-multiplied.subst c.join_multiplied.new.subst c.args.names c.args.n (founds c.args.uses.now.items) (founds c.loop-multiplied.uses.items) (founds c.join_multiplied.new.uses.items) c.requires.seen.over c.requires.inside c.loop-multiplied.invariant (rw c.if-not-joined.false at c.in_ok-joined.ensures.typed) (rw c.if-not-joined.false at c.in_ok-joined.ensures.order)

pub arithmetic::join_factors-returns-clause-typed : goal.arithmetic::join_factors-returns-clause-typed
arithmetic::join_factors-returns-clause-typed t c =
    joins_end view_multiplied c.args.factors.now c.loop-multiplied.multiplied-index c.args.subst.now c.loop-multiplied.subst (env_of c.args.names) c.args.n (founds c.args.uses.now.items) (founds c.loop-multiplied.uses.items) c.loop-multiplied-test.false c.loop-multiplied.invariant.typed

pub arithmetic::join_factors-returns-clause-order : goal.arithmetic::join_factors-returns-clause-order
arithmetic::join_factors-returns-clause-order t c =
    all_added view_multiplied c.args.factors.now c.loop-multiplied.multiplied-index c.loop-multiplied-test.false c.args.names (founds c.args.uses.now.items) (founds c.loop-multiplied.uses.items) c.loop-multiplied.invariant.order

pub values::join_fulls-join_full-requires : goal.values::join_fulls-join_full-requires
values::join_fulls-join_full-requires t c =
    let f = c.loop-full.invariant.typed in
    let size = item_below size-Full c.args.fulls.now c.loop-full.full-index c.full-item.result c.loop-full-test.true c.full-item.is in
    (omega (arith, c.decreases, size), (seen_later c.args.subst.now c.loop-full.subst c.args.names c.args.uses.now.items c.loop-full.uses.items c.requires.seen f.follows f.uses, over_later c.args.subst.now c.loop-full.subst (variable c.args.n) f.follows c.requires.inside))

pub values::join_fulls-loop-full-init : goal.values::join_fulls-loop-full-init
values::join_fulls-loop-full-init t c =
    none_joined c.args.subst.now c.args.names c.args.n (founds c.args.uses.now.items) c.requires.seen.uses_over

pub values::join_fulls-returns-then-not-joined-clause-typed : goal.values::join_fulls-returns-then-not-joined-clause-typed
values::join_fulls-returns-then-not-joined-clause-typed t c =
    joins_stop view_full c.args.fulls.now c.loop-full.full-index c.full-item.result c.loop-full-test.true c.full-item.is c.args.subst.now c.loop-full.subst (env_of c.args.names) c.args.n (founds c.args.uses.now.items) (founds c.loop-full.uses.items) c.requires.seen.over c.requires.inside c.loop-full.invariant.typed (rw c.if-not-joined.true at c.in_ok-joined.ensures.typed)

pub values::join_fulls-loop-full-preserved : goal.values::join_fulls-loop-full-preserved
values::join_fulls-loop-full-preserved t c =
    next_joined view_full c.args.fulls.now c.loop-full.full-index c.full-item.result c.loop-full-test.true c.full-item.is c.args.subst.now c.loop-full.subst c.join_full.new.subst c.args.names c.args.n (founds c.args.uses.now.items) (founds c.loop-full.uses.items) (founds c.join_full.new.uses.items) c.requires.seen.over c.requires.inside c.loop-full.invariant (rw c.if-not-joined.false at c.in_ok-joined.ensures.typed) (rw c.if-not-joined.false at c.in_ok-joined.ensures.order)

pub values::join_fulls-returns-clause-typed : goal.values::join_fulls-returns-clause-typed
values::join_fulls-returns-clause-typed t c =
    joins_end view_full c.args.fulls.now c.loop-full.full-index c.args.subst.now c.loop-full.subst (env_of c.args.names) c.args.n (founds c.args.uses.now.items) (founds c.loop-full.uses.items) c.loop-full-test.false c.loop-full.invariant.typed

pub values::join_fulls-returns-clause-order : goal.values::join_fulls-returns-clause-order
values::join_fulls-returns-clause-order t c =
    all_added view_full c.args.fulls.now c.loop-full.full-index c.loop-full-test.false c.args.names (founds c.args.uses.now.items) (founds c.loop-full.uses.items) c.loop-full.invariant.order

pub logic::type_not-is_truth-requires : goal.logic::type_not-is_truth-requires
logic::type_not-is_truth-requires t c =
    let f = rw c.in-Some.is at c.in_ok-type_compare.ensures.typed in record { inside = f.over }

pub logic::type_not-returns-in-None-clause-typed : goal.logic::type_not-returns-in-None-clause-typed
logic::type_not-returns-in-None-clause-typed t c =
    not_none c.args.not.now c.args.subst.now (env_of c.args.names) (founds c.args.uses.now.items) (rw c.in-None.is at c.in_ok-type_compare.ensures.typed)

pub logic::type_not-returns-in_ok-yes-in-Some-clause-typed : goal.logic::type_not-returns-in_ok-yes-in-Some-clause-typed
logic::type_not-returns-in_ok-yes-in-Some-clause-typed t c =
    not_done c.args.not.now c.args.subst.now c.type_compare.new.subst c.is_truth.new.subst (env_of c.args.names) c.in-Some.n (founds c.args.uses.now.items) (founds c.type_compare.new.uses.items) c.in_ok-yes-in-Some.yes c.some_if.result c.requires.seen.over c.if-not.true c.some_if.ensures (rw c.in-Some.is at c.in_ok-type_compare.ensures.typed) c.in_ok-yes-in-Some.ensures

pub logic::type_not-returns-in_ok-yes-in-Some-clause-order : goal.logic::type_not-returns-in_ok-yes-in-Some-clause-order
logic::type_not-returns-in_ok-yes-in-Some-clause-order t c =
    added_if c.args.names (tokens_used (view_not c.args.not.now)) (founds c.args.uses.now.items) (founds c.type_compare.new.uses.items) c.in_ok-yes-in-Some.yes c.in-Some.n c.some_if.result c.some_if.ensures (not_added c.args.names c.args.not.now (founds c.args.uses.now.items) (founds c.type_compare.new.uses.items) (rw c.in-Some.is at c.in_ok-type_compare.ensures.order))

pub logic::type_not-returns-else-not-clause-typed : goal.logic::type_not-returns-else-not-clause-typed
logic::type_not-returns-else-not-clause-typed t c =
    not_plain c.args.not.now c.args.subst.now c.type_compare.new.subst (env_of c.args.names) c.in-Some.n (founds c.args.uses.now.items) (founds c.type_compare.new.uses.items) c.if-not.false (rw c.in-Some.is at c.in_ok-type_compare.ensures.typed)

pub logic::type_not-returns-else-not-clause-order : goal.logic::type_not-returns-else-not-clause-order
logic::type_not-returns-else-not-clause-order t c =
    (not_added c.args.names c.args.not.now (founds c.args.uses.now.items) (founds c.type_compare.new.uses.items) (rw c.in-Some.is at c.in_ok-type_compare.ensures.order))

pub arithmetic::type_compare-join_sum-requires : goal.arithmetic::type_compare-join_sum-requires
arithmetic::type_compare-join_sum-requires t c =
    let f = rw c.in-Some.is at c.in_ok-type_sum.ensures.typed in
    let size = compared_below c.args.compare.now c.in-Some-right.right c.in-Some-right.is in
    (omega (arith, c.decreases, size), (seen_later c.args.subst.now c.type_sum.new.subst c.args.names c.args.uses.now.items c.type_sum.new.uses.items c.requires.seen f.follows f.uses, f.over))

pub arithmetic::type_compare-is_number-requires : goal.arithmetic::type_compare-is_number-requires
arithmetic::type_compare-is_number-requires t c =
    let f = rw c.in-Some.is at c.in_ok-type_sum.ensures.typed in
    let g = rw c.if-not-joined.false at c.in_ok-joined-in-Some-right.ensures.typed in
    record { inside = over_later c.type_sum.new.subst c.join_sum.new.subst (variable c.in-Some.n) g.follows f.over }

pub arithmetic::type_compare-returns-in-None-clause-typed : goal.arithmetic::type_compare-returns-in-None-clause-typed
arithmetic::type_compare-returns-in-None-clause-typed t c =
    left_none c.args.compare.now c.args.subst.now (env_of c.args.names) (founds c.args.uses.now.items) (rw c.in-None.is at c.in_ok-type_sum.ensures.typed)

pub arithmetic::type_compare-returns-in-None-right-clause-typed : goal.arithmetic::type_compare-returns-in-None-right-clause-typed
arithmetic::type_compare-returns-in-None-right-clause-typed t c =
    alone_infers c.args.compare.now c.args.subst.now c.type_sum.new.subst (env_of c.args.names) c.in-Some.n (founds c.args.uses.now.items) (founds c.type_sum.new.uses.items) c.in-None-right.is (rw c.in-Some.is at c.in_ok-type_sum.ensures.typed)

pub arithmetic::type_compare-returns-in-None-right-clause-order : goal.arithmetic::type_compare-returns-in-None-right-clause-order
arithmetic::type_compare-returns-in-None-right-clause-order t c =
    alone_added c.args.names c.args.compare.now (founds c.args.uses.now.items) (founds c.type_sum.new.uses.items) c.in-None-right.is (rw c.in-Some.is at c.in_ok-type_sum.ensures.order)

pub arithmetic::type_compare-returns-then-not-joined-clause-typed : goal.arithmetic::type_compare-returns-then-not-joined-clause-typed
arithmetic::type_compare-returns-then-not-joined-clause-typed t c =
    right_none c.args.compare.now c.in-Some-right.right c.in-Some-right.is c.args.subst.now c.type_sum.new.subst (env_of c.args.names) c.in-Some.n (founds c.args.uses.now.items) (founds c.type_sum.new.uses.items) c.requires.seen.over (rw c.in-Some.is at c.in_ok-type_sum.ensures.typed) (rw c.if-not-joined.true at c.in_ok-joined-in-Some-right.ensures.typed)

pub arithmetic::type_compare-returns-then-not-yes-clause-typed : goal.arithmetic::type_compare-returns-then-not-yes-clause-typed
arithmetic::type_compare-returns-then-not-yes-clause-typed t c =
    numbers_never c.args.compare.now c.in-Some-right.right c.in-Some-right.is c.args.subst.now c.type_sum.new.subst (env_of c.args.names) c.in-Some.n (founds c.args.uses.now.items) (founds c.type_sum.new.uses.items) c.requires.seen.over (rw c.in-Some.is at c.in_ok-type_sum.ensures.typed) c.join_sum.new.subst (founds c.join_sum.new.uses.items) (rw c.if-not-joined.false at c.in_ok-joined-in-Some-right.ensures.typed) (rw c.if-not-yes.true at c.in_ok-yes-in-Some-right.ensures)

pub arithmetic::type_compare-returns-in_ok-truth-in-Some-right-clause-typed : goal.arithmetic::type_compare-returns-in_ok-truth-in-Some-right-clause-typed
arithmetic::type_compare-returns-in_ok-truth-in-Some-right-clause-typed t c =
    comparison_done c.args.compare.now c.in-Some-right.right c.in-Some-right.is c.args.subst.now c.type_sum.new.subst (env_of c.args.names) c.in-Some.n (founds c.args.uses.now.items) (founds c.type_sum.new.uses.items) c.requires.seen.over (rw c.in-Some.is at c.in_ok-type_sum.ensures.typed) c.join_sum.new.subst c.is_number.new.subst c.new_type.new.subst (founds c.join_sum.new.uses.items) c.in_ok-truth-in-Some-right.truth (rw c.if-not-joined.false at c.in_ok-joined-in-Some-right.ensures.typed) (rw c.if-not-yes.false at c.in_ok-yes-in-Some-right.ensures) (subst (λ (u : Term). Defines c.is_number.new.subst c.new_type.new.subst c.in_ok-truth-in-Some-right.truth u) (term_Bool ty.Bool refl) c.in_ok-truth-in-Some-right.ensures)

pub arithmetic::type_compare-returns-in_ok-truth-in-Some-right-clause-order : goal.arithmetic::type_compare-returns-in_ok-truth-in-Some-right-clause-order
arithmetic::type_compare-returns-in_ok-truth-in-Some-right-clause-order t c =
    compared_added c.args.names c.args.compare.now c.in-Some-right.right (founds c.args.uses.now.items) (founds c.type_sum.new.uses.items) (founds c.join_sum.new.uses.items) c.in-Some-right.is (rw c.in-Some.is at c.in_ok-type_sum.ensures.order) (rw c.if-not-joined.false at c.in_ok-joined-in-Some-right.ensures.order)

pub values::type_choice-is_truth-requires : goal.values::type_choice-is_truth-requires
values::type_choice-is_truth-requires t c =
    let f = rw c.in-Some.is at c.in_ok-type_full.ensures.typed in record { inside = f.over }

pub values::type_choice-type_full-requires-in-Some : goal.values::type_choice-type_full-requires-in-Some
values::type_choice-type_full-requires-in-Some t c =
    let f = rw c.in-Some.is at c.in_ok-type_full.ensures.typed in
    let h = rw c.if-not-yes.false at c.in_ok-yes-in-Some.ensures in
    let size = then_below c.args.choice.now in
    (rw c.deref-in-Some.ensures (omega (arith, c.decreases, size)), seen_later c.args.subst.now c.is_truth.new.subst c.args.names c.args.uses.now.items c.type_full.new.uses.items c.requires.seen (follows_both c.args.subst.now c.type_full.new.subst c.is_truth.new.subst f.follows h.follows) (uses_later c.type_full.new.subst c.is_truth.new.subst (founds c.type_full.new.uses.items) h.follows f.uses))

pub values::type_choice-join_full-requires : goal.values::type_choice-join_full-requires
values::type_choice-join_full-requires t c =
    let f = rw c.in-Some.is at c.in_ok-type_full.ensures.typed in
    let h = rw c.if-not-yes.false at c.in_ok-yes-in-Some.ensures in
    let g = rw c.in-Some-2.is at c.in_ok-type_full-in-Some.ensures.typed in
    let size = else_below c.args.choice.now in
    (rw c.deref-in-Some-2.ensures (omega (arith, c.decreases, size)), (seen_later c.args.subst.now c.type_full-in-Some.new.subst c.args.names c.args.uses.now.items c.type_full-in-Some.new.uses.items c.requires.seen (follows_both c.args.subst.now c.is_truth.new.subst c.type_full-in-Some.new.subst (follows_both c.args.subst.now c.type_full.new.subst c.is_truth.new.subst f.follows h.follows) g.follows) g.uses, g.over))

pub values::type_choice-returns-in-None-clause-typed : goal.values::type_choice-returns-in-None-clause-typed
values::type_choice-returns-in-None-clause-typed t c =
    choice_condition c.args.subst.now (env_of c.args.names) c.args.choice.now.at (view_full c.args.choice.now.condition.value) (view_full c.args.choice.now.then_part.value) (view_full c.args.choice.now.else_part.value) (founds c.args.uses.now.items) (rw (c.in-None.is, c.deref.ensures) at c.in_ok-type_full.ensures.typed)

pub values::type_choice-returns-then-not-yes-clause-typed : goal.values::type_choice-returns-then-not-yes-clause-typed
values::type_choice-returns-then-not-yes-clause-typed t c =
    choice_untrue c.args.subst.now c.type_full.new.subst (env_of c.args.names) c.args.choice.now.at (view_full c.args.choice.now.condition.value) (view_full c.args.choice.now.then_part.value) (view_full c.args.choice.now.else_part.value) (variable c.in-Some.condition) (founds c.args.uses.now.items) (founds c.type_full.new.uses.items) (rw (c.in-Some.is, c.deref.ensures) at c.in_ok-type_full.ensures.typed) (rw c.if-not-yes.true at c.in_ok-yes-in-Some.ensures)

pub values::type_choice-returns-in-None-2-clause-typed : goal.values::type_choice-returns-in-None-2-clause-typed
values::type_choice-returns-in-None-2-clause-typed t c =
    choice_first c.args.subst.now c.type_full.new.subst c.is_truth.new.subst (env_of c.args.names) c.args.choice.now.at (view_full c.args.choice.now.condition.value) (view_full c.args.choice.now.then_part.value) (view_full c.args.choice.now.else_part.value) (variable c.in-Some.condition) (founds c.args.uses.now.items) (founds c.type_full.new.uses.items) c.requires.seen.over (rw (c.in-Some.is, c.deref.ensures) at c.in_ok-type_full.ensures.typed) (rw c.if-not-yes.false at c.in_ok-yes-in-Some.ensures) (rw (c.in-None-2.is, c.deref-in-Some.ensures) at c.in_ok-type_full-in-Some.ensures.typed)

pub values::type_choice-returns-in_ok-joined-in-Some-2-clause-typed : goal.values::type_choice-returns-in_ok-joined-in-Some-2-clause-typed
values::type_choice-returns-in_ok-joined-in-Some-2-clause-typed t c =
    branches_done c.args.subst.now c.type_full.new.subst c.is_truth.new.subst c.type_full-in-Some.new.subst c.join_full.new.subst (env_of c.args.names) c.args.choice.now.at (view_full c.args.choice.now.condition.value) (view_full c.args.choice.now.then_part.value) (view_full c.args.choice.now.else_part.value) c.in-Some.condition c.in-Some-2.n (founds c.args.uses.now.items) (founds c.type_full.new.uses.items) (founds c.type_full-in-Some.new.uses.items) (founds c.join_full.new.uses.items) c.in_ok-joined-in-Some-2.joined c.some_if.result c.requires.seen.over c.some_if.ensures (rw (c.in-Some.is, c.deref.ensures) at c.in_ok-type_full.ensures.typed) (rw c.if-not-yes.false at c.in_ok-yes-in-Some.ensures) (rw (c.in-Some-2.is, c.deref-in-Some.ensures) at c.in_ok-type_full-in-Some.ensures.typed) (rw c.deref-in-Some-2.ensures at c.in_ok-joined-in-Some-2.ensures.typed)

pub values::type_choice-returns-in_ok-joined-in-Some-2-clause-order : goal.values::type_choice-returns-in_ok-joined-in-Some-2-clause-order
values::type_choice-returns-in_ok-joined-in-Some-2-clause-order t c =
    branches_added c.args.names c.args.choice.now.at (view_full c.args.choice.now.condition.value) (view_full c.args.choice.now.then_part.value) (view_full c.args.choice.now.else_part.value) (founds c.args.uses.now.items) (founds c.type_full.new.uses.items) (founds c.type_full-in-Some.new.uses.items) (founds c.join_full.new.uses.items) c.in_ok-joined-in-Some-2.joined c.in-Some-2.n c.some_if.result c.some_if.ensures (rw (c.in-Some.is, c.deref.ensures) at c.in_ok-type_full.ensures.order) (rw (c.in-Some-2.is, c.deref-in-Some.ensures) at c.in_ok-type_full-in-Some.ensures.order) (rw c.deref-in-Some-2.ensures at c.in_ok-joined-in-Some-2.ensures.order)

pub values::type_list-join_fulls-requires : goal.values::type_list-join_fulls-requires
values::type_list-join_fulls-requires t c =
    let v = c.in_ok-item.ensures in
    (omega (arith, c.decreases), (seen_later c.args.subst.now c.new_var.new.subst c.args.names c.args.uses.now.items c.args.uses.now.items c.requires.seen v.follows (uses_later c.args.subst.now c.new_var.new.subst (founds c.args.uses.now.items) v.follows c.requires.seen.uses_over), v.inside))

pub values::type_list-new_list-requires : goal.values::type_list-new_list-requires
values::type_list-new_list-requires t c =
    let v = c.in_ok-item.ensures in
    let g = rw c.if-not-joined.false at c.in_ok-joined.ensures.typed in
    record { inside = over_later c.new_var.new.subst c.join_fulls.new.subst (variable c.in_ok-item.item) g.follows v.inside }

pub values::type_list-returns-then-not-joined-clause-typed : goal.values::type_list-returns-then-not-joined-clause-typed
values::type_list-returns-then-not-joined-clause-typed t c =
    list_none c.args.subst.now c.new_var.new.subst (env_of c.args.names) c.args.at (listed (map view_full c.args.parts.now)) c.in_ok-item.item (founds c.args.uses.now.items) c.requires.seen.over c.requires.seen.uses_over c.in_ok-item.ensures (rw c.if-not-joined.true at c.in_ok-joined.ensures.typed)

pub values::type_list-returns-clause-typed : goal.values::type_list-returns-clause-typed
values::type_list-returns-clause-typed t c =
    list_infers c.args.subst.now c.new_var.new.subst (env_of c.args.names) c.args.at (listed (map view_full c.args.parts.now)) c.in_ok-item.item (founds c.args.uses.now.items) c.requires.seen.over c.requires.seen.uses_over c.in_ok-item.ensures c.join_fulls.new.subst c.new_list.new.subst c.in_ok-list.list (founds c.join_fulls.new.uses.items) (rw c.if-not-joined.false at c.in_ok-joined.ensures.typed) c.in_ok-list.ensures

pub values::type_list-returns-clause-order : goal.values::type_list-returns-clause-order
values::type_list-returns-clause-order t c =
    rw c.if-not-joined.false at c.in_ok-joined.ensures.order

pub values::type_fulls-type_full-requires : goal.values::type_fulls-type_full-requires
values::type_fulls-type_full-requires t c =
    let f = c.loop-full.invariant.typed in
    let size = item_below size-Full c.args.fulls.now c.loop-full.full-index c.full-item.result c.loop-full-test.true c.full-item.is in
    (omega (arith, c.decreases, size), seen_later c.args.subst.now c.loop-full.subst c.args.names c.args.uses.now.items c.loop-full.uses.items c.requires.seen f.follows f.uses)

pub values::type_fulls-loop-full-init : goal.values::type_fulls-loop-full-init
values::type_fulls-loop-full-init t c =
    let empty : c.new-vars.result.items ≡ [] = cc in
    none_typed c.args.subst.now c.args.names c.new-vars.result.items (founds c.args.uses.now.items) empty c.requires.seen.uses_over

pub values::type_fulls-returns-in-None-clause-typed : goal.values::type_fulls-returns-in-None-clause-typed
values::type_fulls-returns-in-None-clause-typed t c =
    fulls_stop c.args.fulls.now c.loop-full.full-index c.full-item.result c.loop-full-test.true c.full-item.is c.args.subst.now c.loop-full.subst (env_of c.args.names) c.loop-full.vars.items (founds c.args.uses.now.items) (founds c.loop-full.uses.items) c.requires.seen.over c.loop-full.invariant.typed (rw c.in-None.is at c.in_ok-type_full.ensures.typed)

pub values::type_fulls-loop-full-preserved : goal.values::type_fulls-loop-full-preserved
values::type_fulls-loop-full-preserved t c =
    next_typed c.args.fulls.now c.loop-full.full-index c.full-item.result c.loop-full-test.true c.full-item.is c.args.subst.now c.loop-full.subst c.type_full.new.subst c.args.names c.loop-full.vars.items c.push.new.self.items c.in-Some.n (founds c.args.uses.now.items) (founds c.loop-full.uses.items) (founds c.type_full.new.uses.items) c.requires.seen.over c.in_ok-push-in-Some.ensures.items c.loop-full.invariant (rw c.in-Some.is at c.in_ok-type_full.ensures.typed) (rw c.in-Some.is at c.in_ok-type_full.ensures.order)

pub values::type_fulls-returns-clause-typed : goal.values::type_fulls-returns-clause-typed
values::type_fulls-returns-clause-typed t c =
    fulls_end c.args.fulls.now c.loop-full.full-index c.args.subst.now c.loop-full.subst (env_of c.args.names) c.loop-full.vars.items (founds c.args.uses.now.items) (founds c.loop-full.uses.items) c.loop-full-test.false c.loop-full.invariant.typed

pub values::type_fulls-returns-clause-order : goal.values::type_fulls-returns-clause-order
values::type_fulls-returns-clause-order t c =
    all_added view_full c.args.fulls.now c.loop-full.full-index c.loop-full-test.false c.args.names (founds c.args.uses.now.items) (founds c.loop-full.uses.items) c.loop-full.invariant.order

pub values::type_tuple-returns-then-parts-eq0-clause-typed : goal.values::type_tuple-returns-then-parts-eq0-clause-typed
values::type_tuple-returns-then-parts-eq0-clause-typed t c =
    tuple_empty c.args.subst.now c.new_type.new.subst (env_of c.args.names) c.args.at c.args.parts.now c.in_ok-unit.unit (founds c.args.uses.now.items) c.if-parts-eq0.true c.requires.seen.over c.requires.seen.uses_over (subst (λ (u : Term). Defines c.args.subst.now c.new_type.new.subst c.in_ok-unit.unit u) (term_Unit ty.Unit refl) c.in_ok-unit.ensures)

pub values::type_tuple-returns-then-parts-eq0-clause-order : goal.values::type_tuple-returns-then-parts-eq0-clause-order
values::type_tuple-returns-then-parts-eq0-clause-order t c =
    empty_added c.args.names c.args.at c.args.parts.now (founds c.args.uses.now.items) c.if-parts-eq0.true

pub values::type_tuple-returns-then-parts-eq1-clause-typed : goal.values::type_tuple-returns-then-parts-eq1-clause-typed
values::type_tuple-returns-then-parts-eq1-clause-typed t c =
    tuple_one c.args.subst.now c.type_full.new.subst (env_of c.args.names) c.args.at c.args.parts.now c.index-parts-0.result (founds c.args.uses.now.items) (founds c.type_full.new.uses.items) c.in_ok-one.one c.if-parts-eq1.true c.index-parts-0.is c.in_ok-one.ensures.typed

pub values::type_tuple-returns-then-parts-eq1-clause-order : goal.values::type_tuple-returns-then-parts-eq1-clause-order
values::type_tuple-returns-then-parts-eq1-clause-order t c =
    part_added c.args.names c.args.at c.args.parts.now c.index-parts-0.result (founds c.args.uses.now.items) (founds c.type_full.new.uses.items) c.in_ok-one.one c.if-parts-eq1.true c.index-parts-0.is c.in_ok-one.ensures.order

pub values::type_tuple-returns-in-None-clause-typed : goal.values::type_tuple-returns-in-None-clause-typed
values::type_tuple-returns-in-None-clause-typed t c =
    tuple_never c.args.subst.now (env_of c.args.names) c.args.at c.args.parts.now (founds c.args.uses.now.items) (omega (arith, c.if-parts-eq0.false, c.if-parts-eq1.false)) (rw c.in-None.is at c.in_ok-type_fulls.ensures.typed)

pub values::type_tuple-returns-in_ok-tuple-in-Some-clause-typed : goal.values::type_tuple-returns-in_ok-tuple-in-Some-clause-typed
values::type_tuple-returns-in_ok-tuple-in-Some-clause-typed t c =
    tuple_done c.args.subst.now c.type_fulls.new.subst c.new_tuple.new.subst (env_of c.args.names) c.args.at c.args.parts.now c.in-Some.vars.items c.in_ok-tuple-in-Some.tuple (founds c.args.uses.now.items) (founds c.type_fulls.new.uses.items) (omega (arith, c.if-parts-eq0.false, c.if-parts-eq1.false)) c.requires.seen.over (rw c.in-Some.is at c.in_ok-type_fulls.ensures.typed) (rw c.deref.ensures.value at c.in_ok-tuple-in-Some.ensures)

pub values::type_tuple-returns-in_ok-tuple-in-Some-clause-order : goal.values::type_tuple-returns-in_ok-tuple-in-Some-clause-order
values::type_tuple-returns-in_ok-tuple-in-Some-clause-order t c =
    tuple_added c.args.names c.args.at c.args.parts.now (founds c.args.uses.now.items) (founds c.type_fulls.new.uses.items) (rw c.in-Some.is at c.in_ok-type_fulls.ensures.order)

pub calls::type_args-type_full-requires : goal.calls::type_args-type_full-requires
calls::type_args-type_full-requires t c =
    let f = c.loop-arg.invariant.typed in
    let size = arg_below c.args.args.now c.loop-arg.arg-index c.arg-item.result c.loop-arg-test.true c.arg-item.is in
    (omega (arith, c.decreases, size), seen_later c.args.subst.now c.loop-arg.subst c.args.names c.args.uses.now.items c.loop-arg.uses.items c.requires.seen f.follows f.uses)

pub calls::type_args-loop-arg-init : goal.calls::type_args-loop-arg-init
calls::type_args-loop-arg-init t c =
    let empty : c.new-given.result.items ≡ [] = cc in
    none_given c.args.subst.now c.args.names (map seen_argument c.new-given.result.items) (founds c.args.uses.now.items) (ap (map seen_argument) empty) c.requires.seen.uses_over

pub calls::type_args-returns-in-None-clause-typed : goal.calls::type_args-returns-in-None-clause-typed
calls::type_args-returns-in-None-clause-typed t c =
    args_stop c.args.args.now c.loop-arg.arg-index c.arg-item.result c.loop-arg-test.true c.arg-item.is c.args.subst.now c.loop-arg.subst (env_of c.args.names) (map seen_argument c.loop-arg.given.items) (founds c.args.uses.now.items) (founds c.loop-arg.uses.items) c.requires.seen.over c.loop-arg.invariant.typed (rw c.in-None.is at c.in_ok-type_full.ensures.typed)

pub calls::type_args-returns-clause-typed : goal.calls::type_args-returns-clause-typed
calls::type_args-returns-clause-typed t c =
    args_end c.args.args.now c.loop-arg.arg-index c.args.subst.now c.loop-arg.subst (env_of c.args.names) (map seen_argument c.loop-arg.given.items) (founds c.args.uses.now.items) (founds c.loop-arg.uses.items) c.loop-arg-test.false c.loop-arg.invariant.typed

pub calls::type_args-returns-clause-order : goal.calls::type_args-returns-clause-order
calls::type_args-returns-clause-order t c =
    all_added view_arg c.args.args.now c.loop-arg.arg-index c.loop-arg-test.false c.args.names (founds c.args.uses.now.items) (founds c.loop-arg.uses.items) c.loop-arg.invariant.order

pub calls::type_args-loop-arg-preserved : goal.calls::type_args-loop-arg-preserved
calls::type_args-loop-arg-preserved t c =
    let one = c.argument_of.ensures in
    let grown : map seen_argument c.push.new.self.items ≡ map seen_argument c.loop-arg.given.items ++ (c.arg-item.result.label, c.in-Some.var) ∷ [] =
    ap (map seen_argument) c.in_ok-push-in-Some.ensures.items ∙ map-append seen_argument c.loop-arg.given.items (c.argument_of.result ∷ []) ∙ ap (λ (g : GivenArgument ℕ). map seen_argument c.loop-arg.given.items ++ g ∷ []) one in
    next_given c.args.args.now c.loop-arg.arg-index c.arg-item.result c.loop-arg-test.true c.arg-item.is c.args.subst.now c.loop-arg.subst c.type_full.new.subst c.args.names (map seen_argument c.loop-arg.given.items) (map seen_argument c.push.new.self.items) c.in-Some.var (founds c.args.uses.now.items) (founds c.loop-arg.uses.items) (founds c.type_full.new.uses.items) c.requires.seen.over grown c.loop-arg.invariant (rw c.in-Some.is at c.in_ok-type_full.ensures.typed) (rw c.in-Some.is at c.in_ok-type_full.ensures.order)

pub values::type_operand-returns-in_ok-n-in-Literal-clause-typed : goal.values::type_operand-returns-in_ok-n-in-Literal-clause-typed
values::type_operand-returns-in_ok-n-in-Literal-clause-typed t c =
    rw c.in-Literal.is (constant_infers c.args.subst.now c.literal_type.new.subst (env_of c.args.names) c.in-Literal.at c.in-Literal.value c.in_ok-n-in-Literal.n (founds c.args.uses.now.items) c.requires.seen.over c.requires.seen.uses_over c.in_ok-n-in-Literal.ensures)

pub values::type_operand-returns-in_ok-n-in-Literal-clause-order : goal.values::type_operand-returns-in_ok-n-in-Literal-clause-order
values::type_operand-returns-in_ok-n-in-Literal-clause-order t c =
    rw c.in-Literal.is (none_added c.args.names (founds c.args.uses.now.items))

pub values::type_operand-returns-in_ok-n-in-Str-clause-typed : goal.values::type_operand-returns-in_ok-n-in-Str-clause-typed
values::type_operand-returns-in_ok-n-in-Str-clause-typed t c =
    rw c.in-Str.is (leaf_infers c.args.subst.now c.new_type.new.subst (env_of c.args.names) (Quoted c.in-Str.at c.in-Str.text) base.Text c.in_ok-n-in-Str.n (founds c.args.uses.now.items) (λ z. refl) (λ z g h. h) c.requires.seen.over c.requires.seen.uses_over (subst (λ (u : Term). Defines c.args.subst.now c.new_type.new.subst c.in_ok-n-in-Str.n u) (term_Text ty.Text refl) c.in_ok-n-in-Str.ensures))

pub values::type_operand-returns-in_ok-n-in-Str-clause-order : goal.values::type_operand-returns-in_ok-n-in-Str-clause-order
values::type_operand-returns-in_ok-n-in-Str-clause-order t c =
    rw c.in-Str.is (none_added c.args.names (founds c.args.uses.now.items))

pub values::type_operand-returns-in_ok-n-in-Bool-clause-typed : goal.values::type_operand-returns-in_ok-n-in-Bool-clause-typed
values::type_operand-returns-in_ok-n-in-Bool-clause-typed t c =
    rw c.in-Bool.is (leaf_infers c.args.subst.now c.new_type-in-Bool.new.subst (env_of c.args.names) (Truth c.in-Bool.at c.in-Bool.value) base.Bool c.in_ok-n-in-Bool.n (founds c.args.uses.now.items) (λ z. refl) (λ z g h. h) c.requires.seen.over c.requires.seen.uses_over (subst (λ (u : Term). Defines c.args.subst.now c.new_type-in-Bool.new.subst c.in_ok-n-in-Bool.n u) (term_Bool ty.Bool refl) c.in_ok-n-in-Bool.ensures))

pub values::type_operand-returns-in_ok-n-in-Bool-clause-order : goal.values::type_operand-returns-in_ok-n-in-Bool-clause-order
values::type_operand-returns-in_ok-n-in-Bool-clause-order t c =
    rw c.in-Bool.is (none_added c.args.names (founds c.args.uses.now.items))

pub values::type_operand-returns-in_ok-n-in-Unit-clause-typed : goal.values::type_operand-returns-in_ok-n-in-Unit-clause-typed
values::type_operand-returns-in_ok-n-in-Unit-clause-typed t c =
    rw c.in-Unit.is (leaf_infers c.args.subst.now c.new_type-in-Unit.new.subst (env_of c.args.names) (Nothing c.in-Unit.at) base.Unit c.in_ok-n-in-Unit.n (founds c.args.uses.now.items) (λ z. refl) (λ z g h. h) c.requires.seen.over c.requires.seen.uses_over (subst (λ (u : Term). Defines c.args.subst.now c.new_type-in-Unit.new.subst c.in_ok-n-in-Unit.n u) (term_Unit ty.Unit refl) c.in_ok-n-in-Unit.ensures))

pub values::type_operand-returns-in_ok-n-in-Unit-clause-order : goal.values::type_operand-returns-in_ok-n-in-Unit-clause-order
values::type_operand-returns-in_ok-n-in-Unit-clause-order t c =
    rw c.in-Unit.is (none_added c.args.names (founds c.args.uses.now.items))

pub values::type_operand-returns-in_ok-n-in-Braces-clause-typed : goal.values::type_operand-returns-in_ok-n-in-Braces-clause-typed
values::type_operand-returns-in_ok-n-in-Braces-clause-typed t c =
    rw c.in-Braces.is (leaf_infers c.args.subst.now c.new_type-in-Braces.new.subst (env_of c.args.names) (Braces c.in-Braces.at (view_por c.in-Braces.pred)) base.Pred c.in_ok-n-in-Braces.n (founds c.args.uses.now.items) (λ z. refl) (λ z g h. h) c.requires.seen.over c.requires.seen.uses_over (subst (λ (u : Term). Defines c.args.subst.now c.new_type-in-Braces.new.subst c.in_ok-n-in-Braces.n u) (term_Pred ty.Pred refl) c.in_ok-n-in-Braces.ensures))

pub values::type_operand-returns-in_ok-n-in-Braces-clause-order : goal.values::type_operand-returns-in_ok-n-in-Braces-clause-order
values::type_operand-returns-in_ok-n-in-Braces-clause-order t c =
    rw c.in-Braces.is (none_added c.args.names (founds c.args.uses.now.items))

pub values::type_operand-returns-in_ok-n-in-Wav-clause-typed : goal.values::type_operand-returns-in_ok-n-in-Wav-clause-typed
values::type_operand-returns-in_ok-n-in-Wav-clause-typed t c =
    rw c.in-Wav.is (leaf_infers c.args.subst.now c.new_type-in-Wav.new.subst (env_of c.args.names) (PlaceFormat c.in-Wav.at c.in-Wav.size) base.Format c.in_ok-n-in-Wav.n (founds c.args.uses.now.items) (λ z. refl) (λ z g h. h) c.requires.seen.over c.requires.seen.uses_over (subst (λ (u : Term). Defines c.args.subst.now c.new_type-in-Wav.new.subst c.in_ok-n-in-Wav.n u) (term_Format ty.Format refl) c.in_ok-n-in-Wav.ensures))

pub values::type_operand-returns-in_ok-n-in-Wav-clause-order : goal.values::type_operand-returns-in_ok-n-in-Wav-clause-order
values::type_operand-returns-in_ok-n-in-Wav-clause-order t c =
    rw c.in-Wav.is (none_added c.args.names (founds c.args.uses.now.items))

pub values::type_operand-returns-in-Name-clause-typed : goal.values::type_operand-returns-in-Name-clause-typed
values::type_operand-returns-in-Name-clause-typed t c =
    rw c.in-Name.is c.type_name.ensures.typed

pub values::type_operand-returns-in-Name-clause-order : goal.values::type_operand-returns-in-Name-clause-order
values::type_operand-returns-in-Name-clause-order t c =
    rw c.in-Name.is (name_answered c.args.names c.in-Name.at (founds c.args.uses.now.items) (founds c.type_name.new.uses.items) c.type_name.result c.type_name.ensures.named)

pub values::type_operand-returns-in-Paren-clause-typed : goal.values::type_operand-returns-in-Paren-clause-typed
values::type_operand-returns-in-Paren-clause-typed t c =
    let f = answered_as (view_full c.deref.result.now) (Paren (view_full c.deref.result.now)) (λ z g h. h) (λ z g h. h) c.args.subst.now c.type_full.new.subst (env_of c.args.names) (founds c.args.uses.now.items) (founds c.type_full.new.uses.items) c.type_full.result c.type_full.ensures.typed in
    rw c.in-Paren.is (rw c.deref.ensures at f)

pub values::type_operand-returns-in-Paren-clause-order : goal.values::type_operand-returns-in-Paren-clause-order
values::type_operand-returns-in-Paren-clause-order t c =
    let f = c.type_full.ensures.order in
    rw c.in-Paren.is (rw c.deref.ensures at f)

pub values::type_operand-returns-in-Call-clause-typed : goal.values::type_operand-returns-in-Call-clause-typed
values::type_operand-returns-in-Call-clause-typed t c =
    rw c.in-Call.is (answered_as (view_call c.in-Call.call) (Called (view_call c.in-Call.call)) (λ z g h. h) (λ z g h. h) c.args.subst.now c.type_call.new.subst (env_of c.args.names) (founds c.args.uses.now.items) (founds c.type_call.new.uses.items) c.type_call.result c.type_call.ensures.typed)

pub values::type_operand-returns-in-Call-clause-order : goal.values::type_operand-returns-in-Call-clause-order
values::type_operand-returns-in-Call-clause-order t c =
    rw c.in-Call.is c.type_call.ensures.order

pub values::type_operand-returns-in-If-clause-typed : goal.values::type_operand-returns-in-If-clause-typed
values::type_operand-returns-in-If-clause-typed t c =
    rw c.in-If.is (answered_as (view_if c.in-If.choice) (Chosen (view_if c.in-If.choice)) (λ z g h. h) (λ z g h. h) c.args.subst.now c.type_choice.new.subst (env_of c.args.names) (founds c.args.uses.now.items) (founds c.type_choice.new.uses.items) c.type_choice.result c.type_choice.ensures.typed)

pub values::type_operand-returns-in-If-clause-order : goal.values::type_operand-returns-in-If-clause-order
values::type_operand-returns-in-If-clause-order t c =
    rw c.in-If.is c.type_choice.ensures.order

pub values::type_operand-returns-in-Tuple-clause-typed : goal.values::type_operand-returns-in-Tuple-clause-typed
values::type_operand-returns-in-Tuple-clause-typed t c =
    rw (c.in-Tuple.is, operand_tuple c.in-Tuple.at c.in-Tuple.parts c.deref-in-Tuple.result.now c.deref-in-Tuple.ensures.value) c.type_tuple.ensures.typed

pub values::type_operand-returns-in-Tuple-clause-order : goal.values::type_operand-returns-in-Tuple-clause-order
values::type_operand-returns-in-Tuple-clause-order t c =
    rw (c.in-Tuple.is, operand_tuple c.in-Tuple.at c.in-Tuple.parts c.deref-in-Tuple.result.now c.deref-in-Tuple.ensures.value) c.type_tuple.ensures.order

pub values::type_operand-returns-in-List-clause-typed : goal.values::type_operand-returns-in-List-clause-typed
values::type_operand-returns-in-List-clause-typed t c =
    rw (c.in-List.is, operand_list c.in-List.at c.in-List.parts c.deref-in-List.result.now c.deref-in-List.ensures.value) c.type_list.ensures.typed

pub values::type_operand-returns-in-List-clause-order : goal.values::type_operand-returns-in-List-clause-order
values::type_operand-returns-in-List-clause-order t c =
    rw (c.in-List.is, operand_list c.in-List.at c.in-List.parts c.deref-in-List.result.now c.deref-in-List.ensures.value) c.type_list.ensures.order

pub values::type_full-returns-in_ok-n-in-Minus-clause-typed : goal.values::type_full-returns-in_ok-n-in-Minus-clause-typed
values::type_full-returns-in_ok-n-in-Minus-clause-typed t c =
    rw c.in-Minus.is (negative_infers c.args.subst.now c.literal_type.new.subst (env_of c.args.names) c.in-Minus.at c.in-Minus.number c.in_ok-n-in-Minus.n (founds c.args.uses.now.items) c.requires.seen.over c.requires.seen.uses_over c.in_ok-n-in-Minus.ensures)

pub values::type_full-returns-in_ok-n-in-Minus-clause-order : goal.values::type_full-returns-in_ok-n-in-Minus-clause-order
values::type_full-returns-in_ok-n-in-Minus-clause-order t c =
    rw c.in-Minus.is (none_added c.args.names (founds c.args.uses.now.items))

pub values::type_full-type_operand-requires : goal.values::type_full-type_operand-requires
values::type_full-type_operand-requires t c =
    let size = lone_below c.args.full.now c.in-Plain.expr c.in-Some.operand.now c.in-Plain.is (rw c.in-Some.is at c.lone_operand.ensures) in
    (omega (arith, c.decreases, size), c.requires.seen)

pub values::type_full-returns-in-Some-clause-typed : goal.values::type_full-returns-in-Some-clause-typed
values::type_full-returns-in-Some-clause-typed t c =
    rw c.in-Plain.is (lone_typed c.in-Plain.expr c.in-Some.operand.now (rw c.in-Some.is at c.lone_operand.ensures) c.args.subst.now c.type_operand.new.subst (env_of c.args.names) (founds c.args.uses.now.items) (founds c.type_operand.new.uses.items) c.type_operand.result c.type_operand.ensures.typed)

pub values::type_full-returns-in-Some-clause-order : goal.values::type_full-returns-in-Some-clause-order
values::type_full-returns-in-Some-clause-order t c =
    rw c.in-Plain.is (lone_added c.in-Plain.expr c.in-Some.operand.now (rw c.in-Some.is at c.lone_operand.ensures) c.args.names (founds c.args.uses.now.items) (founds c.type_operand.new.uses.items) c.type_operand.result c.type_operand.ensures.order)

pub values::type_full-returns-in-None-clause-typed : goal.values::type_full-returns-in-None-clause-typed
values::type_full-returns-in-None-clause-typed t c =
    rw c.in-Plain.is (answered_as (view_expr c.in-Plain.expr) (Plain (view_expr c.in-Plain.expr)) (λ z g h. h) (λ z g h. h) c.args.subst.now c.type_expr.new.subst (env_of c.args.names) (founds c.args.uses.now.items) (founds c.type_expr.new.uses.items) c.type_expr.result c.type_expr.ensures.typed)

pub values::type_full-returns-in-None-clause-order : goal.values::type_full-returns-in-None-clause-order
values::type_full-returns-in-None-clause-order t c =
    rw c.in-Plain.is c.type_expr.ensures.order

pub calls::apply-begin_call-requires : goal.calls::apply-begin_call-requires
calls::apply-begin_call-requires t c =
    record { over = c.requires.callable.over }

pub calls::apply-type_args-requires : goal.calls::apply-type_args-requires
calls::apply-type_args-requires t c =
    let size = size_is-Call c.args.call.now in
    (rw c.deref.ensures.value (omega (arith, c.decreases, size)), begun_seen c.args.subst.now c.begin_call.new.subst c.args.names (called_scheme c.args.called) ((out-Call c.args.call.now).at) c.args.target c.in_ok-callee.callee c.args.uses.now.items c.begin_call.new.uses.items c.requires.seen c.in_ok-callee.ensures)

pub calls::apply-fit-requires-clause-over : goal.calls::apply-fit-requires-clause-over
calls::apply-fit-requires-clause-over t c =
    let g = rw c.in-Some.is at c.in_ok-type_args.ensures.typed in
    rw c.deref-in-Some.ensures.value (terms_later c.begin_call.new.subst c.type_args.new.subst (map term_of c.in_ok-callee.callee.params.items) g.follows c.in_ok-callee.ensures.instantiated.params)

pub calls::apply-fit-requires-clause-inside : goal.calls::apply-fit-requires-clause-inside
calls::apply-fit-requires-clause-inside t c =
    let g = rw c.in-Some.is at c.in_ok-type_args.ensures.typed in g.over

pub calls::apply-returns-in-None-clause-typed : goal.calls::apply-returns-in-None-clause-typed
calls::apply-returns-in-None-clause-typed t c =
    args_none c.args.call.now c.deref.result.now c.deref.ensures.value c.args.subst.now c.begin_call.new.subst (env_of c.args.names) c.args.target (map seen_parameter c.args.params.now) (called_scheme c.args.called) (map term_of c.in_ok-callee.callee.params.items) c.in_ok-callee.callee.result c.in_ok-callee.ensures.kinds (founds c.args.uses.now.items) (founds c.begin_call.new.uses.items) c.requires.seen.over c.requires.seen.uses_over c.requires.callable c.in_ok-callee.ensures.instantiated c.in_ok-callee.ensures.added (rw c.in-None.is at c.in_ok-type_args.ensures.typed)

pub calls::apply-returns-clause-typed : goal.calls::apply-returns-clause-typed
calls::apply-returns-clause-typed t c =
    call_done c.args.call.now c.deref.result.now c.deref.ensures.value c.args.subst.now c.begin_call.new.subst (env_of c.args.names) c.args.target (map seen_parameter c.args.params.now) (called_scheme c.args.called) (map term_of c.in_ok-callee.callee.params.items) c.in_ok-callee.callee.result c.in_ok-callee.ensures.kinds (founds c.args.uses.now.items) (founds c.begin_call.new.uses.items) c.requires.seen.over c.requires.seen.uses_over c.requires.callable c.in_ok-callee.ensures.instantiated c.in_ok-callee.ensures.added c.type_args.new.subst c.fit.new.subst (map seen_argument c.in-Some.given.items) (founds c.type_args.new.uses.items) c.in_ok-yes-in-Some.yes c.some_if.result c.some_if.ensures (rw c.in-Some.is at c.in_ok-type_args.ensures.typed) (rw c.deref-in-Some.ensures.value at c.in_ok-yes-in-Some.ensures)

pub calls::apply-returns-clause-order : goal.calls::apply-returns-clause-order
calls::apply-returns-clause-order t c =
    let b = c.in_ok-callee.ensures in
    added_if c.args.names (tokens_used (view_call c.args.call.now)) (founds c.args.uses.now.items) (founds c.type_args.new.uses.items) c.in_ok-yes-in-Some.yes c.in_ok-callee.callee.result c.some_if.result c.some_if.ensures
    (call_added c.args.names c.args.call.now c.deref.result.now (founds c.args.uses.now.items) (founds c.begin_call.new.uses.items) (founds c.type_args.new.uses.items) c.deref.ensures.value
    (use_added c.args.names ((out-Call c.args.call.now).at) c.args.target b.kinds (founds c.args.uses.now.items) (founds c.begin_call.new.uses.items) c.requires.callable.meant (c.requires.counted ∙ ap Some (sym b.counted)) b.added)
    (rw c.in-Some.is at c.in_ok-type_args.ensures.order))

pub calls::type_call-returns-in-None-clause-typed : goal.calls::type_call-returns-in-None-clause-typed
calls::type_call-returns-in-None-clause-typed t c =
    call_none c.args.subst.now (env_of c.args.names) c.args.call.now (founds c.args.uses.now.items) (sym c.target.ensures ∙ c.in-None.is)

pub calls::type_call-returns-in-Slot-clause-typed : goal.calls::type_call-returns-in-Slot-clause-typed
calls::type_call-returns-in-Slot-clause-typed t c =
    call_value c.args.subst.now (env_of c.args.names) c.args.call.now c.in-Slot.field-0 (founds c.args.uses.now.items) (sym c.target.ensures ∙ c.in-Some.is ∙ ap Some c.in-Slot.is)

pub calls::type_call-returns-in-None-function-clause-typed : goal.calls::type_call-returns-in-None-function-clause-typed
calls::type_call-returns-in-None-function-clause-typed t c =
    let none : None ≡ def_seen c.in-Def.def c.args.names.defs.now = ap (option_map (λ d. d.now)) (sym c.in-None-function.is) ∙ c.function.ensures in
    call_no_def c.args.subst.now (env_of c.args.names) c.args.call.now (target.Def c.in-Def.def) (founds c.args.uses.now.items) (sym c.target.ensures ∙ c.in-Some.is ∙ ap Some c.in-Def.is) (def_not_called c.args.subst.now c.args.names c.args.uses.now.items ((out-Call c.args.call.now).at) c.in-Def.def c.requires.seen none)

pub calls::type_call-apply-requires : goal.calls::type_call-apply-requires
calls::type_call-apply-requires t c =
    let known = c.in-Some-function.known.now in
    let found : Some known ≡ def_seen c.in-Def.def c.args.names.defs.now = ap (option_map (λ d. d.now)) (sym c.in-Some-function.is) ∙ c.function.ensures in
    let called = def_called c.args.subst.now c.args.names c.args.uses.now.items ((out-Call c.args.call.now).at) c.in-Def.def known c.requires.seen found (sym c.target.ensures ∙ c.in-Some.is ∙ ap Some c.in-Def.is) in
    (omega (arith, c.decreases), (c.requires.seen, (rw c.deref.ensures.value called, def_counted c.args.names.defs.now c.in-Def.def known found)))

pub calls::type_call-apply-requires-in-Builtin : goal.calls::type_call-apply-requires-in-Builtin
calls::type_call-apply-requires-in-Builtin t c =
    let means = sym c.target.ensures ∙ c.in-Some.is ∙ ap Some c.in-Builtin.is in
    (omega (arith, c.decreases), (c.requires.seen, (builtin_called c.args.subst.now (env_of c.args.names) ((out-Call c.args.call.now).at) c.in-Builtin.builtin (map seen_parameter c.builtin_params-params.result.now) c.builtin_params-params.ensures.same means, builtin_counted c.args.names.defs.now c.in-Builtin.builtin)))
