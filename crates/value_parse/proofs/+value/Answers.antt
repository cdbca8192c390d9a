use Rattle.std.proofs.Common.{ℕ, Bool, Ok, ap, length}
use Rattle.parse_base.proofs.Levels.{full_ends, full_turn}
use Rattle.value_parse.proofs.Signs.{added_goes}
use Rattle.script_grammar.specs.Tree.{Tree, AFull, AnArg, AnAdded, Added}
use Rattle.script_grammar.specs.View.{view_product}
use Rattle.script_grammar.specs.declared.tree.Added as node
use Rattle.script_grammar.specs.declared.tree.Product.{Product}
use Rattle.parse_base.specs.Gives.{kinds}
use Rattle.std.proofs.Common.{rules, ◌≡◌, [], false, refl, subst, sym, ◌∙◌, ◌-◌, arith}
use Rattle.std.proofs.lemmas.List.Elements.{All-nil}
use Rattle.std.proofs.lemmas.Result.{err_from_is_err_and}
use Rattle.script_grammar.specs.Kinds.{is_or, is_and, is_comma, is_added, is_multiplied, is_close_round}
use Rattle.script_grammar.specs.Read.{Read, next, behind}
use Rattle.script_grammar.specs.ReadValue.{full_by, expr, and_, not_, added, multiplied, arg, args}
use Rattle.script_grammar.specs.View.{view_full, view_and, view_not, view_added, view_multiplied, view_arg, view_operand}
use Rattle.script_grammar.specs.Whole.{IsWholeFull, IsWholeAnd, IsWholeNot, IsWholeAdded, IsWholeMultiplied, IsWholeArg}
use Rattle.parse_base.specs.Gives.{places}
use Rattle.parse_base.proofs.Turns.{begins, ends}
use Rattle.parse_base.specs.Classes.{is_in}
use Rattle.value_parse.proofs.Chained.{chain_ends, chain_fails_first, chain_fails, closed_none, closed_goes, closed_fails, closing_fails}
use Rattle.value_parse.proofs.Kept.{keeps_first, keeps_more, keeps_turn, loses_first, loses_more, loses_turn}
use Rattle.value_parse.proofs.Lone.{bare_full, lone_goes, operand_fails}
use Rattle.value_parse.proofs.Pushed.{argument_fails, pushes_first, pushes_more}
use Rattle.value_parse.specs.Operand.{as_argument, plain, Pushes}
use Rattle.value_parse.proofs.+value.Goals as goal

pub logic::ands-turns-init : goal.logic::ands-turns-init
logic::ands-turns-init t c =
    let none_yet : c.new-items.result.items ≡ [] = cc in
    (omega arith, begins view_and (next is_or) (behind is_or (and_ c.args.at.loose (places c.args.at.total) (full_by c.args.at.levels (places c.args.at.total)))) c.args.at.tokens.now c.new-items.result.items cc, rw none_yet (All-nil IsWholeAnd))

pub logic::ands-returns-in_err-rest : goal.logic::ands-returns-in_err-rest
logic::ands-returns-in_err-rest t c = record {
  shorter = search rules;
  gives = (let p = err_from_is_err_and c.from_residual.result c.from_residual.ensures.1 in
      rw (p.1, p.2) (loses_turn view_and (next is_or) (behind is_or (and_ c.args.at.loose (places c.args.at.total) (full_by c.args.at.levels (places c.args.at.total)))) c.args.at.tokens.now c.turns.rest.now c.or_and.result c.turns.items.items c.in_err-rest.field-0.0 c.turns.invariant.1 refl (sym c.next_is.ensures ∙ c.turns-test.true) c.in_err-rest.ensures.fault c.or_and.ensures.gives));
  whole = search rules;
}

pub logic::ands-turns-preserved : goal.logic::ands-turns-preserved
logic::ands-turns-preserved t c = keeps_turn view_and IsWholeAnd (next is_or) (behind is_or (and_ c.args.at.loose (places c.args.at.total) (full_by c.args.at.levels (places c.args.at.total)))) c.args.at.tokens.now c.turns.rest.now c.or_and.result c.in_ok-rest.rest.now c.turns.items.items c.keep.new.items.items c.turns.invariant (sym c.next_is.ensures ∙ c.turns-test.true) c.or_and.ensures.gives c.or_and.ensures.shorter c.or_and.ensures.whole c.in_ok-rest.ensures.kept

pub logic::ands-returns : goal.logic::ands-returns
logic::ands-returns t c = record {
  shorter = search rules;
  gives = (ends c.turns.invariant.1 (sym c.next_is.ensures ∙ c.turns-test.false));
  whole = search rules;
}

pub logic::nots-turns-init : goal.logic::nots-turns-init
logic::nots-turns-init t c =
    let none_yet : c.new-items.result.items ≡ [] = cc in
    (omega arith, begins view_not (next is_and) (behind is_and (not_ c.args.at.loose (places c.args.at.total) (full_by c.args.at.levels (places c.args.at.total)))) c.args.at.tokens.now c.new-items.result.items cc, rw none_yet (All-nil IsWholeNot))

pub logic::nots-returns-in_err-rest : goal.logic::nots-returns-in_err-rest
logic::nots-returns-in_err-rest t c = record {
  shorter = search rules;
  gives = (let p = err_from_is_err_and c.from_residual.result c.from_residual.ensures.1 in
      rw (p.1, p.2) (loses_turn view_not (next is_and) (behind is_and (not_ c.args.at.loose (places c.args.at.total) (full_by c.args.at.levels (places c.args.at.total)))) c.args.at.tokens.now c.turns.rest.now c.and_not.result c.turns.items.items c.in_err-rest.field-0.0 c.turns.invariant.1 refl (sym c.next_is.ensures ∙ c.turns-test.true) c.in_err-rest.ensures.fault c.and_not.ensures.gives));
  whole = search rules;
}

pub logic::nots-turns-preserved : goal.logic::nots-turns-preserved
logic::nots-turns-preserved t c = keeps_turn view_not IsWholeNot (next is_and) (behind is_and (not_ c.args.at.loose (places c.args.at.total) (full_by c.args.at.levels (places c.args.at.total)))) c.args.at.tokens.now c.turns.rest.now c.and_not.result c.in_ok-rest.rest.now c.turns.items.items c.keep.new.items.items c.turns.invariant (sym c.next_is.ensures ∙ c.turns-test.true) c.and_not.ensures.gives c.and_not.ensures.shorter c.and_not.ensures.whole c.in_ok-rest.ensures.kept

pub logic::nots-returns : goal.logic::nots-returns
logic::nots-returns t c = record {
  shorter = search rules;
  gives = (ends c.turns.invariant.1 (sym c.next_is.ensures ∙ c.turns-test.false));
  whole = search rules;
}

pub arithmetic::addends-turns-init : goal.arithmetic::addends-turns-init
arithmetic::addends-turns-init t c =
    let none_yet : c.new-items.result.items ≡ [] = cc in
    (omega arith, begins view_added (next is_added) (added c.args.at.loose (places c.args.at.total) (full_by c.args.at.levels (places c.args.at.total))) c.args.at.tokens.now c.new-items.result.items cc, rw none_yet (All-nil IsWholeAdded))

pub arithmetic::addends-returns-in_err-rest : goal.arithmetic::addends-returns-in_err-rest
arithmetic::addends-returns-in_err-rest t c = record {
  shorter = search rules;
  gives = (let p = err_from_is_err_and c.from_residual.result c.from_residual.ensures.1 in
      rw (p.1, p.2) (loses_turn view_added (next is_added) (added c.args.at.loose (places c.args.at.total) (full_by c.args.at.levels (places c.args.at.total))) c.args.at.tokens.now c.turns.rest.now c.added.result c.turns.items.items c.in_err-rest.field-0.0 c.turns.invariant.1 refl (sym c.next_is.ensures ∙ c.turns-test.true) c.in_err-rest.ensures.fault c.added.ensures.gives));
  whole = search rules;
}

pub arithmetic::addends-turns-preserved : goal.arithmetic::addends-turns-preserved
arithmetic::addends-turns-preserved t c = keeps_turn view_added IsWholeAdded (next is_added) (added c.args.at.loose (places c.args.at.total) (full_by c.args.at.levels (places c.args.at.total))) c.args.at.tokens.now c.turns.rest.now c.added.result c.in_ok-rest.rest.now c.turns.items.items c.keep.new.items.items c.turns.invariant (sym c.next_is.ensures ∙ c.turns-test.true) c.added.ensures.gives c.added.ensures.shorter c.added.ensures.whole c.in_ok-rest.ensures.kept

pub arithmetic::addends-returns : goal.arithmetic::addends-returns
arithmetic::addends-returns t c = record {
  shorter = search rules;
  gives = (ends c.turns.invariant.1 (sym c.next_is.ensures ∙ c.turns-test.false));
  whole = search rules;
}

pub arithmetic::factors-turns-init : goal.arithmetic::factors-turns-init
arithmetic::factors-turns-init t c =
    let none_yet : c.new-items.result.items ≡ [] = cc in
    (omega arith, begins view_multiplied (next is_multiplied) (multiplied c.args.at.loose (places c.args.at.total) (full_by c.args.at.levels (places c.args.at.total))) c.args.at.tokens.now c.new-items.result.items cc, rw none_yet (All-nil IsWholeMultiplied))

pub arithmetic::factors-returns-in_err-rest : goal.arithmetic::factors-returns-in_err-rest
arithmetic::factors-returns-in_err-rest t c = record {
  shorter = search rules;
  gives = (let p = err_from_is_err_and c.from_residual.result c.from_residual.ensures.1 in
      rw (p.1, p.2) (loses_turn view_multiplied (next is_multiplied) (multiplied c.args.at.loose (places c.args.at.total) (full_by c.args.at.levels (places c.args.at.total))) c.args.at.tokens.now c.turns.rest.now c.multiplied.result c.turns.items.items c.in_err-rest.field-0.0 c.turns.invariant.1 refl (sym c.next_is.ensures ∙ c.turns-test.true) c.in_err-rest.ensures.fault c.multiplied.ensures.gives));
  whole = search rules;
}

pub arithmetic::factors-turns-preserved : goal.arithmetic::factors-turns-preserved
arithmetic::factors-turns-preserved t c = keeps_turn view_multiplied IsWholeMultiplied (next is_multiplied) (multiplied c.args.at.loose (places c.args.at.total) (full_by c.args.at.levels (places c.args.at.total))) c.args.at.tokens.now c.turns.rest.now c.multiplied.result c.in_ok-rest.rest.now c.turns.items.items c.keep.new.items.items c.turns.invariant (sym c.next_is.ensures ∙ c.turns-test.true) c.multiplied.ensures.gives c.multiplied.ensures.shorter c.multiplied.ensures.whole c.in_ok-rest.ensures.kept

pub arithmetic::factors-returns : goal.arithmetic::factors-returns
arithmetic::factors-returns t c = record {
  shorter = search rules;
  gives = (ends c.turns.invariant.1 (sym c.next_is.ensures ∙ c.turns-test.false));
  whole = search rules;
}

pub values::full-returns-then-levels-eq0 : goal.values::full-returns-then-levels-eq0
values::full-returns-then-levels-eq0 t c = record {
  shorter = search rules;
  gives = (full_ends c.args.levels (places c.args.total) c.args.tokens.now (omega arith));
  whole = search rules;
}

pub values::full-returns-else-levels-eq0 : goal.values::full-returns-else-levels-eq0
values::full-returns-else-levels-eq0 t c = record {
  shorter = search rules;
  gives = (rw (full_turn c.args.levels (c.args.levels - 1) (places c.args.total) c.args.tokens.now (omega arith)) c.full_step.ensures.gives);
  whole = search rules;
}

added_seen : (at : ℕ) (minus : Bool) (p : Product) → view_added (node.roll-Added (record { at = at; minus = minus; product = p })) ≡ Added at minus (view_product p)
added_seen at minus p = ap view_added (node.rolls-Added' (record { at = at; minus = minus; product = p }))

pub arithmetic::added-returns-clause-gives : goal.arithmetic::added-returns-clause-gives
arithmetic::added-returns-clause-gives t c =
    added_goes c.args.here.loose (places c.args.here.total) (full_by c.args.here.levels (places c.args.here.total)) (kinds c.args.here.tokens.now) c.place-at.result c.in_ok-minus.minus (kinds c.in_ok-minus.rest.now) (kinds c.in_ok-product.rest.now) (view_product c.in_ok-product.product) c.place-at.ensures c.in_ok-minus.ensures.gives c.in_ok-product.ensures.gives
    ∙ ap (λ (x : Tree AnAdded). Ok (x, kinds c.in_ok-product.rest.now)) (sym (added_seen c.place-at.result c.in_ok-minus.minus c.in_ok-product.product))

pub operands::some_fulls-turns-init : goal.operands::some_fulls-turns-init
operands::some_fulls-turns-init t c = keeps_first view_full IsWholeFull is_comma (full_by c.args.levels (places c.args.total)) c.args.tokens.now c.full.result c.in_ok-rest.rest.now c.args.parts.now.items c.keep.new.items.items c.full.ensures.gives c.full.ensures.shorter c.full.ensures.whole c.in_ok-rest.ensures.kept c.requires.empty

pub operands::some_fulls-turns-preserved : goal.operands::some_fulls-turns-preserved
operands::some_fulls-turns-preserved t c = keeps_more view_full IsWholeFull is_comma (full_by c.args.levels (places c.args.total)) c.args.tokens.now c.turns.rest.now c.comma_full.result c.in_ok-rest-2.rest.now c.turns.parts.items c.keep-in-turns.new.items.items c.turns.invariant (sym c.next_is.ensures ∙ c.turns-test.true) c.comma_full.ensures.gives c.comma_full.ensures.shorter c.comma_full.ensures.whole c.in_ok-rest-2.ensures.kept

pub operands::some_fulls-returns-clause-gives : goal.operands::some_fulls-returns-clause-gives
operands::some_fulls-returns-clause-gives t c = chain_ends c.turns.invariant.1 (sym c.next_is.ensures ∙ c.turns-test.false)

pub operands::some_fulls-returns-in_err-rest-clause-gives : goal.operands::some_fulls-returns-in_err-rest-clause-gives
operands::some_fulls-returns-in_err-rest-clause-gives t c =
    let p = err_from_is_err_and c.from_residual.result c.from_residual.ensures.1 in
    rw (p.1, p.2) (loses_first view_full is_comma (full_by c.args.levels (places c.args.total)) c.args.tokens.now c.full.result c.in_err-rest.field-0.0 c.in_err-rest.ensures.fault c.full.ensures.gives)

pub operands::some_fulls-returns-in_err-rest-2-clause-gives : goal.operands::some_fulls-returns-in_err-rest-2-clause-gives
operands::some_fulls-returns-in_err-rest-2-clause-gives t c =
    let p = err_from_is_err_and c.from_residual-in_err-rest-2.result c.from_residual-in_err-rest-2.ensures.1 in
    rw (p.1, p.2) (loses_more view_full is_comma (full_by c.args.levels (places c.args.total)) c.args.tokens.now c.turns.rest.now c.comma_full.result c.turns.parts.items c.in_err-rest-2.field-0.0 c.turns.invariant.1 (sym c.next_is.ensures ∙ c.turns-test.true) c.in_err-rest-2.ensures.fault c.comma_full.ensures.gives)

pub operands::fulls-returns-then-is_closed-clause-gives : goal.operands::fulls-returns-then-is_closed-clause-gives
operands::fulls-returns-then-is_closed-clause-gives t c = closed_none view_full is_comma (is_in c.args.close) (full_by c.args.levels (places c.args.total)) (kinds c.args.tokens.now) (kinds c.perhaps-is_closed.result.1.now) c.perhaps-is_closed.result.0 c.perhaps-is_closed.ensures.gives c.args.parts.now.items c.if-is_closed.true c.requires.empty

pub operands::fulls-returns-in_err-rest-clause-gives : goal.operands::fulls-returns-in_err-rest-clause-gives
operands::fulls-returns-in_err-rest-clause-gives t c =
    let p = err_from_is_err_and c.from_residual.result c.from_residual.ensures.1 in
    rw (p.1, p.2) (closed_fails view_full is_comma (is_in c.args.close) (full_by c.args.levels (places c.args.total)) (kinds c.args.tokens.now) (kinds c.perhaps-is_closed.result.1.now) c.perhaps-is_closed.result.0 c.perhaps-is_closed.ensures.gives c.in_err-rest.field-0.0 c.if-is_closed.false c.in_err-rest.ensures.gives)

pub operands::fulls-returns-in_err-rest-2-clause-gives : goal.operands::fulls-returns-in_err-rest-2-clause-gives
operands::fulls-returns-in_err-rest-2-clause-gives t c =
    let p = err_from_is_err_and c.from_residual-in_err-rest-2.result c.from_residual-in_err-rest-2.ensures.1 in
    rw (p.1, p.2) (closing_fails view_full is_comma (is_in c.args.close) (full_by c.args.levels (places c.args.total)) (kinds c.args.tokens.now) (kinds c.perhaps-is_closed.result.1.now) c.perhaps-is_closed.result.0 c.perhaps-is_closed.ensures.gives c.some_fulls.new.parts.items (kinds c.in_ok-rest.rest.now) c.in_err-rest-2.field-0.0 c.if-is_closed.false c.in_ok-rest.ensures.gives c.in_err-rest-2.ensures.gives)

pub operands::fulls-returns-clause-gives : goal.operands::fulls-returns-clause-gives
operands::fulls-returns-clause-gives t c = closed_goes view_full is_comma (is_in c.args.close) (full_by c.args.levels (places c.args.total)) (kinds c.args.tokens.now) (kinds c.perhaps-is_closed.result.1.now) c.perhaps-is_closed.result.0 c.perhaps-is_closed.ensures.gives c.some_fulls.new.parts.items (kinds c.in_ok-rest.rest.now) (kinds c.in_ok-rest-2.rest.now) c.if-is_closed.false c.in_ok-rest.ensures.gives c.in_ok-rest-2.ensures.gives

pub arguments::some_args-turns-init : goal.arguments::some_args-turns-init
arguments::some_args-turns-init t c = pushes_first view_arg IsWholeArg is_comma (arg (places c.args.total) (full_by c.args.levels (places c.args.total))) c.args.tokens.now c.in_ok-rest.rest.now c.args.items.now.items c.arg.new.items.items c.in_ok-rest.ensures.gives c.in_ok-rest.ensures.shorter c.in_ok-rest.ensures.whole c.requires.empty

pub arguments::some_args-turns-preserved : goal.arguments::some_args-turns-preserved
arguments::some_args-turns-preserved t c = pushes_more view_arg IsWholeArg is_comma (arg (places c.args.total) (full_by c.args.levels (places c.args.total))) c.args.tokens.now c.turns.rest.now c.in_ok-rest-2.rest.now c.turns.items.items c.comma_arg.new.items.items c.turns.invariant (sym c.next_is.ensures ∙ c.turns-test.true) c.in_ok-rest-2.ensures.gives c.in_ok-rest-2.ensures.shorter c.in_ok-rest-2.ensures.whole

pub arguments::some_args-returns-clause-gives : goal.arguments::some_args-returns-clause-gives
arguments::some_args-returns-clause-gives t c = chain_ends c.turns.invariant.1 (sym c.next_is.ensures ∙ c.turns-test.false)

pub arguments::some_args-returns-in_err-rest-clause-gives : goal.arguments::some_args-returns-in_err-rest-clause-gives
arguments::some_args-returns-in_err-rest-clause-gives t c =
    let p = err_from_is_err_and c.from_residual.result c.from_residual.ensures.1 in
    rw (p.1, p.2) (chain_fails_first is_comma (arg (places c.args.total) (full_by c.args.levels (places c.args.total))) (kinds c.args.tokens.now) c.in_err-rest.field-0.0 c.in_err-rest.ensures.gives)

pub arguments::some_args-returns-in_err-rest-2-clause-gives : goal.arguments::some_args-returns-in_err-rest-2-clause-gives
arguments::some_args-returns-in_err-rest-2-clause-gives t c =
    let p = err_from_is_err_and c.from_residual-in_err-rest-2.result c.from_residual-in_err-rest-2.ensures.1 in
    rw (p.1, p.2) (chain_fails c.turns.invariant.1 c.in_err-rest-2.field-0.0 (sym c.next_is.ensures ∙ c.turns-test.true) c.in_err-rest-2.ensures.gives)

pub arguments::labelled-returns-in-None-clause-shorter : goal.arguments::labelled-returns-in-None-clause-shorter
arguments::labelled-returns-in-None-clause-shorter t c = c.push_arg.ensures.shorter (length c.args.tokens.now) c.full.ensures.shorter

pub arguments::labelled-returns-in-None-clause-gives : goal.arguments::labelled-returns-in-None-clause-gives
arguments::labelled-returns-in-None-clause-gives t c = c.push_arg.ensures.gives (full_by c.args.levels (places c.args.total) (kinds c.args.tokens.now)) c.full.ensures.gives

pub arguments::labelled-returns-in-None-clause-whole : goal.arguments::labelled-returns-in-None-clause-whole
arguments::labelled-returns-in-None-clause-whole t c = c.push_arg.ensures.whole c.full.ensures.whole

pub arguments::labelled-returns-in_ok-reserve-in-Some-clause-gives : goal.arguments::labelled-returns-in_ok-reserve-in-Some-clause-gives
arguments::labelled-returns-in_ok-reserve-in-Some-clause-gives t c =
    let stamp = places c.args.total in
    let w = kinds c.args.tokens.now in
    let bare = bare_full c.args.levels c.in-Some.below stamp w c.in-Some.ensures.bare.0 c.in-Some.ensures.bare.1 in
    let pushed = subst (λ l. Pushes view_arg l c.push_operand.new.items.items c.push_operand.result (as_argument c.args.at c.args.label (plain false stamp (full_by c.in-Some.below stamp) w))) c.in_ok-reserve-in-Some.ensures.items c.push_operand.ensures.gives in
    subst (λ (read : Read (Tree AFull)). Pushes view_arg c.args.items.now.items c.push_operand.new.items.items c.push_operand.result (as_argument c.args.at c.args.label read)) (sym bare) pushed

pub arguments::push_operand-returns-then-at_operator-clause-shorter : goal.arguments::push_operand-returns-then-at_operator-clause-shorter
arguments::push_operand-returns-then-at_operator-clause-shorter t c = c.push_arg.ensures.shorter (length c.args.tokens.now) (c.in_full.ensures.shorter (length c.args.tokens.now) c.expr_from-value.ensures.shorter)

pub arguments::push_operand-returns-then-at_operator-clause-gives : goal.arguments::push_operand-returns-then-at_operator-clause-gives
arguments::push_operand-returns-then-at_operator-clause-gives t c =
    c.push_arg.ensures.gives (plain false (places c.args.total) (full_by c.args.levels (places c.args.total)) (kinds c.args.tokens.now))
    (c.in_full.ensures.gives (expr false (places c.args.total) (full_by c.args.levels (places c.args.total)) (kinds c.args.tokens.now)) c.expr_from-value.ensures.gives)

pub arguments::push_operand-returns-then-at_operator-clause-whole : goal.arguments::push_operand-returns-then-at_operator-clause-whole
arguments::push_operand-returns-then-at_operator-clause-whole t c = c.push_arg.ensures.whole (c.in_full.ensures.whole c.expr_from-value.ensures.whole)

pub arguments::push_operand-returns-in_err-operand-clause-gives : goal.arguments::push_operand-returns-in_err-operand-clause-gives
arguments::push_operand-returns-in_err-operand-clause-gives t c =
    let p = err_from_is_err_and c.from_residual.result c.from_residual.ensures.1 in
    rw (p.1, p.2)
    (argument_fails c.args.at c.args.label c.in_err-operand.field-0.0 (plain false (places c.args.total) (full_by c.args.levels (places c.args.total)) (kinds c.args.tokens.now))
    (operand_fails false (places c.args.total) (full_by c.args.levels (places c.args.total)) (kinds c.args.tokens.now) (kinds c.args.tokens.now) false c.in_err-operand.field-0.0 c.requires.lead (rw c.in_err-operand.was at c.requires.read.gives)))

pub arguments::push_operand-returns-else-at_operator-clause-gives : goal.arguments::push_operand-returns-else-at_operator-clause-gives
arguments::push_operand-returns-else-at_operator-clause-gives t c =
    let goes = lone_goes false (places c.args.total) (full_by c.args.levels (places c.args.total)) (kinds c.args.tokens.now) (kinds c.args.tokens.now) (kinds c.in_ok-operand.rest.now) false (view_operand c.in_ok-operand.operand) c.requires.lead (rw c.in_ok-operand.was at c.requires.read.gives) (sym c.at_operator.ensures ∙ c.if-at_operator.false) in
    let pushed = c.push_lone.ensures.pushed in
    (pushed.0, pushed.1, ap (as_argument c.args.at c.args.label) goes ∙ ap (λ (a : Tree AnArg). Ok (a, kinds c.in_ok-operand.rest.now)) (sym pushed.2))

pub arguments::args-returns-then-is_closed-clause-gives : goal.arguments::args-returns-then-is_closed-clause-gives
unfolding args
arguments::args-returns-then-is_closed-clause-gives t c = closed_none view_arg is_comma is_close_round (arg (places c.args.total) (full_by c.args.levels (places c.args.total))) (kinds c.args.tokens.now) (kinds c.perhaps-is_closed.result.1.now) c.perhaps-is_closed.result.0 c.perhaps-is_closed.ensures.gives c.args.items.now.items c.if-is_closed.true c.requires.empty

pub arguments::args-returns-in_err-rest-clause-gives : goal.arguments::args-returns-in_err-rest-clause-gives
unfolding args
arguments::args-returns-in_err-rest-clause-gives t c =
    let p = err_from_is_err_and c.from_residual.result c.from_residual.ensures.1 in
    rw (p.1, p.2) (closed_fails view_arg is_comma is_close_round (arg (places c.args.total) (full_by c.args.levels (places c.args.total))) (kinds c.args.tokens.now) (kinds c.perhaps-is_closed.result.1.now) c.perhaps-is_closed.result.0 c.perhaps-is_closed.ensures.gives c.in_err-rest.field-0.0 c.if-is_closed.false c.in_err-rest.ensures.gives)

pub arguments::args-returns-in_err-rest-2-clause-gives : goal.arguments::args-returns-in_err-rest-2-clause-gives
unfolding args
arguments::args-returns-in_err-rest-2-clause-gives t c =
    let p = err_from_is_err_and c.from_residual-in_err-rest-2.result c.from_residual-in_err-rest-2.ensures.1 in
    rw (p.1, p.2) (closing_fails view_arg is_comma is_close_round (arg (places c.args.total) (full_by c.args.levels (places c.args.total))) (kinds c.args.tokens.now) (kinds c.perhaps-is_closed.result.1.now) c.perhaps-is_closed.result.0 c.perhaps-is_closed.ensures.gives c.some_args.new.items.items (kinds c.in_ok-rest.rest.now) c.in_err-rest-2.field-0.0 c.if-is_closed.false c.in_ok-rest.ensures.gives c.in_err-rest-2.ensures.gives)

pub arguments::args-returns-clause-gives : goal.arguments::args-returns-clause-gives
unfolding args
arguments::args-returns-clause-gives t c = closed_goes view_arg is_comma is_close_round (arg (places c.args.total) (full_by c.args.levels (places c.args.total))) (kinds c.args.tokens.now) (kinds c.perhaps-is_closed.result.1.now) c.perhaps-is_closed.result.0 c.perhaps-is_closed.ensures.gives c.some_args.new.items.items (kinds c.in_ok-rest.rest.now) (kinds c.in_ok-rest-2.rest.now) c.if-is_closed.false c.in_ok-rest.ensures.gives c.in_ok-rest-2.ensures.gives

pub logic::negation_of-returns-clause-shorter : goal.logic::negation_of-returns-clause-shorter
logic::negation_of-returns-clause-shorter t c = c.not_of.ensures.shorter (length c.args.tokens.now) c.compare_of.ensures.shorter

pub values::plain_of-returns-then-at_operator : goal.values::plain_of-returns-then-at_operator
values::plain_of-returns-then-at_operator t c = record {
  shorter = (c.in_full.ensures.shorter (length c.args.at.tokens.now) c.expr_from.ensures.shorter);
  gives = search rules;
  whole = search rules;
}

pub values::plain_of-returns-in_err-operand : goal.values::plain_of-returns-in_err-operand
values::plain_of-returns-in_err-operand t c = record {
  shorter = search rules;
  gives = (let p = err_from_is_err_and c.from_residual.result c.from_residual.ensures.1 in
      rw (p.1, p.2) (operand_fails c.args.at.loose (places c.args.at.total) (full_by c.args.at.levels (places c.args.at.total)) (kinds c.args.at.tokens.now) (kinds c.args.inner.now) c.args.negated c.in_err-operand.field-0.0 c.requires.lead (rw c.in_err-operand.was at c.requires.read.gives)));
  whole = search rules;
}

pub values::plain_of-returns-else-at_operator : goal.values::plain_of-returns-else-at_operator
values::plain_of-returns-else-at_operator t c = record {
  shorter = search rules;
  gives = (lone_goes c.args.at.loose (places c.args.at.total) (full_by c.args.at.levels (places c.args.at.total)) (kinds c.args.at.tokens.now) (kinds c.args.inner.now) (kinds c.in_ok-operand.rest.now) c.args.negated (view_operand c.in_ok-operand.operand) c.requires.lead (rw c.in_ok-operand.was at c.requires.read.gives) (sym c.at_operator.ensures ∙ c.if-at_operator.false)
      ∙ ap (λ (f : Tree AFull). Ok (f, kinds c.in_ok-operand.rest.now)) (sym c.lone.ensures.made));
  whole = search rules;
}
