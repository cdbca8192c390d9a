use Rattle.std.proofs.Common.{[], ◌∷◌, drop, refl, sym, ap, ◌∙◌, length-append, arith}
use Rattle.std.proofs.lemmas.List.Elements.{All-push}
use Rattle.std.proofs.lemmas.Result.{err_from_is_err_and}
use Rattle.script_grammar.specs.Kinds.{is_comma}
use Rattle.script_grammar.specs.Read.{next, behind}
use Rattle.script_grammar.specs.ReadScript.{param}
use Rattle.script_grammar.specs.View.{view_param}
use Rattle.script_grammar.specs.Whole.{IsWholeParam}
use Rattle.parse_base.specs.Gives.{places}
use Rattle.parse_base.proofs.Turns.{begins, goes_on, fails, ends}
use Rattle.statement_parse.proofs.Items.{none_behind, all_first, first_stays, pushed_behind}
use Rattle.statement_parse.proofs.parameter.more_params.Goals as goal

pub turns-init : goal.turns-init
turns-init c =
    let items = c.args.items.now.items in (
      omega arith,
      begins view_param (next is_comma) (behind is_comma (param (places c.args.total))) c.args.tokens.now (drop 1 items) (none_behind items c.requires.one),
      c.requires.whole_first,
      omega (arith, c.requires.one),
      all_first items c.requires.one,
    )

pub returns-in_err-item-clause-gives : goal.returns-in_err-item-clause-gives
returns-in_err-item-clause-gives c =
    let p = err_from_is_err_and c.from_residual.result c.from_residual.ensures.1 in
    rw (p.1, p.2) (fails c.turns.invariant.1 c.in_err-item.field-0.0 refl (sym c.next_is.ensures ∙ c.turns-test.true) c.in_err-item.ensures.gives)

pub turns-preserved : goal.turns-preserved
turns-preserved c =
    let items = c.turns.items.items in
    let pushed = c.in_ok-push.ensures.items in (
      omega (arith, c.turns.invariant.0, c.in_ok-item.ensures.shorter),
      goes_on c.turns.invariant.1 c.in_ok-item.item c.in_ok-item.after.now (drop 1 c.push.new.self.items) (sym c.next_is.ensures ∙ c.turns-test.true) c.in_ok-item.ensures.gives c.in_ok-item.ensures.shorter (ap (drop 1) pushed ∙ pushed_behind items c.in_ok-item.item c.turns.invariant.3),
      rw pushed (All-push IsWholeParam items c.in_ok-item.item c.turns.invariant.2 c.in_ok-item.ensures.whole),
      rw pushed (omega (arith, length-append items (c.in_ok-item.item ∷ []))),
      rw pushed (first_stays items c.in_ok-item.item c.turns.invariant.3 ∙ c.turns.invariant.4),
    )

pub returns-clause-gives : goal.returns-clause-gives
returns-clause-gives c = ends c.turns.invariant.1 (sym c.next_is.ensures ∙ c.turns-test.false)
