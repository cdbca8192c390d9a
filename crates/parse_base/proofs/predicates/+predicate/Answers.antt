use Rattle.std.proofs.Common.{◌≡◌, [], refl, sym, ◌∙◌, ◌-◌, arith, rules}
use Rattle.std.proofs.lemmas.List.Elements.{All-nil, All-push}
use Rattle.std.proofs.lemmas.Result.{err_from_is_err_and}
use Rattle.script_grammar.specs.Kinds.{is_or, is_and}
use Rattle.script_grammar.specs.Read.{next, behind}
use Rattle.script_grammar.specs.ReadPredicate.{pand, pnot, por_by}
use Rattle.script_grammar.specs.View.{view_pand, view_pnot}
use Rattle.script_grammar.specs.Whole.{IsWholePAnd, IsWholePNot}
use Rattle.parse_base.proofs.Turns.{begins, goes_on, fails, ends}
use Rattle.parse_base.proofs.Levels.{por_ends, por_turn}
use Rattle.parse_base.proofs.predicates.+predicate.Goals as goal

pub por-returns-then-levels-eq0 : goal.por-returns-then-levels-eq0
por-returns-then-levels-eq0 t c = record { shorter = search rules; gives = por_ends c.args.levels c.args.tokens.now (omega arith); whole = search rules }

pub por-returns-else-levels-eq0 : goal.por-returns-else-levels-eq0
por-returns-else-levels-eq0 t c = record {
  shorter = c.por_step.ensures.shorter;
  gives = rw (por_turn c.args.levels (c.args.levels - 1) c.args.tokens.now (omega arith)) c.por_step.ensures.gives;
  whole = c.por_step.ensures.whole;
}

pub pands-turns-init : goal.pands-turns-init
pands-turns-init t c =
    let none_yet : c.new-items.result.items ≡ [] = cc in
    (omega arith, begins view_pand (next is_or) (behind is_or (pand (por_by c.args.levels))) c.args.tokens.now c.new-items.result.items cc, rw none_yet (All-nil IsWholePAnd))

pub pands-returns-in_err-item-clause-gives : goal.pands-returns-in_err-item-clause-gives
pands-returns-in_err-item-clause-gives t c =
    let p = err_from_is_err_and c.from_residual.result c.from_residual.ensures.1 in
    rw (p.1, p.2) (fails c.turns.invariant.1 c.in_err-item.field-0.0 refl (sym c.next_is.ensures ∙ c.turns-test.true) c.in_err-item.ensures.gives)

pub pands-turns-preserved : goal.pands-turns-preserved
pands-turns-preserved t c = (
  omega (arith, c.turns.invariant.0, c.in_ok-item.ensures.shorter),
  goes_on c.turns.invariant.1 c.in_ok-item.item c.in_ok-item.after.now c.push.new.self.items (sym c.next_is.ensures ∙ c.turns-test.true) c.in_ok-item.ensures.gives c.in_ok-item.ensures.shorter c.in_ok-push.ensures.items,
  rw c.in_ok-push.ensures.items (All-push IsWholePAnd c.turns.items.items c.in_ok-item.item c.turns.invariant.2 c.in_ok-item.ensures.whole),
)

pub pands-returns-clause-gives : goal.pands-returns-clause-gives
pands-returns-clause-gives t c = ends c.turns.invariant.1 (sym c.next_is.ensures ∙ c.turns-test.false)

pub pnots-turns-init : goal.pnots-turns-init
pnots-turns-init t c =
    let none_yet : c.new-items.result.items ≡ [] = cc in
    (omega arith, begins view_pnot (next is_and) (behind is_and (pnot (por_by c.args.levels))) c.args.tokens.now c.new-items.result.items cc, rw none_yet (All-nil IsWholePNot))

pub pnots-returns-in_err-item-clause-gives : goal.pnots-returns-in_err-item-clause-gives
pnots-returns-in_err-item-clause-gives t c =
    let p = err_from_is_err_and c.from_residual.result c.from_residual.ensures.1 in
    rw (p.1, p.2) (fails c.turns.invariant.1 c.in_err-item.field-0.0 refl (sym c.next_is.ensures ∙ c.turns-test.true) c.in_err-item.ensures.gives)

pub pnots-turns-preserved : goal.pnots-turns-preserved
pnots-turns-preserved t c = (
  omega (arith, c.turns.invariant.0, c.in_ok-item.ensures.shorter),
  goes_on c.turns.invariant.1 c.in_ok-item.item c.in_ok-item.after.now c.push.new.self.items (sym c.next_is.ensures ∙ c.turns-test.true) c.in_ok-item.ensures.gives c.in_ok-item.ensures.shorter c.in_ok-push.ensures.items,
  rw c.in_ok-push.ensures.items (All-push IsWholePNot c.turns.items.items c.in_ok-item.item c.turns.invariant.2 c.in_ok-item.ensures.whole),
)

pub pnots-returns-clause-gives : goal.pnots-returns-clause-gives
pnots-returns-clause-gives t c = ends c.turns.invariant.1 (sym c.next_is.ensures ∙ c.turns-test.false)
