use Rattle.std.proofs.Common.{◌≡◌, ◌<◌, ◌-◌, ◌∙◌, Some, None, arith, subst, sym, ap}
use Rattle.std.specs.Prelude.{slice_get}
use Rattle.frame_core.specs.Slots.{slot_at}
use Rattle.op_cross.specs.Crossfade.{mixed_cell, cross}
use Rattle.op_cross.specs.States.{StandsFor}
use Rattle.op_cross.proofs.Standing.{item_now, none_offered, plain_offered, mixed_offered, none_front}
use Rattle.op_cross.specs.contracts.state.CrossState.{the_view}
use Rattle.op_cross.proofs.state.CrossState.offer.Goals as goal

pub returns-then-self-eq0 : goal.returns-then-self-eq0
returns-then-self-eq0 c = record {
  item = λ slots p stands.
      let before : StandsFor (the_view c.self.inside) slots p = subst (λ s. StandsFor s slots p) (sym c.self.view_is) stands in
      let item = item_now (the_view c.self.inside) slots p c.self.invariant.0 before in
      let here = ap (λ s. slot_at (cross s.overlap slots) p) c.self.view_is in
      sym (none_offered (the_view c.self.inside) c.if-self-eq0.true) ∙ sym item ∙ here;
}

pub returns-then-len-self : goal.returns-then-len-self
returns-then-len-self c = record {
  item = λ slots p stands.
      let before : StandsFor (the_view c.self.inside) slots p = subst (λ s. StandsFor s slots p) (sym c.self.view_is) stands in
      let item = item_now (the_view c.self.inside) slots p c.self.invariant.0 before in
      let here = ap (λ s. slot_at (cross s.overlap slots) p) c.self.view_is in
      let front : slice_get c.self.inside.cells.cells 0 ≡ Some c.in_ok-cell.cell = sym c.in_ok-cell.ensures in
      sym (plain_offered (the_view c.self.inside) c.in_ok-cell.cell front (omega (arith, c.if-len-self.true, c.len.ensures.len))) ∙ sym item ∙ here;
}

pub returns-in_err-to : goal.returns-in_err-to
returns-in_err-to c = record {
  item = λ slots p stands.
      let front : slice_get c.self.inside.next.cells 0 ≡ None = sym c.in_err-to.ensures in
      absurd (let none = none_front c.self.inside.next.cells front in c.if-self-eq0.false (omega (arith, none, c.if-len-self.false, c.len.ensures.len)));
}

pub returns : goal.returns
returns c = record {
  item = λ slots p stands.
      let before : StandsFor (the_view c.self.inside) slots p = subst (λ s. StandsFor s slots p) (sym c.self.view_is) stands in
      let item = item_now (the_view c.self.inside) slots p c.self.invariant.0 before in
      let here = ap (λ s. slot_at (cross s.overlap slots) p) c.self.view_is in
      let front : slice_get c.self.inside.cells.cells 0 ≡ Some c.in_ok-cell.cell = sym c.in_ok-cell.ensures in
      let next : slice_get c.self.inside.next.cells 0 ≡ Some c.in_ok-to.to = sym c.in_ok-to.ensures in
      let some : 0 < c.self.inside.ready = omega (arith, c.if-self-eq0.false) in
      ap (λ cell. Some cell) c.mixed_cell.ensures
      ∙ ap (λ n. Some (mixed_cell c.in_ok-cell.cell c.in_ok-to.to (c.self.inside.whole - n) c.self.inside.whole)) c.len-2.ensures.len
      ∙ sym (mixed_offered (the_view c.self.inside) c.in_ok-cell.cell c.in_ok-to.to c.self.invariant.0 front next some (omega (arith, c.if-len-self.false, c.len.ensures.len)))
      ∙ sym item ∙ here;
}
