use Rattle.std.proofs.Common.{◌≡◌, ◌<◌, ◌-◌, ◌∙◌, false, Some, None, length, drop, arith, refl, subst, sym, ap}
use Rattle.frame_core.specs.Slots.{slot_at}
use Rattle.op_cross.specs.Crossfade.{cross}
use Rattle.op_cross.specs.States.{StandsFor, wants}
use Rattle.op_cross.proofs.Standing.{item_now, none_offered, plain_gone, mixed_gone, gap_gone, goes_on, stays, ends_gap, some_offered}
use Rattle.op_cross.specs.contracts.state.CrossState.{the_view}
use Rattle.op_cross.proofs.state.CrossState.advance.Goals.{then-len-self, else-len-self}
use Rattle.op_cross.proofs.state.CrossState.advance.Goals as goal

pub returns-then-self-eq0-clause-stands : goal.returns-then-self-eq0-clause-stands
returns-then-self-eq0-clause-stands c = λ slots p stands.
    let before : StandsFor (the_view c.self.inside) slots p = subst (λ s. StandsFor s slots p) (sym c.self.view_is) stands in
    let empty : slot_at (cross c.args.self.now.overlap slots) p ≡ None =
    ap (λ s. slot_at (cross s.overlap slots) p) (sym c.self.view_is) ∙ item_now (the_view c.self.inside) slots p c.self.invariant.0 before ∙ none_offered (the_view c.self.inside) c.if-self-eq0.true in
    let settled : wants (the_view c.self.inside) ≡ false = subst (λ s. wants s ≡ false) (sym c.self.view_is) c.requires in
    rw empty
    (gap_gone (the_view c.self.inside) _ slots p before c.if-self-eq0.true (ends_gap (the_view c.self.inside) settled c.if-self-eq0.true) refl refl refl refl refl)

pub returns-after-len-self-clause-stands : goal.returns-after-len-self-clause-stands
returns-after-len-self-clause-stands c = elim c.if-len-self.branch [
  | then-len-self w ↦ λ slots p stands.
      let before : StandsFor (the_view c.self.inside) slots p = subst (λ s. StandsFor s slots p) (sym c.self.view_is) stands in
      let more = goes_on c.args.gave (slot_at (cross c.args.self.now.overlap slots) p) p c.if-gave.true in
      let all : length c.self.inside.next.cells ≡ c.self.inside.ready = omega (arith, w.if-len-self.true, c.len.ensures.len) in
      rw more
      (mixed_gone (the_view c.self.inside) _ slots p c.self.invariant.0 before all (omega (arith, c.if-self-eq0.false))
      (ap (λ s. s.overlap) w.self-inside-is)
      (ap (λ r. r.cells) c.pop-then-gave.ensures ∙ ap (λ s. drop 1 s.cells.cells) w.self-inside-is)
      (ap (λ s. s.next.cells) w.self-inside-is ∙ ap (λ r. r.cells) w.pop.ensures)
      (ap (λ s. s.ready - 1) w.self-inside-is)
      (ap (λ s. s.whole) w.self-inside-is)
      (ap (λ s. s.gap) w.self-inside-is))
  | else-len-self w ↦ λ slots p stands.
      let before : StandsFor (the_view c.self.inside) slots p = subst (λ s. StandsFor s slots p) (sym c.self.view_is) stands in
      let more = goes_on c.args.gave (slot_at (cross c.args.self.now.overlap slots) p) p c.if-gave.true in
      let mixing = c.self.invariant.0.mixing (omega (arith, c.if-self-eq0.false)) in
      let few : length c.self.inside.next.cells < c.self.inside.ready = omega (arith, w.if-len-self.false, c.len.ensures.len, mixing.0) in
      rw more
      (plain_gone (the_view c.self.inside) _ slots p c.self.invariant.0 before few
      (ap (λ s. s.overlap) w.self-inside-is)
      (ap (λ r. r.cells) c.pop-then-gave.ensures ∙ ap (λ s. drop 1 s.cells.cells) w.self-inside-is)
      (ap (λ s. s.next.cells) w.self-inside-is)
      (ap (λ s. s.ready - 1) w.self-inside-is)
      (ap (λ s. s.whole) w.self-inside-is)
      (ap (λ s. s.gap) w.self-inside-is))
]

pub returns-else-gave-clause-stands : goal.returns-else-gave-clause-stands
returns-else-gave-clause-stands c = λ slots p stands.
    let before : StandsFor (the_view c.self.inside) slots p = subst (λ s. StandsFor s slots p) (sym c.self.view_is) stands in
    let cell = some_offered (the_view c.self.inside) c.self.invariant.0 (omega (arith, c.if-self-eq0.false)) in
    let item : slot_at (cross c.args.self.now.overlap slots) p ≡ Some cell.0 =
    ap (λ s. slot_at (cross s.overlap slots) p) (sym c.self.view_is) ∙ item_now (the_view c.self.inside) slots p c.self.invariant.0 before ∙ cell.1 in
    let same = stays c.args.gave (slot_at (cross c.args.self.now.overlap slots) p) cell.0 p c.if-gave.false item in
    rw same stands
