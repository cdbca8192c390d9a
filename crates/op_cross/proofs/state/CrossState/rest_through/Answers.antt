use Rattle.std.proofs.Common.{◌≡◌, ◌+◌, ◌∙◌, true, length, slice_get, arith, ap, sym, subst}
use Rattle.frame_core.specs.Slots.{goes_on}
use Rattle.op_cross.specs.States.{Crossing, passes}
use Rattle.op_cross.proofs.Running.{Passing, passing}
use Rattle.op_cross.specs.contracts.state.CrossState.{the_view}
use Rattle.op_cross.proofs.state.CrossState.rest_through.Goals as goal

pub returns-then-below_title-title-clause-held : goal.returns-then-below_title-title-clause-held
returns-then-below_title-title-clause-held c = λ j low there.
    let pass : Passing (the_view c.self.inside) = passing (the_view c.self.inside) (subst (λ s. passes s ≡ true) (sym c.self.view_is) c.requires.passes) in
    let full = pass.full in
    let same = ap (λ (s : Crossing). length s.cells) c.self.view_is in
    let held = c.if-held-self.true in
    let e : 0 + j ≡ j = omega arith in
    subst (λ (s : Crossing). goes_on c.args.title (slice_get s.cells j) ≡ true) c.self.view_is
    (sym (ap (λ n. goes_on c.args.title (slice_get c.self.inside.cells.cells n)) e)
    ∙ c.inner-held.ensures.inner j (omega (arith, there, held, full, same)))

pub returns-else-held-self-clause-held : goal.returns-else-held-self-clause-held
returns-else-held-self-clause-held c = λ j low there.
    let e : 0 + j ≡ j = omega arith in
    subst (λ (s : Crossing). goes_on c.args.title (slice_get s.cells j) ≡ true) c.self.view_is
    (sym (ap (λ n. goes_on c.args.title (slice_get c.self.inside.cells.cells n)) e) ∙ c.inner-held.ensures.inner j low)
