use Rattle.std.proofs.Common.{◌≡◌, ◌+◌, ◌-◌, ◌∙◌, slice_get, arith, ap, sym}
use Rattle.frame_core.specs.Slots.{title_of}
use Rattle.cell_ring.specs.Rings.{has_title}
use Rattle.op_cross.proofs.state.of_one_title.Goals as goal

pub returns-clause-titled : goal.returns-clause-titled
returns-clause-titled c = λ j some low.
    let cells = c.args.ring.now.cells in
    let e : 1 + (j - 1) ≡ j = omega (arith, some) in
    let title = c.title_of.ensures ∙ ap title_of c.front.ensures in
    sym (ap (λ n. has_title (title_of (slice_get cells 0)) (slice_get cells n)) e)
    ∙ sym (ap (λ t. has_title t (slice_get cells (1 + (j - 1)))) title)
    ∙ c.titled.ensures.titled (j - 1) (omega (arith, some, low))
