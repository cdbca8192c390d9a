use Rattle.std.proofs.Common.{◌≡◌, ◌+◌, ◌∙◌, ◌++◌, Some, true, length, map, take, drop, arith, refl, subst, sym, ap}
use Rattle.std.proofs.lemmas.List.{length-take}
use Rattle.cell_ring.specs.Rings.{Ring, inner_cells}
use Rattle.cell_ring.proofs.Runs.{long_run}
use Rattle.op_cross.specs.Crossfade.{cross}
use Rattle.frame_core.specs.Slots.{slot_left, slot_right}
use Rattle.op_cross.specs.States.{StandsFor, passes}
use Rattle.op_cross.proofs.Running.{Passing, inner_part, passed_count, passed_lefts, passed_rights, passing, runs_inner}
use Rattle.op_cross.proofs.Passing.{long_now, passed_by, passes_still, rest_is, rest_long}
use Rattle.op_cross.specs.contracts.state.CrossState.{the_view}
use Rattle.op_cross.proofs.state.CrossState.pass.Goals as goal

pub take_into-requires-clause-there : goal.take_into-requires-clause-there
take_into-requires-clause-there c =
    let run = inner_cells c.args.title c.args.from_left.now c.args.from_right.now in
    let long : length run ≡ length c.args.left.now = long_run c.args.title c.args.from_left.now c.args.from_right.now c.requires.from ∙ sym c.requires.same.0 in
    long_now c.self.inside.cells.cells run c.push_inner.new.self c.self.inside.cells.room (length c.args.left.now) c.push_inner.ensures long

pub invariant_of-self : goal.invariant_of-self
invariant_of-self c =
    let pass : Passing (the_view c.self.inside) = passing (the_view c.self.inside) (subst (λ s. passes s ≡ true) (sym c.self.view_is) c.requires.passes) in
    let run = inner_cells c.args.title c.args.from_left.now c.args.from_right.now in
    let long : length run ≡ length c.args.left.now = long_run c.args.title c.args.from_left.now c.args.from_right.now c.requires.from ∙ sym c.requires.same.0 in
    let rest = ap (λ (r : Ring). r.cells) c.take_into.ensures.rest ∙ ap (λ (r : Ring). drop (length c.args.left.now) r.cells) c.push_inner.ensures in (
      rest_is (the_view c.self.inside) _ c.self.invariant.0 pass refl refl (rest_long c.self.inside.cells.cells run c.take_into.new.self.cells (length c.args.left.now) rest long) refl refl refl refl,
      ap (λ (r : Ring). r.room) c.take_into.ensures.rest ∙ ap (λ (r : Ring). r.room) c.push_inner.ensures ∙ c.self.invariant.1,
      c.self.invariant.2,
    )

pub returns-clause-passes : goal.returns-clause-passes
returns-clause-passes c =
    let pass : Passing (the_view c.self.inside) = passing (the_view c.self.inside) (subst (λ s. passes s ≡ true) (sym c.self.view_is) c.requires.passes) in
    let run = inner_cells c.args.title c.args.from_left.now c.args.from_right.now in
    let long : length run ≡ length c.args.left.now = long_run c.args.title c.args.from_left.now c.args.from_right.now c.requires.from ∙ sym c.requires.same.0 in
    let rest = ap (λ (r : Ring). r.cells) c.take_into.ensures.rest ∙ ap (λ (r : Ring). drop (length c.args.left.now) r.cells) c.push_inner.ensures in
    passes_still (the_view c.self.inside) (the_view record { overlap = c.self.inside.overlap; cells = c.take_into.new.self; next = c.self.inside.next; ready = c.self.inside.ready; whole = c.self.inside.whole; gap = c.self.inside.gap }) pass refl (rest_long c.self.inside.cells.cells run c.take_into.new.self.cells (length c.args.left.now) rest long) refl refl

pub returns-clause-stands : goal.returns-clause-stands
returns-clause-stands c = λ slots p stands.
    let before : StandsFor (the_view c.self.inside) slots p = subst (λ s. StandsFor s slots p) (sym c.self.view_is) stands in
    let pass : Passing (the_view c.self.inside) = passing (the_view c.self.inside) (subst (λ s. passes s ≡ true) (sym c.self.view_is) c.requires.passes) in
    let run = inner_cells c.args.title c.args.from_left.now c.args.from_right.now in
    let long : length run ≡ length c.args.from_left.now = long_run c.args.title c.args.from_left.now c.args.from_right.now c.requires.from in
    let rest = ap (λ (r : Ring). r.cells) c.take_into.ensures.rest ∙ ap (λ (r : Ring). drop (length c.args.left.now) r.cells) c.push_inner.ensures
    ∙ ap (λ n. drop n (c.self.inside.cells.cells ++ run)) c.requires.same.0 in
    passed_by (the_view c.self.inside) (the_view record { overlap = c.self.inside.overlap; cells = c.take_into.new.self; next = c.self.inside.next; ready = c.self.inside.ready; whole = c.self.inside.whole; gap = c.self.inside.gap }) slots p (length c.args.from_left.now) run long c.self.invariant.0 before pass (runs_inner c.args.title c.args.from_left.now c.args.from_right.now) refl rest refl refl refl

pub returns-clause-least : goal.returns-clause-least
returns-clause-least c = λ slots p m stands few.
    let before : StandsFor (the_view c.self.inside) slots p = subst (λ s. StandsFor s slots p) (sym c.self.view_is) stands in
    let pass : Passing (the_view c.self.inside) = passing (the_view c.self.inside) (subst (λ s. passes s ≡ true) (sym c.self.view_is) c.requires.passes) in
    let run = inner_cells c.args.title c.args.from_left.now c.args.from_right.now in
    let long : length run ≡ length c.args.from_left.now = long_run c.args.title c.args.from_left.now c.args.from_right.now c.requires.from in
    let taken = length-take m run in
    let count = passed_count (the_view c.self.inside) slots p (take m run) c.self.invariant.0 before pass (inner_part m run (runs_inner c.args.title c.args.from_left.now c.args.from_right.now)) in
    subst (λ s. length (cross s.overlap (slots ++ map Some (take m run))) ≡ p + m) c.self.view_is (count ∙ omega (arith, taken, long, few))

pub returns-clause-left : goal.returns-clause-left
returns-clause-left c = λ slots p stands.
    let before : StandsFor (the_view c.self.inside) slots p = subst (λ s. StandsFor s slots p) (sym c.self.view_is) stands in
    let pass : Passing (the_view c.self.inside) = passing (the_view c.self.inside) (subst (λ s. passes s ≡ true) (sym c.self.view_is) c.requires.passes) in
    let run = inner_cells c.args.title c.args.from_left.now c.args.from_right.now in
    let same : length c.args.left.now ≡ length run = c.requires.same.0 ∙ sym (long_run c.args.title c.args.from_left.now c.args.from_right.now c.requires.from) in
    c.take_into.ensures.left
    ∙ ap (λ (r : Ring). map (λ cell. cell.left) (take (length c.args.left.now) r.cells)) c.push_inner.ensures
    ∙ ap (λ n. map (λ cell. cell.left) (take n (c.self.inside.cells.cells ++ run))) same
    ∙ passed_lefts (the_view c.self.inside) slots p run c.self.invariant.0 before pass (runs_inner c.args.title c.args.from_left.now c.args.from_right.now)
    ∙ ap (λ n. map slot_left (take n (drop p (cross c.self.inside.overlap (slots ++ map Some run))))) (sym same)
    ∙ ap (λ s. map slot_left (take (length c.args.left.now) (drop p (cross s.overlap (slots ++ map Some run))))) c.self.view_is

pub returns-clause-right : goal.returns-clause-right
returns-clause-right c = λ slots p stands.
    let before : StandsFor (the_view c.self.inside) slots p = subst (λ s. StandsFor s slots p) (sym c.self.view_is) stands in
    let pass : Passing (the_view c.self.inside) = passing (the_view c.self.inside) (subst (λ s. passes s ≡ true) (sym c.self.view_is) c.requires.passes) in
    let run = inner_cells c.args.title c.args.from_left.now c.args.from_right.now in
    let same : length c.args.left.now ≡ length run = c.requires.same.0 ∙ sym (long_run c.args.title c.args.from_left.now c.args.from_right.now c.requires.from) in
    c.take_into.ensures.right
    ∙ ap (λ (r : Ring). map (λ cell. cell.right) (take (length c.args.left.now) r.cells)) c.push_inner.ensures
    ∙ ap (λ n. map (λ cell. cell.right) (take n (c.self.inside.cells.cells ++ run))) same
    ∙ passed_rights (the_view c.self.inside) slots p run c.self.invariant.0 before pass (runs_inner c.args.title c.args.from_left.now c.args.from_right.now)
    ∙ ap (λ n. map slot_right (take n (drop p (cross c.self.inside.overlap (slots ++ map Some run))))) (sym same)
    ∙ ap (λ s. map slot_right (take (length c.args.left.now) (drop p (cross s.overlap (slots ++ map Some run))))) c.self.view_is
