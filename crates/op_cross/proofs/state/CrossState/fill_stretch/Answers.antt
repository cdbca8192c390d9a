use Rattle.std.proofs.Common.{◌≡◌, ◌<◌, ◌≤◌, ◌∙◌, ◌++◌, Some, true, length, map, take, arith, refl, subst, sym, ap}
use Rattle.std.proofs.lemmas.List.{length-append}
use Rattle.cell_ring.specs.Rings.{Ring, inner_cells}
use Rattle.cell_ring.proofs.Runs.{long_run}
use Rattle.op_cross.specs.Crossfade.{cross}
use Rattle.op_cross.specs.States.{StandsFor, left, track_room, wants}
use Rattle.op_cross.proofs.Filled.{wanting}
use Rattle.op_cross.proofs.Running.{run_complete, run_going, run_joining, run_over, runs_inner}
use Rattle.op_cross.proofs.Passing.{fewer_by, joined_is, less_left, over_is}
use Rattle.op_cross.specs.contracts.state.CrossState.{the_view}
use Rattle.op_cross.proofs.state.CrossState.fill_stretch.Goals as goal

pub returns-then-len-clause-filled : goal.returns-then-len-clause-filled
returns-then-len-clause-filled c = λ slots p stands.
    let before : StandsFor (the_view c.self.inside) slots p = subst (λ s. StandsFor s slots p) (sym c.self.view_is) stands in
    let wanted : wants (the_view c.self.inside) ≡ true = subst (λ s. wants s ≡ true) (sym c.self.view_is) c.requires.wants in
    let w = wanting (the_view c.self.inside) slots p c.self.invariant.0 before wanted in
    let run = inner_cells c.args.title c.args.lefts.now c.args.rights.now in
    let long : length run ≡ length c.args.lefts.now = long_run c.args.title c.args.lefts.now c.args.rights.now c.requires.same in
    let some : 0 < length c.self.inside.next.cells = omega (arith, c.if-len-gt0.true, c.len.ensures.len) in
    run_complete (the_view c.self.inside) _ slots p run before w refl (runs_inner c.args.title c.args.lefts.now c.args.rights.now) some
    (let pushed = ap (λ (r : Ring). length r.cells) c.push_inner.ensures in omega (arith, pushed, c.if-len.true, c.len-then-len-gt0.ensures.len, c.len-then-len-gt0-2.ensures.len))
    refl (ap (λ (r : Ring). r.cells) c.push_inner.ensures) c.len-self-inside-then-len.ensures.len c.len-self-inside.ensures.len w.gap

pub returns-then-len-clause-least : goal.returns-then-len-clause-least
returns-then-len-clause-least c = λ slots p m stands less.
    let before : StandsFor (the_view c.self.inside) slots p = subst (λ s. StandsFor s slots p) (sym c.self.view_is) stands in
    let wanted : wants (the_view c.self.inside) ≡ true = subst (λ s. wants s ≡ true) (sym c.self.view_is) c.requires.wants in
    let run = inner_cells c.args.title c.args.lefts.now c.args.rights.now in
    let long : length run ≡ length c.args.lefts.now = long_run c.args.title c.args.lefts.now c.args.rights.now c.requires.same in
    let few : length c.args.lefts.now ≤ track_room (the_view c.self.inside) = subst (λ s. length c.args.lefts.now ≤ track_room s) (sym c.self.view_is) c.requires.few in
    subst (λ s. length (cross s.overlap (slots ++ map Some (take m run))) ≤ p) c.self.view_is
    (fewer_by (the_view c.self.inside) slots p m (length c.args.lefts.now) run long c.self.invariant.0 before wanted (runs_inner c.args.title c.args.lefts.now c.args.rights.now) few less)

pub returns-else-len-clause-filled : goal.returns-else-len-clause-filled
returns-else-len-clause-filled c = λ slots p stands.
    let before : StandsFor (the_view c.self.inside) slots p = subst (λ s. StandsFor s slots p) (sym c.self.view_is) stands in
    let wanted : wants (the_view c.self.inside) ≡ true = subst (λ s. wants s ≡ true) (sym c.self.view_is) c.requires.wants in
    let w = wanting (the_view c.self.inside) slots p c.self.invariant.0 before wanted in
    let run = inner_cells c.args.title c.args.lefts.now c.args.rights.now in
    let long : length run ≡ length c.args.lefts.now = long_run c.args.title c.args.lefts.now c.args.rights.now c.requires.same in
    let some : 0 < length c.self.inside.next.cells = omega (arith, c.if-len-gt0.true, c.len.ensures.len) in
    run_joining (the_view c.self.inside) _ slots p run before w refl (runs_inner c.args.title c.args.lefts.now c.args.rights.now) some
    refl (ap (λ (r : Ring). r.cells) c.push_inner.ensures) w.ready w.gap

pub returns-else-len-clause-least : goal.returns-else-len-clause-least
returns-else-len-clause-least c = λ slots p m stands less.
    let before : StandsFor (the_view c.self.inside) slots p = subst (λ s. StandsFor s slots p) (sym c.self.view_is) stands in
    let wanted : wants (the_view c.self.inside) ≡ true = subst (λ s. wants s ≡ true) (sym c.self.view_is) c.requires.wants in
    let run = inner_cells c.args.title c.args.lefts.now c.args.rights.now in
    let long : length run ≡ length c.args.lefts.now = long_run c.args.title c.args.lefts.now c.args.rights.now c.requires.same in
    let few : length c.args.lefts.now ≤ track_room (the_view c.self.inside) = subst (λ s. length c.args.lefts.now ≤ track_room s) (sym c.self.view_is) c.requires.few in
    subst (λ s. length (cross s.overlap (slots ++ map Some (take m run))) ≤ p) c.self.view_is
    (fewer_by (the_view c.self.inside) slots p m (length c.args.lefts.now) run long c.self.invariant.0 before wanted (runs_inner c.args.title c.args.lefts.now c.args.rights.now) few less)

pub returns-then-len-self-clause-filled : goal.returns-then-len-self-clause-filled
returns-then-len-self-clause-filled c = λ slots p stands.
    let before : StandsFor (the_view c.self.inside) slots p = subst (λ s. StandsFor s slots p) (sym c.self.view_is) stands in
    let wanted : wants (the_view c.self.inside) ≡ true = subst (λ s. wants s ≡ true) (sym c.self.view_is) c.requires.wants in
    let w = wanting (the_view c.self.inside) slots p c.self.invariant.0 before wanted in
    let run = inner_cells c.args.title c.args.lefts.now c.args.rights.now in
    let long : length run ≡ length c.args.lefts.now = long_run c.args.title c.args.lefts.now c.args.rights.now c.requires.same in
    let none : length c.self.inside.next.cells ≡ 0 = omega (arith, c.if-len-gt0.false, c.len.ensures.len) in
    run_over (the_view c.self.inside) _ slots p run before w refl c.self.invariant.0.overlap.0 (runs_inner c.args.title c.args.lefts.now c.args.rights.now) none
    (let pushed = ap (λ (r : Ring). length r.cells) c.push_inner-else-len-gt0.ensures in omega (arith, pushed, c.if-len-self.true, c.len-else-len-gt0.ensures.len))
    (ap (λ (r : Ring). r.cells) c.push_inner-else-len-gt0.ensures) refl refl w.gap

pub returns-then-len-self-clause-least : goal.returns-then-len-self-clause-least
returns-then-len-self-clause-least c = λ slots p m stands less.
    let before : StandsFor (the_view c.self.inside) slots p = subst (λ s. StandsFor s slots p) (sym c.self.view_is) stands in
    let wanted : wants (the_view c.self.inside) ≡ true = subst (λ s. wants s ≡ true) (sym c.self.view_is) c.requires.wants in
    let run = inner_cells c.args.title c.args.lefts.now c.args.rights.now in
    let long : length run ≡ length c.args.lefts.now = long_run c.args.title c.args.lefts.now c.args.rights.now c.requires.same in
    let few : length c.args.lefts.now ≤ track_room (the_view c.self.inside) = subst (λ s. length c.args.lefts.now ≤ track_room s) (sym c.self.view_is) c.requires.few in
    subst (λ s. length (cross s.overlap (slots ++ map Some (take m run))) ≤ p) c.self.view_is
    (fewer_by (the_view c.self.inside) slots p m (length c.args.lefts.now) run long c.self.invariant.0 before wanted (runs_inner c.args.title c.args.lefts.now c.args.rights.now) few less)

pub returns-else-len-self-clause-filled : goal.returns-else-len-self-clause-filled
returns-else-len-self-clause-filled c = λ slots p stands.
    let before : StandsFor (the_view c.self.inside) slots p = subst (λ s. StandsFor s slots p) (sym c.self.view_is) stands in
    let wanted : wants (the_view c.self.inside) ≡ true = subst (λ s. wants s ≡ true) (sym c.self.view_is) c.requires.wants in
    let w = wanting (the_view c.self.inside) slots p c.self.invariant.0 before wanted in
    let run = inner_cells c.args.title c.args.lefts.now c.args.rights.now in
    let long : length run ≡ length c.args.lefts.now = long_run c.args.title c.args.lefts.now c.args.rights.now c.requires.same in
    let none : length c.self.inside.next.cells ≡ 0 = omega (arith, c.if-len-gt0.false, c.len.ensures.len) in
    run_going (the_view c.self.inside) _ slots p run before w refl (runs_inner c.args.title c.args.lefts.now c.args.rights.now) none
    (ap (λ (r : Ring). r.cells) c.push_inner-else-len-gt0.ensures) refl w.ready w.gap

pub returns-else-len-self-clause-least : goal.returns-else-len-self-clause-least
returns-else-len-self-clause-least c = λ slots p m stands less.
    let before : StandsFor (the_view c.self.inside) slots p = subst (λ s. StandsFor s slots p) (sym c.self.view_is) stands in
    let wanted : wants (the_view c.self.inside) ≡ true = subst (λ s. wants s ≡ true) (sym c.self.view_is) c.requires.wants in
    let run = inner_cells c.args.title c.args.lefts.now c.args.rights.now in
    let long : length run ≡ length c.args.lefts.now = long_run c.args.title c.args.lefts.now c.args.rights.now c.requires.same in
    let few : length c.args.lefts.now ≤ track_room (the_view c.self.inside) = subst (λ s. length c.args.lefts.now ≤ track_room s) (sym c.self.view_is) c.requires.few in
    subst (λ s. length (cross s.overlap (slots ++ map Some (take m run))) ≤ p) c.self.view_is
    (fewer_by (the_view c.self.inside) slots p m (length c.args.lefts.now) run long c.self.invariant.0 before wanted (runs_inner c.args.title c.args.lefts.now c.args.rights.now) few less)

pub invariant_of-self-else-len : goal.invariant_of-self-else-len
invariant_of-self-else-len c =
    let wanted : wants (the_view c.self.inside) ≡ true = subst (λ s. wants s ≡ true) (sym c.self.view_is) c.requires.wants in
    let run = inner_cells c.args.title c.args.lefts.now c.args.rights.now in
    let long : length run ≡ length c.args.lefts.now = long_run c.args.title c.args.lefts.now c.args.rights.now c.requires.same in
    let few : length c.args.lefts.now ≤ track_room (the_view c.self.inside) = subst (λ s. length c.args.lefts.now ≤ track_room s) (sym c.self.view_is) c.requires.few in
    let some : 0 < length c.self.inside.next.cells = omega (arith, c.if-len-gt0.true, c.len.ensures.len) in (
      joined_is (the_view c.self.inside) _ run (length c.args.lefts.now) c.self.invariant.0 wanted long few some (ap (λ (r : Ring). length r.cells) c.push_inner.ensures)
          (λ e. c.if-len.false (c.len-then-len-gt0.ensures.len ∙ e ∙ sym c.len-then-len-gt0-2.ensures.len)) refl refl refl refl refl,
      c.self.invariant.1,
      ap (λ (r : Ring). r.room) c.push_inner.ensures ∙ c.self.invariant.2,
    )

pub invariant_of-self-then-len-self : goal.invariant_of-self-then-len-self
invariant_of-self-then-len-self c =
    let wanted : wants (the_view c.self.inside) ≡ true = subst (λ s. wants s ≡ true) (sym c.self.view_is) c.requires.wants in
    let run = inner_cells c.args.title c.args.lefts.now c.args.rights.now in
    let long : length run ≡ length c.args.lefts.now = long_run c.args.title c.args.lefts.now c.args.rights.now c.requires.same in
    let few : length c.args.lefts.now ≤ track_room (the_view c.self.inside) = subst (λ s. length c.args.lefts.now ≤ track_room s) (sym c.self.view_is) c.requires.few in
    let none : length c.self.inside.next.cells ≡ 0 = omega (arith, c.if-len-gt0.false, c.len.ensures.len) in (
      over_is (the_view c.self.inside) _ run (length c.args.lefts.now) c.self.invariant.0 wanted long few none (ap (λ (r : Ring). length r.cells) c.push_inner-else-len-gt0.ensures)
          (omega (arith, c.if-len-self.true, c.len-else-len-gt0.ensures.len)) refl refl refl refl refl,
      ap (λ (r : Ring). r.room) c.push_inner-else-len-gt0.ensures ∙ c.self.invariant.1,
      c.self.invariant.2,
    )

pub returns-else-len-clause-less : goal.returns-else-len-clause-less
returns-else-len-clause-less c = λ more.
    let wanted : wants (the_view c.self.inside) ≡ true = subst (λ s. wants s ≡ true) (sym c.self.view_is) c.requires.wants in
    let run = inner_cells c.args.title c.args.lefts.now c.args.rights.now in
    let long : length run ≡ length c.args.lefts.now = long_run c.args.title c.args.lefts.now c.args.rights.now c.requires.same in
    let all = length-append c.self.inside.next.cells run in
    let pushed = ap (λ (r : Ring). length r.cells) c.push_inner.ensures in
    subst (λ s. left (the_view record { overlap = c.self.inside.overlap; cells = c.self.inside.cells; next = c.push_inner.new.self; ready = c.self.inside.ready; whole = c.self.inside.whole; gap = c.self.inside.gap }) < left s) c.self.view_is
    (less_left (the_view c.self.inside) (the_view record { overlap = c.self.inside.overlap; cells = c.self.inside.cells; next = c.push_inner.new.self; ready = c.self.inside.ready; whole = c.self.inside.whole; gap = c.self.inside.gap }) (length c.args.lefts.now) c.self.invariant.0 wanted refl (omega (arith, pushed, all, long)) more)

pub returns-else-len-self-clause-less : goal.returns-else-len-self-clause-less
returns-else-len-self-clause-less c = λ more.
    let wanted : wants (the_view c.self.inside) ≡ true = subst (λ s. wants s ≡ true) (sym c.self.view_is) c.requires.wants in
    let run = inner_cells c.args.title c.args.lefts.now c.args.rights.now in
    let long : length run ≡ length c.args.lefts.now = long_run c.args.title c.args.lefts.now c.args.rights.now c.requires.same in
    let all = length-append c.self.inside.cells.cells run in
    let pushed = ap (λ (r : Ring). length r.cells) c.push_inner-else-len-gt0.ensures in
    subst (λ s. left (the_view record { overlap = c.self.inside.overlap; cells = c.push_inner-else-len-gt0.new.self; next = c.self.inside.next; ready = c.self.inside.ready; whole = c.self.inside.whole; gap = c.self.inside.gap }) < left s) c.self.view_is
    (less_left (the_view c.self.inside) (the_view record { overlap = c.self.inside.overlap; cells = c.push_inner-else-len-gt0.new.self; next = c.self.inside.next; ready = c.self.inside.ready; whole = c.self.inside.whole; gap = c.self.inside.gap }) (length c.args.lefts.now) c.self.invariant.0 wanted refl (omega (arith, pushed, all, long)) more)
