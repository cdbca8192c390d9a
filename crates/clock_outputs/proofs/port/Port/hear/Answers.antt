use Rattle.std.proofs.Common.{◌≡◌, ◌∙◌, Some, length, map, to_z, of_z, w16, FitsSigned, ap, sym, subst, rules}
use Rattle.std.proofs.lemmas.Int.{to_z-of_z}
use Rattle.cell_ring.specs.Rings.{inner_cell, inner_cells}
use Rattle.clock_outputs.specs.Ports.{HasRoomLeft, after_slot, after_slots}
use Rattle.clock_outputs.specs.Segments.{segment_slots}
use Rattle.clock_outputs.proofs.Pieces.{room_after}
use Rattle.clock_outputs.proofs.port.Port.hear.Goals as goal

pub hear_cells-requires-in-Some-clause-room : goal.hear_cells-requires-in-Some-clause-room
hear_cells-requires-in-Some-clause-room c =
    let port = c.args.self.now in
    let cell = c.in-Some.cell in
    let fits_left : FitsSigned w16 cell.left = search rules in
    let fits_right : FitsSigned w16 cell.right = search rules in
    let after : c.hear_cells.new.self ≡ after_slot port (Some cell) =
    c.hear_cells.ensures cell.title
    ∙ ap (λ l. after_slot port (Some (inner_cell cell.title l (to_z w16 (of_z w16 cell.right))))) (to_z-of_z w16 cell.left fits_left)
    ∙ ap (λ r. after_slot port (Some (inner_cell cell.title cell.left r))) (to_z-of_z w16 cell.right fits_right) in
    subst (λ p. HasRoomLeft (length c.args.left.now) p) (sym after) (room_after port cell (length c.args.left.now) c.requires.room)

pub returns-in-Some : goal.returns-in-Some
returns-in-Some c =
    let port = c.args.self.now in
    let cell = c.in-Some.cell in
    let fits_left : FitsSigned w16 cell.left = search rules in
    let fits_right : FitsSigned w16 cell.right = search rules in
    let after : c.hear_cells.new.self ≡ after_slot port (Some cell) =
    c.hear_cells.ensures cell.title
    ∙ ap (λ l. after_slot port (Some (inner_cell cell.title l (to_z w16 (of_z w16 cell.right))))) (to_z-of_z w16 cell.left fits_left)
    ∙ ap (λ r. after_slot port (Some (inner_cell cell.title cell.left r))) (to_z-of_z w16 cell.right fits_right) in
    c.hear_cells-in-Some.ensures cell.title
    ∙ ap (λ p. after_slots p (map Some (inner_cells cell.title c.args.left.now c.args.right.now))) after
    ∙ sym (ap (λ s. after_slots port (segment_slots s (length c.args.left.now) c.args.left.now c.args.right.now)) c.in-Some.is)
