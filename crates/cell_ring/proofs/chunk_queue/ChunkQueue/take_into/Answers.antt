use Rattle.std.proofs.Common.{◌≡◌, ◌≤◌, ◌+◌, ◌-◌, ◌∙◌, ◌++◌, ℤ, length, map, take, drop, arith, ap, refl}
use Rattle.std.proofs.lemmas.List.{length-take}
use Rattle.frame_core.specs.declared.cell.Cell.{Cell}
use Rattle.frame_core.specs.MarkRuns.{marks_in}
use Rattle.cell_ring.specs.Rings.{Ring, spare_cells}
use Rattle.cell_ring.proofs.Lanes.{left_part, right_part}
use Rattle.cell_ring.proofs.Parts.{two_parts}
use Rattle.cell_ring.proofs.Queues.{gone_on, held_cells}
use Rattle.cell_ring.proofs.chunk_queue.ChunkQueue.take_into.Goals as goal

pub returns-clause-left : goal.returns-clause-left
returns-clause-left c =
    let f : Cell → ℤ = λ cell. cell.left in
    let front = c.self.inside.ring.cells in
    let back = spare_cells c.self.inside.spare c.self.inside.gone in
    let count = length c.args.left.now in
    let first = c.min-first.result in
    let back_long : length c.split_at_mut-left_front.result.1.now ≡ count - first = omega (arith, c.split_at_mut-left_front.ensures.back_len) in
    ap (λ l. l ++ c.copy_from_slice.new.self) (c.take_into.ensures.left ∙ ap (λ n. map f (take n front)) c.split_at_mut-left_front.ensures.front_len)
    ∙ ap (λ l. map f (take first front) ++ l) (c.copy_from_slice.ensures.after ∙ left_part (length c.split_at_mut-left_front.result.1.now) c.spare_of.result.0.now c.spare_of.result.1.now (drop c.spare_of.result.3 (marks_in c.spare_of.result.2.now)) c.spare_of.ensures.same.0 c.spare_of.ensures.same.1
    ∙ ap (λ l. map f (take (length c.split_at_mut-left_front.result.1.now) l)) c.spare_of.ensures.cells ∙ ap (λ n. map f (take n back)) back_long)
    ∙ two_parts f front back (front ++ back) first count refl (omega (arith, c.min-first.ensures, c.len.ensures.len))
    ∙ ap (λ (r : Ring). map f (take count r.cells)) c.self.view_is

pub returns-clause-right : goal.returns-clause-right
returns-clause-right c =
    let f : Cell → ℤ = λ cell. cell.right in
    let front = c.self.inside.ring.cells in
    let back = spare_cells c.self.inside.spare c.self.inside.gone in
    let count = length c.args.left.now in
    let first = c.min-first.result in
    let back_long : length c.split_at_mut-left_front.result.1.now ≡ count - first = omega (arith, c.split_at_mut-left_front.ensures.back_len) in
    ap (λ l. l ++ c.copy_from_slice-2.new.self) (c.take_into.ensures.right ∙ ap (λ n. map f (take n front)) c.split_at_mut-left_front.ensures.front_len)
    ∙ ap (λ l. map f (take first front) ++ l) (c.copy_from_slice-2.ensures.after ∙ right_part (length c.split_at_mut-left_front.result.1.now) c.spare_of.result.0.now c.spare_of.result.1.now (drop c.spare_of.result.3 (marks_in c.spare_of.result.2.now)) c.spare_of.ensures.same.0 c.spare_of.ensures.same.1
    ∙ ap (λ l. map f (take (length c.split_at_mut-left_front.result.1.now) l)) c.spare_of.ensures.cells ∙ ap (λ n. map f (take n back)) back_long)
    ∙ two_parts f front back (front ++ back) first count refl (omega (arith, c.min-first.ensures, c.len.ensures.len))
    ∙ ap (λ (r : Ring). map f (take count r.cells)) c.self.view_is

pub returns-clause-rest : goal.returns-clause-rest
returns-clause-rest c =
    let spare = c.self.inside.spare in
    let gone = c.self.inside.gone in
    let first = length c.split_at_mut-left_front.result.0.now in
    let behind = length c.split_at_mut-left_front.result.1.now in
    let count = length c.args.left.now in
    let parts = c.split_at_mut-left_front.ensures in
    ap (λ (r : Ring). record { cells = r.cells ++ spare_cells spare (gone + behind); room = r.room }) c.take_into.ensures.rest
    ∙ ap (λ l. record { cells = l; room = c.self.inside.ring.room })
    (gone_on c.self.inside.ring.cells spare gone first behind count (omega (arith, parts.front_len, c.min-first.ensures, c.len.ensures.len)) (omega (arith, parts.front_len, parts.back_len)))
    ∙ ap (λ (r : Ring). record { cells = drop count r.cells; room = r.room }) c.self.view_is

pub slice_bounds-copy_from_slice-end : goal.slice_bounds-copy_from_slice-end
slice_bounds-copy_from_slice-end c =
    let q = c.self.inside in
    let parts = c.spare_of.ensures in
    let held = held_cells q.ring.cells (spare_cells q.spare q.gone) c.args.self.now.cells c.spare_of.result.0.now c.spare_of.result.1.now (drop c.spare_of.result.3 (marks_in c.spare_of.result.2.now)) parts.same.0 parts.same.1 parts.cells
    (ap (λ (r : Ring). r.cells) c.self.view_is) in
    let halves = c.split_at_mut-left_front.ensures in
    let count = length c.split_at_mut-left_front.result.1.now in
    let there : count ≤ length c.spare_of.result.0.now = omega (arith, held, c.requires.there, parts.same.0, halves.back_len, c.min-first.ensures, c.len.ensures.len) in
    omega (arith, there, length-take count c.spare_of.result.0.now)

pub copy_from_slice-requires : goal.copy_from_slice-requires
copy_from_slice-requires c =
    let q = c.self.inside in
    let parts = c.spare_of.ensures in
    let held = held_cells q.ring.cells (spare_cells q.spare q.gone) c.args.self.now.cells c.spare_of.result.0.now c.spare_of.result.1.now (drop c.spare_of.result.3 (marks_in c.spare_of.result.2.now)) parts.same.0 parts.same.1 parts.cells
    (ap (λ (r : Ring). r.cells) c.self.view_is) in
    let halves = c.split_at_mut-left_front.ensures in
    let count = length c.split_at_mut-left_front.result.1.now in
    let there : count ≤ length c.spare_of.result.0.now = omega (arith, held, c.requires.there, parts.same.0, halves.back_len, c.min-first.ensures, c.len.ensures.len) in
    omega (arith, there, length-take count c.spare_of.result.0.now)
