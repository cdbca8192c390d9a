use Rattle.std.proofs.Common.{◌≡◌, ◌<◌, ◌∙◌, false, Some, length, get_or, slice_get, ap, sym, arith}
use Rattle.std.proofs.lemmas.Int.{to_z-of_z}
use Rattle.std.proofs.lemmas.Option.{get_or_from_slice_get, slice_get-get_or}
use Rattle.frame_core.specs.declared.cell.CellMark.{CellMark}
use Rattle.frame_core.specs.MarkRuns.{marks_in}
use Rattle.frame_core.proofs.Chunks.{length-cells, read_cell}
use Rattle.frame_core.proofs.block.Block.cell.Goals as goal

pub unreachable-requires : goal.unreachable-requires
unreachable-requires c =
    let v = c.self.inside in
    let i = c.self.invariant in
    let marks = marks_in v.runs.items in
    let here : c.args.at < length marks = omega (arith, c.requires, length-cells v.left.items v.right.items marks i.0 i.1, ap length c.self.view_is) in
    let none : CellMark = record { first = false; title = 0 } in
    c.in_default.not-Some (get_or marks c.args.at none)
    (c.mark_at.ensures ∙ ap (λ l. slice_get (marks_in l) c.args.at) c.deref.ensures.value ∙ slice_get-get_or marks c.args.at none here)

pub index-requires : goal.index-requires
index-requires c =
    let v = c.self.inside in
    let i = c.self.invariant in
    omega (arith, c.requires, i.0, length-cells v.left.items v.right.items (marks_in v.runs.items) i.0 i.1, ap length c.self.view_is)

pub index-requires-2 : goal.index-requires-2
index-requires-2 c =
    let v = c.self.inside in
    let i = c.self.invariant in
    omega (arith, c.requires, i.1, length-cells v.left.items v.right.items (marks_in v.runs.items) i.0 i.1, ap length c.self.view_is)

pub returns : goal.returns
returns c =
    let v = c.self.inside in
    let i = c.self.invariant in
    let marks = marks_in v.runs.items in
    let here : c.args.at < length marks = omega (arith, c.requires, length-cells v.left.items v.right.items marks i.0 i.1, ap length c.self.view_is) in
    let there : slice_get marks c.args.at ≡ Some c.in-Some.mark = sym (c.mark_at.ensures ∙ ap (λ l. slice_get (marks_in l) c.args.at) c.deref.ensures.value) ∙ c.in-Some.is in
    let is = read_cell v.left.items v.right.items marks c.args.self.now c.args.at c.index.result.now c.index-2.result.now c.in-Some.mark here i.0 i.1 c.self.view_is
    c.index.ensures c.index-2.ensures (sym (get_or_from_slice_get marks c.args.at c.in-Some.mark c.in-Some.mark there)) in
    grind (arith, to_z-of_z, is)
