use Rattle.std.proofs.Common.{◌≡◌, ◌<◌, ◌∙◌, length, ap, sym, arith}
use Rattle.std.proofs.lemmas.Bool.Decides.{nat_tests}
use Rattle.frame_core.specs.Chunks.{cells_in}
use Rattle.frame_core.specs.MarkRuns.{marks_in}
use Rattle.frame_core.proofs.Chunks.{length-cells, some_cells}
use Rattle.frame_core.proofs.block.Block.from_frame.Goals as goal

pub invariant_of-result : goal.invariant_of-result
invariant_of-result c =
    let marks = marks_in c.in_ok-runs.runs.items in
    let count : length marks ≡ length (marks_in c.lanes.result.0.now) = ap (λ rs. length (marks_in rs)) c.in_ok-runs.ensures.items in
    let lefts : length c.in_ok-left.left.items ≡ length marks = ap length c.in_ok-left.ensures.items ∙ c.lanes.ensures.left ∙ sym count in
    let rights : length c.in_ok-right.right.items ≡ length marks = ap length c.in_ok-right.ensures.items ∙ c.lanes.ensures.right ∙ sym count in
    let some : 0 < length marks = grind (arith, nat_tests, c.is_empty.ensures, c.if-is_empty.false, c.lanes.ensures.left, count) in
    let long = length-cells c.in_ok-left.left.items c.in_ok-right.right.items marks lefts rights in
    (lefts, rights, some, omega (arith, count, c.lanes.ensures.most), omega (arith, some, long), omega (arith, count, c.lanes.ensures.most, long))

pub returns : goal.returns
returns c =
    let marks = marks_in c.in_ok-runs.runs.items in
    let left = c.in_ok-left.left.items in
    let right = c.in_ok-right.right.items in
    let count : length marks ≡ length (marks_in c.lanes.result.0.now) = ap (λ rs. length (marks_in rs)) c.in_ok-runs.ensures.items in
    let lefts : length left ≡ length marks = ap length c.in_ok-left.ensures.items ∙ c.lanes.ensures.left ∙ sym count in
    let rights : length right ≡ length marks = ap length c.in_ok-right.ensures.items ∙ c.lanes.ensures.right ∙ sym count in
    let some : 0 < length marks = grind (arith, nat_tests, c.is_empty.ensures, c.if-is_empty.false, c.lanes.ensures.left, count) in
    record {
      cells = some_cells (cells_in left right marks) c.args.frame.now.cells (omega (arith, some, length-cells left right marks lefts rights))
          (ap (λ xs. cells_in xs right marks) c.in_ok-left.ensures.items
          ∙ ap (λ ys. cells_in c.lanes.result.1.now ys marks) c.in_ok-right.ensures.items
          ∙ ap (λ rs. cells_in c.lanes.result.1.now c.lanes.result.2.now (marks_in rs)) c.in_ok-runs.ensures.items ∙ c.lanes.ensures.cells);
    }
