use Rattle.std.proofs.Common.{◌≡◌, ◌≤◌, ◌+◌, ◌-◌, ◌∙◌, length, drop, false, slice_get, arith, ap, refl, sym}
use Rattle.frame_core.specs.Slots.{goes_on}
use Rattle.frame_core.specs.MarkRuns.{marks_in}
use Rattle.cell_ring.specs.Rings.{Ring, spare_cells}
use Rattle.cell_ring.proofs.MarkRuns.{runs_from}
use Rattle.cell_ring.proofs.Queues.{both_end, both_pass, marks_behind, run_of_marks}
use Rattle.cell_ring.proofs.chunk_queue.ChunkQueue.inner.Goals as goal

pub returns-clause-inner : goal.returns-clause-inner
returns-clause-inner c = λ j lt.
    let test = goes_on c.args.title in
    let front = c.self.inside.ring.cells in
    let back = spare_cells c.self.inside.spare c.self.inside.gone in
    let here = c.inner-here.result in
    let there = c.walk_runs.result.count in
    let marks = drop c.spare_of-skip.result.3 (marks_in c.spare_of-skip.result.2.now) in
    let held = c.len-held.result in
    let is_held = c.len-held.ensures.len in
    let all : length front ≤ c.args.from + here = omega (arith, is_held, c.if-next-held.false) in
    let same : c.args.from + here - held ≡ c.args.from + here - length front = omega (arith, is_held) in
    let parts = c.spare_of-skip.ensures in
    let behind = marks_behind (marks_in c.spare_of-skip.result.2.now) c.spare_of-skip.result.3 c.min-behind.result (c.args.from + here - held) (omega (arith, c.min-behind.ensures, parts.same.0)) ∙ ap (λ n. drop n marks) same in
    let run = runs_from false c.args.title (marks_in c.spare_of-skip.result.2.now) (c.spare_of-skip.result.3 + c.min-behind.result) (c.spare_of-skip.result.3 + c.min-behind.result) (c.args.most - here) c.walk_runs.result refl c.walk_runs.ensures in
    let next = run_of_marks c.args.title c.spare_of-skip.result.0.now c.spare_of-skip.result.1.now marks _ back (c.args.from + here - length front) (c.args.most - here) there
    parts.same.0 parts.same.1 parts.cells behind run in
    ap (λ (r : Ring). test (slice_get r.cells (c.args.from + j))) (sym c.self.view_is)
    ∙ both_pass test refl front back c.args.from c.args.most here c.inner-here.ensures.inner there all next j lt

pub returns-clause-ends : goal.returns-clause-ends
returns-clause-ends c = λ lt.
    let test = goes_on c.args.title in
    let front = c.self.inside.ring.cells in
    let back = spare_cells c.self.inside.spare c.self.inside.gone in
    let here = c.inner-here.result in
    let there = c.walk_runs.result.count in
    let marks = drop c.spare_of-skip.result.3 (marks_in c.spare_of-skip.result.2.now) in
    let held = c.len-held.result in
    let is_held = c.len-held.ensures.len in
    let all : length front ≤ c.args.from + here = omega (arith, is_held, c.if-next-held.false) in
    let same : c.args.from + here - held ≡ c.args.from + here - length front = omega (arith, is_held) in
    let parts = c.spare_of-skip.ensures in
    let behind = marks_behind (marks_in c.spare_of-skip.result.2.now) c.spare_of-skip.result.3 c.min-behind.result (c.args.from + here - held) (omega (arith, c.min-behind.ensures, parts.same.0)) ∙ ap (λ n. drop n marks) same in
    let run = runs_from false c.args.title (marks_in c.spare_of-skip.result.2.now) (c.spare_of-skip.result.3 + c.min-behind.result) (c.spare_of-skip.result.3 + c.min-behind.result) (c.args.most - here) c.walk_runs.result refl c.walk_runs.ensures in
    let next = run_of_marks c.args.title c.spare_of-skip.result.0.now c.spare_of-skip.result.1.now marks _ back (c.args.from + here - length front) (c.args.most - here) there
    parts.same.0 parts.same.1 parts.cells behind run in
    ap (λ (r : Ring). test (slice_get r.cells (c.args.from + (here + there)))) (sym c.self.view_is)
    ∙ both_end test refl front back c.args.from c.args.most here c.inner-here.ensures.inner there all next lt
