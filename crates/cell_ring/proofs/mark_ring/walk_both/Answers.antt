use Rattle.std.proofs.Common.{◌+◌, ◌-◌, ◌∙◌, length, slice_get, ap, sym}
use Rattle.frame_core.specs.MarkRuns.{marks_in}
use Rattle.cell_ring.specs.MarkRuns.{passing}
use Rattle.frame_core.proofs.MarkRuns.{marks-append}
use Rattle.cell_ring.proofs.MarkRuns.{passing_none, runs_from}
use Rattle.circular_buffer.proofs.Places.{slice_get-append_left}
use Rattle.cell_ring.proofs.Queues.{both_end, both_pass, front_passes}
use Rattle.cell_ring.proofs.mark_ring.walk_both.Goals as goal

pub returns-then-first-clause-pass : goal.returns-then-first-clause-pass
returns-then-first-clause-pass c = λ j lt.
    let test = passing c.args.begins c.args.title in
    let front = c.as_slices.result.0.now in
    let back = c.as_slices.result.1.now in
    let parts = sym (marks-append front back) ∙ ap marks_in c.as_slices.ensures in
    sym (ap (λ l. test (slice_get l (c.args.from + j))) parts)
    ∙ front_passes test (passing_none c.args.begins c.args.title) (marks_in front) (marks_in back) c.args.from c.args.most c.walk_runs-first.result.count c.walk_runs-first.ensures.pass j lt

pub returns-then-first-clause-ends : goal.returns-then-first-clause-ends
returns-then-first-clause-ends c = λ lt.
    let test = passing c.args.begins c.args.title in
    let front = c.as_slices.result.0.now in
    let back = c.as_slices.result.1.now in
    let parts = sym (marks-append front back) ∙ ap marks_in c.as_slices.ensures in
    let at = c.args.from + c.walk_runs-first.result.count in
    sym (ap (λ l. test (slice_get l at)) parts)
    ∙ ap test (slice_get-append_left (marks_in front) (marks_in back) at (c.walk_runs-first.ensures.inside c.if-first.true lt))
    ∙ c.walk_runs-first.ensures.ends c.if-first.true lt

pub returns-clause-pass : goal.returns-clause-pass
returns-clause-pass c = λ j lt.
    let test = passing c.args.begins c.args.title in
    let front = c.as_slices.result.0.now in
    let back = c.as_slices.result.1.now in
    let parts = sym (marks-append front back) ∙ ap marks_in c.as_slices.ensures in
    let here = c.walk_runs-first.result in
    let past = c.walk_runs-first.ensures.past c.if-first.false in
    let k = c.args.from + here.count - length (marks_in front) in
    sym (ap (λ l. test (slice_get l (c.args.from + j))) parts)
    ∙ both_pass test (passing_none c.args.begins c.args.title) (marks_in front) (marks_in back) c.args.from c.args.most here.count c.walk_runs-first.ensures.pass c.walk_runs-next.result.count past.0
    (runs_from c.args.begins c.args.title (marks_in back) k here.skip (c.args.most - here.count) c.walk_runs-next.result (sym past.1) c.walk_runs-next.ensures) j lt

pub returns-clause-ends : goal.returns-clause-ends
returns-clause-ends c = λ lt.
    let test = passing c.args.begins c.args.title in
    let front = c.as_slices.result.0.now in
    let back = c.as_slices.result.1.now in
    let parts = sym (marks-append front back) ∙ ap marks_in c.as_slices.ensures in
    let here = c.walk_runs-first.result in
    let there = c.walk_runs-next.result.count in
    let past = c.walk_runs-first.ensures.past c.if-first.false in
    let k = c.args.from + here.count - length (marks_in front) in
    sym (ap (λ l. test (slice_get l (c.args.from + (here.count + there)))) parts)
    ∙ both_end test (passing_none c.args.begins c.args.title) (marks_in front) (marks_in back) c.args.from c.args.most here.count c.walk_runs-first.ensures.pass there past.0
    (runs_from c.args.begins c.args.title (marks_in back) k here.skip (c.args.most - here.count) c.walk_runs-next.result (sym past.1) c.walk_runs-next.ensures) lt
