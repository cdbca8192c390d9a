use Rattle.std.proofs.Common.{◌<◌, ◌≤◌, ◌+◌, ◌∙◌, ◌++◌, [], length, drop, arith, ap, sym, append-nil, append_assoc, length-append}
use Rattle.std.proofs.lemmas.List.{drop_all}
use Rattle.frame_core.specs.declared.cell.MarkRun.{MarkRun}
use Rattle.frame_core.specs.MarkRuns.{marks_in, run_marks}
use Rattle.cell_ring.specs.MarkRuns.{rest_run}
use Rattle.cell_ring.proofs.MarkRuns.{rest_long, run_cut, run_skipped}
use Rattle.cell_ring.proofs.mark_ring.push_each.Goals as goal

pub loop-at-preserved-then-left-run : goal.loop-at-preserved-then-left-run
loop-at-preserved-then-left-run c =
    let now = c.loop-at.invariant in
    record {
      marks = ap (λ l. marks_in c.loop-at.runs.items ++ l) (run_skipped c.args.more.now c.run_at-run.result c.loop-at.at c.loop-at.left c.run_at-run.ensures c.if-left-run.true) ∙ now.marks;
      some = now.some;
      room = now.room;
    }

pub push_run-requires-clause-there : goal.push_run-requires-clause-there
push_run-requires-clause-there c =
    let now = c.loop-at.invariant in
    let run = c.run_at-run.result in
    let more = c.args.more.now in
    let left = c.loop-at.left in
    let here : left < run.count = omega (arith, c.if-left-run.false) in
    let all = ap length now.marks in
    let few = ap (λ (r : MarkRun). r.count) c.rest_of.ensures in
    omega (
      arith,
      all,
      few,
      length-append (marks_in c.loop-at.runs.items) (drop left (marks_in (drop c.loop-at.at more))),
      rest_long more run c.loop-at.at left c.run_at-run.ensures here,
      length-append (marks_in c.args.runs.now.items) (drop c.args.skip (marks_in more)),
      c.requires.there,
      now.room,
    )

pub loop-at-preserved : goal.loop-at-preserved
loop-at-preserved c =
    let now = c.loop-at.invariant in
    let run = c.run_at-run.result in
    let more = c.args.more.now in
    let left = c.loop-at.left in
    let here : left < run.count = omega (arith, c.if-left-run.false) in
    let before = marks_in c.loop-at.runs.items in
    let behind = marks_in (drop (c.loop-at.at + 1) more) in
    let rest = rest_run run left in
    record {
      marks = ap (λ l. l ++ behind) (c.push_run.ensures.marks ∙ ap (λ (r : MarkRun). before ++ run_marks r.first r.title r.count) c.rest_of.ensures)
          ∙ append_assoc before (run_marks rest.first rest.title rest.count) behind
          ∙ ap (λ l. before ++ l) (sym (run_cut more run c.loop-at.at left c.run_at-run.ensures here)) ∙ now.marks;
      some = c.push_run.ensures.some;
      room = c.push_run.ensures.room ∙ now.room;
    }

pub returns-clause-marks : goal.returns-clause-marks
returns-clause-marks c =
    let now = c.loop-at.invariant in
    let more = c.args.more.now in
    let past : length more ≤ c.loop-at.at = omega (arith, c.loop-at-test.false) in
    let before = marks_in c.loop-at.runs.items in
    sym (ap (λ l. before ++ drop c.loop-at.left (marks_in l)) (drop_all c.loop-at.at more past) ∙ ap (λ l. before ++ l) (drop_all c.loop-at.left [] (omega arith)) ∙ append-nil before) ∙ now.marks
