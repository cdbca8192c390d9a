use Rattle.std.proofs.Common.{◌+◌, ◌∙◌, Some, drop, slice_get, arith, ap, sym}
use Rattle.frame_core.specs.MarkRuns.{marks_in}
use Rattle.frame_core.proofs.MarkRuns.{behind_run, in_run, item_and_rest}
use Rattle.frame_core.proofs.runs.mark_at.Goals as goal

pub returns-then-skip-run : goal.returns-then-skip-run
returns-then-skip-run c =
    let run = c.run_at-run.result in
    let runs = c.args.runs.now in
    let skip = c.loop-index.skip in
    ap Some c.mark_of.ensures
    ∙ sym (in_run run (marks_in (drop (c.loop-index.index + 1) runs)) skip (omega (arith, c.if-skip-run.true)))
    ∙ sym (ap (λ l. slice_get (marks_in l) skip) (item_and_rest runs c.loop-index.index run c.run_at-run.ensures))
    ∙ c.loop-index.invariant

pub loop-index-preserved : goal.loop-index-preserved
loop-index-preserved c =
    let run = c.run_at-run.result in
    let runs = c.args.runs.now in
    let skip = c.loop-index.skip in
    sym (behind_run run (marks_in (drop (c.loop-index.index + 1) runs)) skip (omega (arith, c.if-skip-run.false)))
    ∙ sym (ap (λ l. slice_get (marks_in l) skip) (item_and_rest runs c.loop-index.index run c.run_at-run.ensures))
    ∙ c.loop-index.invariant
