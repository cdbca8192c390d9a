use Rattle.std.proofs.Common.{◌≡◌, ◌<◌, ◌+◌, ◌-◌, ◌∙◌, true, false, Some, arith, sym, true≢false}
use Rattle.frame_core.specs.MarkRuns.{mark_at, marks_in}
use Rattle.cell_ring.specs.MarkRuns.{passing}
use Rattle.cell_ring.proofs.MarkRuns.{marks_behind, pass_more, passed, skipped, stops}
use Rattle.cell_ring.proofs.mark_ring.walk_runs.Goals as goal

pub loop-at-preserved-then-skip-run : goal.loop-at-preserved-then-skip-run
loop-at-preserved-then-skip-run c =
    let now = c.loop-at.invariant in
    let runs = c.args.runs.now in
    record {
      within = now.within;
      pass = now.pass;
      rest = skipped (marks_in runs) runs c.run_at-run.result c.loop-at.at c.loop-at.skip c.args.from c.loop-at.count c.run_at-run.ensures c.if-skip-run.true now.rest;
      sum = omega (arith, now.sum, marks_behind runs c.run_at-run.result c.loop-at.at c.run_at-run.ensures, c.if-skip-run.true);
    }

pub returns-then-not-passes : goal.returns-then-not-passes
returns-then-not-passes c =
    let now = c.loop-at.invariant in
    let runs = c.args.runs.now in
    let run = c.run_at-run.result in
    let skip = c.loop-at.skip in
    let here : skip < run.count = omega (arith, c.if-skip-run.false) in
    let fails : passing c.args.begins c.args.title (Some (mark_at run skip)) ≡ false = sym c.passes.ensures ∙ c.if-not-passes.true in
    record {
      pass = now.pass;
      within = now.within;
      ends = λ _ _. stops c.args.begins c.args.title (marks_in runs) runs run c.loop-at.at skip c.args.from c.loop-at.count c.run_at-run.ensures here now.rest fails;
      inside = λ _ _. omega (arith, now.sum, marks_behind runs run c.loop-at.at c.run_at-run.ensures, here);
      past = λ e. absurd (true≢false e);
    }

pub returns-then-more-most : goal.returns-then-more-most
returns-then-more-most c =
    let now = c.loop-at.invariant in
    let runs = c.args.runs.now in
    let run = c.run_at-run.result in
    let skip = c.loop-at.skip in
    let most = c.args.most in
    let here : passing c.args.begins c.args.title (Some (mark_at run skip)) ≡ true = sym c.passes.ensures ∙ c.if-not-passes.false in
    let all : c.loop-at.count + (most - c.loop-at.count) ≡ most = omega (arith, now.within) in
    record {
      pass = λ j lt. pass_more c.args.begins c.args.title (marks_in runs) runs run c.loop-at.at skip c.args.from c.loop-at.count (most - c.loop-at.count) c.run_at-run.ensures
          (omega (arith, c.if-more-most.true, c.if-skip-run.false)) now.rest here now.pass j (omega (arith, lt, all));
      within = omega arith;
      ends = λ _ lt. absurd (omega (arith, lt));
      inside = λ _ lt. absurd (omega (arith, lt));
      past = λ e. absurd (true≢false e);
    }

pub loop-at-preserved : goal.loop-at-preserved
loop-at-preserved c =
    let now = c.loop-at.invariant in
    let runs = c.args.runs.now in
    let run = c.run_at-run.result in
    let skip = c.loop-at.skip in
    let lt : skip < run.count = omega (arith, c.if-skip-run.false) in
    let here : passing c.args.begins c.args.title (Some (mark_at run skip)) ≡ true = sym c.passes.ensures ∙ c.if-not-passes.false in
    record {
      within = omega (arith, now.within, c.if-more-most.false);
      pass = λ j low. pass_more c.args.begins c.args.title (marks_in runs) runs run c.loop-at.at skip c.args.from c.loop-at.count (run.count - skip) c.run_at-run.ensures
          (omega (arith, lt)) now.rest here now.pass j low;
      rest = passed (marks_in runs) runs run c.loop-at.at skip c.args.from c.loop-at.count c.run_at-run.ensures lt now.rest;
      sum = omega (arith, now.sum, marks_behind runs run c.loop-at.at c.run_at-run.ensures, lt);
    }
