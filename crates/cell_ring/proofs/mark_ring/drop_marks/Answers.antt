use Rattle.std.proofs.Common.{◌∙◌, arith, ap, refl, sym}
use Rattle.circular_buffer.specs.Buffer.{Buffer}
use Rattle.frame_core.specs.declared.cell.MarkRun.{MarkRun}
use Rattle.frame_core.specs.MarkRuns.{marks_in}
use Rattle.cell_ring.proofs.MarkRuns.{few_runs, popped_few, popped_runs_some, run_is_gone, shorter, shorter_some}
use Rattle.cell_ring.proofs.mark_ring.drop_marks.Goals as goal

pub loop-left-init : goal.loop-left-init
loop-left-init c = record {
  marks = refl;
  some = c.requires.some;
  few = omega (arith, few_runs c.args.runs.now.items c.requires.some, c.requires.there);
  room = refl;
}

pub returns-then-run-left-clause-marks : goal.returns-then-run-left-clause-marks
returns-then-run-left-clause-marks c =
    let now = c.loop-left.invariant in
    let is = sym c.pop_front.ensures.value ∙ c.in-Some.is in
    shorter c.loop-left.runs c.pop_front.new.self c.in-Some.run' now.some is c.pop_front.ensures.items c.loop-left.left c.push_front.new.self now.few
    (omega (arith, c.if-run-left.true)) (omega (arith, c.loop-left-test.true)) c.push_front.ensures.items c.args.count (marks_in c.args.runs.now.items) now.marks

pub returns-then-run-left-clause-some : goal.returns-then-run-left-clause-some
returns-then-run-left-clause-some c =
    let now = c.loop-left.invariant in
    let is = sym c.pop_front.ensures.value ∙ c.in-Some.is in
    shorter_some c.loop-left.runs c.pop_front.new.self c.in-Some.run' now.some is c.pop_front.ensures.items c.loop-left.left c.push_front.new.self now.few
    (omega (arith, c.if-run-left.true)) (omega (arith, c.loop-left-test.true)) c.push_front.ensures.items

pub loop-left-preserved : goal.loop-left-preserved
loop-left-preserved c =
    let now = c.loop-left.invariant in
    let is = sym c.pop_front.ensures.value ∙ c.in-Some.is in
    record {
      marks = run_is_gone c.loop-left.runs c.pop_front.new.self c.in-Some.run' now.some is c.pop_front.ensures.items c.loop-left.left c.args.count (marks_in c.args.runs.now.items) now.marks
          (omega (arith, c.if-run-left.false));
      some = popped_runs_some c.loop-left.runs c.pop_front.new.self c.in-Some.run' now.some is c.pop_front.ensures.items;
      few = popped_few c.loop-left.runs c.pop_front.new.self c.in-Some.run' now.some is c.pop_front.ensures.items now.few;
      room = ap (λ (b : Buffer MarkRun). b.capacity) c.pop_front.ensures.items ∙ now.room;
    }
