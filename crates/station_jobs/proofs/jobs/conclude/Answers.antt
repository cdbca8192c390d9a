use Rattle.std.proofs.Common.{refl, subst}
use Rattle.std.proofs.lemmas.Result.{err_from_is_err_and}
use Rattle.station_render.specs.Renderings.{Renders}
use Rattle.station_render.specs.Runs.{station_in}
use Rattle.station_jobs.proofs.Concluding.{concluded, concluded_broken}
use Rattle.station_jobs.proofs.Counted.{as_many}
use Rattle.station_jobs.proofs.Leavings.{RunLaws, of_report}
use Rattle.station_jobs.proofs.jobs.conclude.Goals as goal

pub returns-in_err-rendered : goal.returns-in_err-rendered
returns-in_err-rendered c = λ asked way first old new renders_it is ruled read renders.
    let p = err_from_is_err_and c.from_residual.result c.from_residual.ensures.1 in rw (p.1, p.2)
    (
    let laws : RunLaws = record {
      gapless = c.infallible_outputs_have_no_gaps.ensures;
      begins = c.broken_renderings_begin_those_of_one_thread.ensures;
      one = c.one_thread_has_one_record.ensures;
      renders = c.threads_render_as_one_thread.ensures;
      ordered = c.onward_records_are_ordered.ensures;
    } in
    concluded_broken laws asked c.args.job.now way first old new renders_it is ruled c.requires.fit c.args.job.now.start.in_week read _ _ c.in_err-rendered.was renders)

pub report-requires-clause-many : goal.report-requires-clause-many
report-requires-clause-many c =
    let may = c.requires.rendering in
    let station = station_in c.args.job.now may.0 in
    let whole = (subst (λ r. Renders station may.1 may.2 r) c.in_ok-rendered.was may.3).done in
    as_many station whole.run _ whole.told.gaps_are

pub returns : goal.returns
returns c = λ asked way first old new renders_it is ruled read renders.
    let laws : RunLaws = record {
      gapless = c.infallible_outputs_have_no_gaps.ensures;
      begins = c.broken_renderings_begin_those_of_one_thread.ensures;
      one = c.one_thread_has_one_record.ensures;
      renders = c.threads_render_as_one_thread.ensures;
      ordered = c.onward_records_are_ordered.ensures;
    } in
    concluded laws asked c.args.job.now way first old new renders_it is ruled c.requires.fit c.args.job.now.start.in_week read _ c.in_ok-rendered.rendered c.in_ok-rendered.was renders
    c.report_or_halt.result c.report_or_halt.ensures.starved
    (of_report c.report_or_halt.result c.report.result _ _ c.report_or_halt.ensures.told c.report.ensures (λ text tells run told. tells (station_in c.args.job.now way) run refl refl told))
