use Rattle.std.proofs.Common.{◌≡◌, ◌∙◌, ◌++◌, ap, sym}
use Rattle.plan_core.specs.declared.plan.Plan.{Plan}
use Rattle.stations.specs.Streams.{gaps_in_order}
use Rattle.stations.specs.Reports.{rendered_lines}
use Rattle.station_render.specs.Runs.{counted_lines, counts_of}
use Rattle.station_render.proofs.Reporting.{counted_are}
use Rattle.station_render.proofs.reports.report.Goals as goal

pub returns : goal.returns
returns c = λ station run plan_is ticks_is told.
    let gaps : c.deref.result.now ≡ gaps_in_order station run = c.deref.ensures.value ∙ told.gaps_are in
    let counts : c.deref-2.result.now ≡ counts_of station run = c.deref-2.ensures.value ∙ told.counts_are in
    c.in_ok-push_buffers.ensures
    ∙ ap (λ lines. lines ++ counted_lines 0 c.deref-2.result.now) (c.in_ok-text.ensures station run plan_is ticks_is gaps ∙ ap (λ (p : Plan). rendered_lines station run p.sinks) (sym plan_is))
    ∙ ap (λ cs. rendered_lines station run station.plan.sinks ++ counted_lines 0 cs) counts
    ∙ ap (λ lines. rendered_lines station run station.plan.sinks ++ lines) (counted_are run 0 station.plan.buffers)
