-- What a job of the words ends with, by what its rendering ended with.
use Rattle.std.proofs.Common.{◌≡◌, ◌<◌, false, ap, subst, sym}
use Rattle.std.specs.Prelude.{Result, Ok, Err, IfOk, IfErr, String, string_bytes}
use Rattle.std.specs.Option.{ForSome}
use Rattle.std.specs.declared.alloc.Global.{Global}
use Rattle.liq_base.specs.Shelves.{OnlyRead, ShelfTold}
use Rattle.run_records.specs.Records.{Run}
use Rattle.stations.specs.Findings.{IsFit}
use Rattle.stations.specs.Reports.{report_of}
use Rattle.stations.specs.Stations.{Station, Way}
use Rattle.station_render.specs.Renderings.{Renders}
use Rattle.station_render.specs.Runs.{IsFitting, IsTold, station_in}
use Rattle.station_render.specs.declared.fault.RenderFault.{RenderFault}
use Rattle.station_render.specs.declared.job.Job.{Job}
use Rattle.station_render.specs.declared.rendered.Rendered.{Rendered}
use Rattle.station_jobs.specs.Prepared.{Ended, IsJobFor, IsOneRuling, IsToRender, granted, halt_of_render}
use Rattle.station_jobs.specs.Words.{Asked, Rendering, rendering_of}
use Rattle.station_jobs.specs.Verdicts.{station_for}
use Rattle.station_jobs.specs.declared.halt.CallEnd.{CallEnd}
use Rattle.station_jobs.specs.declared.halt.CallEnd.TheVariants.{Memory as no_memory}
use Rattle.station_jobs.proofs.Leavings.{RunLaws, broke_off, ended_rendered}

-- the station of a job
pub job_station : (rendering : Rendering) (job : Job) (way : Way) → IsJobFor rendering job → station_for rendering job.plan job.ready.library job.ready.clocks way ≡ station_in job way
job_station rendering job way is = λ i. record {
  plan = job.plan;
  library = job.ready.library;
  clocks = job.ready.clocks;
  start = is.start_is i;
  ticks = is.ticks_are i;
  way = way;
  trace = is.trace_is i;
  cues = is.cues_are i;
}

module _ (laws : RunLaws) (asked : Asked) (job : Job) (way : Way) (first old new : ShelfTold) (renders_it : IsToRender asked) (is : IsJobFor (rendering_of asked) job) (ruled : ForSome first.files (λ files. IsOneRuling asked files (granted job way)))
    (fit : IsFitting job) (early : job.start.second < 604800) (read : OnlyRead first old) where
  abbrev station : Station
  station = station_for (rendering_of asked) job.plan job.ready.library job.ready.clocks way

  station_is : station ≡ station_in job way
  station_is = job_station (rendering_of asked) job way is

  fits : IsFit job.plan job.ready.library job.ready.clocks (rendering_of asked).ticks
  fits = subst (λ n. IsFit job.plan job.ready.library job.ready.clocks n) (sym is.ticks_are) fit

  begins : (rendering_of asked).start < 604800
  begins = subst (λ n. n < 604800) (sym is.start_is) early

  -- without a report
  pub concluded_broken : (r : Result Rendered RenderFault) (e : RenderFault) → r ≡ Err e → Renders (station_in job way) old new r → Ended asked first new (Err (halt_of_render e))
  concluded_broken r e at renders =
      let broke : Renders station old new (Err e) = subst (λ (z : Station × Result Rendered RenderFault). Renders z.0 old new z.1) (λ i. (sym station_is i, at i)) renders in
      broke_off asked first old new _ _ _ way (renders_it station) ruled laws fits begins read e broke.part broke.front (λ same. broke.cause (ap Err same))

  -- with its report, unless memory was refused for that
  pub concluded : (r : Result Rendered RenderFault) (value : Rendered) → r ≡ Ok value → Renders (station_in job way) old new r → (result : Result (String Global) CallEnd) → IfErr result (λ e. e ≡ no_memory)
      → IfOk result (λ text. (run : Run) → IsTold (station_in job way) run value → string_bytes text ≡ report_of (station_in job way) run) → Ended asked first new result
  concluded r value at renders result starved tells =
      let whole : Renders station old new (Ok value) = subst (λ (z : Station × Result Rendered RenderFault). Renders z.0 old new z.1) (λ i. (sym station_is i, at i)) renders in
      ended_rendered asked first old new _ _ _ way (renders_it station) ruled laws fits begins read result value starved whole.part whole.front whole.done
      (subst (λ s. IfOk result (λ text. (run : Run) → IsTold s run value → string_bytes text ≡ report_of s run)) (sym station_is) tells)
