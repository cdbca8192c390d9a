-- What a workload leaves, by the way that it ends.
use Rattle.std.proofs.Common.{◌≡◌, ◌++◌, ◌∙◌, ℕ, List, [], length, refl, sym, ap, subst, append-nil, arith, false, inr}
use Rattle.std.specs.Prelude.{Some, None, Err}
use Rattle.std.specs.FinMap.{from_entries}
use Rattle.std.specs.Option.{ForSome}
use Rattle.liq_base.specs.Counts.{Rose}
use Rattle.liq_base.specs.Files.{Files}
use Rattle.liq_base.specs.ShelfStates.{sure_shelf_told}
use Rattle.liq_base.specs.Shelves.{ShelfTold}
use Rattle.liq_base.proofs.Shelves.{read_none}
use Rattle.frame_core.specs.Library.{Sounds}
use Rattle.plan_core.specs.declared.plan.Plan.{Plan}
use Rattle.clock_infer.specs.declared.clock_map.ClockMap.{ClockMap}
use Rattle.run_records.specs.Records.{Run}
use Rattle.run_records.specs.Rounds.{HasNoJoin}
use Rattle.stations.specs.Outputs.{with_outputs}
use Rattle.stations.specs.Stations.{InWindows, IsLawful, Station, bare}
use Rattle.stations.specs.Streams.{HasNoGaps, output_files}
use Rattle.station_render.specs.declared.fault.RenderFault.{RenderFault}
use Rattle.station_render.specs.declared.fault.RenderFault.TheVariants.{Write as render_write, Memory as render_memory}
use Rattle.station_render.specs.Runs.{IsRendered, IsTold}
use Rattle.station_render.specs.declared.rendered.Rendered.{Rendered as Shown}
use Rattle.station_jobs.specs.declared.halt.CallEnd.{CallEnd}
use Rattle.station_jobs.specs.declared.halt.CallEnd.TheVariants.{Read, Write, Memory, Refused as refused_for}
use Rattle.station_jobs.specs.Words.{Make, made_script, rendering_by, rendering_of}
use Rattle.station_jobs.specs.Verdicts.{Refused, files_made, station_for}
use Rattle.station_jobs.specs.Jobs.{IsDone}
use Rattle.station_jobs.specs.Prepared.{Denied, Ended, EndsFor, ForOneOf, Found, Granted, IsOneOutcome, Lost, Outcome, halt_of_render}
use Rattle.station_jobs.specs.Summary.{SumsAsOneThread, summary_of, summed_lines}
use Rattle.station_jobs.proofs.Leavings.{ended_starved}
use Rattle.station_jobs.proofs.Outcomes.{for_one, lost_ruled, make_plain, plain_ruled}

-- a shelf of these files, which are others
pub made_of : (entries others : List (List ℕ × List ℕ)) (shelf : Files) → shelf ≡ from_entries entries → entries ≡ others → shelf ≡ from_entries others
made_of entries others shelf is same = subst (λ (es : List (List ℕ × List ℕ)). shelf ≡ from_entries es) same is

-- a shelf that never fails has no count that rose
never_rose : Rose 0 0 → ⊥
never_rose rose = omega arith

-- what is found over the shelf is found over the files of the workload
pub one_made : (seed size : ℕ) (shelf : Files) (file : List ℕ) (outcome : Outcome) → shelf ≡ files_made seed size → file ≡ made_script
    → ForSome (Some shelf) (λ files. IsOneOutcome files (rendering_by file 0 500 None false) outcome) → IsOneOutcome (files_made seed size) (rendering_of (Make seed size)) outcome
one_made seed size shelf file outcome shelf_is file_is found =
    subst (λ f. IsOneOutcome (files_made seed size) (rendering_by f 0 500 None false) outcome) file_is (found (files_made seed size) (ap Some shelf_is))

-- the steps before the rendering ended
pub stopped_made : {T : Type 0} (seed size : ℕ) (shelf after : Files) (file : List ℕ) (told : ShelfTold) (e : CallEnd) → shelf ≡ files_made seed size → file ≡ made_script
    → EndsFor {T = T} (rendering_by file 0 500 None false) (sure_shelf_told shelf) (sure_shelf_told after) (Err e) → Ended (Make seed size) told told (Err e)
stopped_made seed size shelf after file told (refused_for fault) shelf_is file_is ends = (
  λ files t. for_one (Make seed size) files (Denied fault) (λ v. v ≡ Refused fault)
      (lost_ruled (Make seed size) files fault (one_made seed size shelf file (Lost fault) shelf_is file_is (ends.fault fault refl))) refl,
  read_none told,
)
stopped_made seed size shelf after file told Read shelf_is file_is ends = absurd (never_rose (ends.read (cc)))
stopped_made seed size shelf after file told Write shelf_is file_is ends = absurd (ends.no_write (cc))
stopped_made seed size shelf after file told Memory shelf_is file_is ends = ended_starved (Make seed size) told told (read_none told)

-- the rendering ended: no write failed, so memory was refused
pub broke_made : (seed size : ℕ) (told : ShelfTold) (e : RenderFault) → (e ≡ render_write → Rose 0 0) → Ended (Make seed size) told told (Err (halt_of_render e))
broke_made seed size told render_write cause = absurd (never_rose (cause refl))
broke_made seed size told render_memory cause = ended_starved (Make seed size) told told (read_none told)

-- where there is no buffer, none joins two clocks
none_joins : (station : Station) → station.plan.buffers ≡ [] → HasNoJoin (bare station) station.clocks.running
none_joins station none buffer below = absurd (let empty = ap length none in omega (arith, empty, below))

-- the summary
pub summed : (seed size : ℕ) (plan : Plan) (library : Sounds) (clocks : ClockMap) → plan.buffers ≡ [] → IsOneOutcome (files_made seed size) (rendering_of (Make seed size)) (Found plan library clocks)
    → (shelf after : Files) (report : List ℕ) (value : Shown) → shelf ≡ files_made seed size
    → IsRendered (station_for (rendering_of (Make seed size)) plan library clocks (InWindows 16)) (sure_shelf_told shelf) (sure_shelf_told after) value
    → ((run : Run) → IsTold (station_for (rendering_of (Make seed size)) plan library clocks (InWindows 16)) run value
    → report ≡ summed_lines (station_for (rendering_of (Make seed size)) plan library clocks (InWindows 16)) run after plan.sinks)
    → ((run : Run) → HasNoGaps (station_for (rendering_of (Make seed size)) plan library clocks (InWindows 16)) run)
    → ((run : Run) → IsLawful (station_for (rendering_of (Make seed size)) plan library clocks (InWindows 16)) run → HasNoJoin (bare (station_for (rendering_of (Make seed size)) plan library clocks (InWindows 16))) clocks.running
    → SumsAsOneThread (files_made seed size) (station_for (rendering_of (Make seed size)) plan library clocks (InWindows 16)) (summary_of (files_made seed size) (station_for (rendering_of (Make seed size)) plan library clocks (InWindows 16)) run))
    → (told : ShelfTold) → ForOneOf (Make seed size) told (λ files v. IsDone v files told told report)
summed seed size plan library clocks none one shelf after report value shelf_is is report_is gapless alike told = λ files t.
    let station = station_for (rendering_of (Make seed size)) plan library clocks (InWindows 16) in
    let made = files_made seed size in
    let all : Some after ≡ Some (with_outputs made (output_files station is.run ++ [])) = is.all_written made (ap Some shelf_is) in
    let files_are : after ≡ with_outputs made (output_files station is.run ++ []) = cc in
    let written : after ≡ with_outputs made (output_files station is.run) = files_are ∙ ap (with_outputs made) (append-nil (output_files station is.run)) in
    let same : report ≡ summary_of made station is.run = report_is is.run is.told ∙ ap (λ fs. summed_lines station is.run fs plan.sinks) written in
    for_one (Make seed size) files (Granted plan library clocks (InWindows 16)) (λ v. IsDone v files told told report)
    (plain_ruled (Make seed size) (InWindows 16) (make_plain seed size) files plan library clocks one) (inr (inr (
      made,
      station,
      refl,
      record {
        kept = read_none told;
        run = is.run;
        lawful = is.lawful;
        report_is = same;
        no_gaps = gapless is.run;
        as_one_thread = subst (SumsAsOneThread made station) (sym same) (alike is.run is.lawful (none_joins station none));
      },
    )))
