-- What a job leaves, by the way that it ends.
use Rattle.std.proofs.Common.{◌≡◌, ◌⊎◌, ◌<◌, ◌≤◌, ◌++◌, ℕ, Bool, true, false, List, map, refl, sym, ap, subst, ◌∙◌, inl, inr, arith}
use Rattle.std.specs.Prelude.{Option, Some, None, Result, Ok, Err, IfOk, IfErr, String, string_bytes}
use Rattle.std.specs.Option.{ForSome}
use Rattle.std.specs.declared.alloc.Global.{Global}
use Rattle.liq_base.specs.Counts.{Rose}
use Rattle.liq_base.specs.Files.{Files}
use Rattle.liq_base.specs.Kept.{some_and}
use Rattle.liq_base.specs.Shelves.{Closing, OnlyRead, ShelfTold}
use Rattle.liq_base.proofs.Shelves.{read_then}
use Rattle.frame_core.specs.Library.{Sounds}
use Rattle.plan_core.specs.declared.plan.Plan.{Plan}
use Rattle.plan_core.specs.Plans.{IsWellFormed}
use Rattle.clock_infer.specs.declared.clock_map.ClockMap.{ClockMap}
use Rattle.fallible_infer.specs.Infallible.{IsMarking}
use Rattle.stream_meaning.specs.Instants.{Setting}
use Rattle.stream_meaning.specs.Settings.{IsSetting}
use Rattle.run_records.specs.Ordered.{IsOrdered}
use Rattle.run_records.specs.Records.{AreWindows, Run, setting_in}
use Rattle.run_records.specs.Rounds.{HasNoJoin}
use Rattle.trace_records.specs.Listings.{LeadOnward}
use Rattle.trace_records.specs.Traces.{base_of}
use Rattle.stations.specs.Creations.{CreatedFront, HaveClosed, HaveListed, after_making, closings_of, names_in, names_of}
use Rattle.stations.specs.Findings.{IsRenderable, IsFit}
use Rattle.stations.specs.Outputs.{HoldsEnds, HoldsSome, HoldsUpto, OutputPart, with_outputs}
use Rattle.stations.specs.Renderings.{BeginsAsOneThread, HasOneRecord, IsDetermined, RendersAsOneThread, WrotePart}
use Rattle.stations.specs.Stations.{InRounds, IsBegun, IsLawful, Station, Way, bare}
use Rattle.stations.specs.Streams.{HasNoGaps, ends_of, output_files, parts_with}
use Rattle.stations.specs.Traces.{later_files}
use Rattle.stations.specs.Reports.{check_report_of, report_of}
use Rattle.stations.proofs.Making.{files_named}
use Rattle.stations.proofs.Parts.{ends_within}
use Rattle.station_render.specs.Faults.{is_device}
use Rattle.station_render.specs.declared.fault.RenderFault.{RenderFault}
use Rattle.station_render.specs.declared.fault.RenderFault.TheVariants.{Write as render_write, Memory as render_memory}
use Rattle.station_render.specs.Runs.{IsRendered, IsTold, setting_by}
use Rattle.station_render.specs.declared.job.Job.{Job}
use Rattle.station_render.specs.declared.rendered.Rendered.{Rendered as Shown}
use Rattle.station_jobs.specs.declared.halt.CallEnd.{CallEnd}
use Rattle.station_jobs.specs.declared.halt.CallEnd.TheVariants.{Read, Write, Memory as no_memory, Refused as refused_for}
use Rattle.refusal_lines.specs.declared.fault.Fault.{Fault}
use Rattle.station_jobs.specs.Words.{Asked, Check, Replay, rendering_by, rendering_of}
use Rattle.station_jobs.specs.Verdicts.{Verdict, Usage, Refused, Accepted, IsVerdictOn, files_for, station_for}
use Rattle.station_jobs.specs.Jobs.{BrokeOff, IsBroken, IsDone, IsStarved}
use Rattle.station_jobs.specs.Prepared.{Denied, Ended, EndsFor, ForOneOf, Granted, IsChecked, IsOneOutcome, IsOneRuling, Lost, TraceEnds, outcome_of, verdict_of, halt_of_render}
use Rattle.station_jobs.proofs.AsOne.{fit_setting}
use Rattle.station_jobs.proofs.Judging.{IsTold as IsToldOf, Told, TraceLaws, Untells, one_told}
use Rattle.station_jobs.proofs.Outcomes.{check_plain, for_each, for_one, lost_ruled, not_usage, plain_ruled, replay_ruled, ruling_told}

-- where the shelf was only read, each verdict has what it may
pub kept_starved : (asked : Asked) (files : Files) (verdict : Verdict) (old new : ShelfTold) → IsVerdictOn asked files verdict → OnlyRead old new → IsStarved verdict files old new
kept_starved asked files verdict old new is kept = (not_usage asked files verdict is, inl kept)

-- memory was refused where nothing was made
pub ended_starved : (asked : Asked) (old new : ShelfTold) → OnlyRead old new → Ended asked old new (Err no_memory)
ended_starved asked old new kept = λ files t verdict is. kept_starved asked files verdict old new is kept

-- a job over the files of the shelf ends as the steps before the rendering do
pub ended_early : {T : Type 0} (asked : Asked) → ((files : Files) → files_for asked files ≡ files) → (old new : ShelfTold) (e : CallEnd)
    → EndsFor {T = T} (rendering_of asked) old new (Err e) → OnlyRead old new → Ended asked old new (Err e)
ended_early asked own old new (refused_for fault) ends kept = (
  λ files t. for_one asked files (Denied fault) (λ v. v ≡ Refused fault)
      (lost_ruled asked files fault
      (subst (λ fs. IsOneOutcome fs (rendering_of asked) (Lost fault)) (sym (own files)) (ends.fault fault refl files t))) refl,
  kept,
)
ended_early asked own old new Read ends kept = (ends.read (cc), kept)
ended_early asked own old new Write ends kept = absurd (ends.no_write (cc))
ended_early asked own old new no_memory ends kept = ended_starved asked old new kept

-- a job whose last step is its report
pub ended_told : {F : Type 0} (asked : Asked) (old new : ShelfTold) (r : Result (String Global) CallEnd) (s : Result (String Global) F) (P : String Global → Type 0)
    → IfOk r (λ t. s ≡ Ok t) → IfErr r (λ e. e ≡ no_memory) → IfOk s P → ((text : String Global) → P text → ForOneOf asked old (λ files v. IsDone v files old new (string_bytes text)))
    → Ended asked old new (Err no_memory) → Ended asked old new r
ended_told asked old new (Ok t) s P is starved holds done memory = done t (subst (λ x. IfOk x P) is holds)
ended_told asked old new (Err e) s P is starved holds done memory = subst (λ x. Ended asked old new (Err x)) (sym starved) memory

-- what holds of the report that was made
pub of_report : {T E F : Type 0} (r : Result T E) (s : Result T F) (P Q : T → Type 0) → IfOk r (λ t. s ≡ Ok t) → IfOk s P → ((t : T) → P t → Q t) → IfOk r Q
of_report (Ok t) s P Q is holds on = on t (subst (λ x. IfOk x P) is holds)
of_report (Err e) s P Q is holds on = tt

-- the report of a check
pub checked : (file : List ℕ) (old new : ShelfTold) (plan : Plan) (clocks : ClockMap) (report : List ℕ) → ForSome old.files (λ files. IsChecked files file plan clocks) → OnlyRead old new
    → (mark : ℕ → Bool) × IsMarking plan.nodes mark × ((station : Station) → station.plan ≡ plan → station.clocks ≡ clocks → report ≡ check_report_of station mark)
    → ForOneOf (Check file) old (λ files v. IsDone v files old new report)
checked file old new plan clocks report checks kept tells = λ files t.
    let is = checks files t in
    let station : Station = station_for (rendering_of (Check file)) plan is.library clocks InRounds in
    for_one (Check file) files (Granted plan is.library clocks InRounds) (λ v. IsDone v files old new report)
    (plain_ruled (Check file) InRounds (check_plain file) files plan is.library clocks is.one)
    (inr (inl (station, refl, record { kept = kept; mark = tells.0; marking = tells.1; report_is = tells.2 station refl refl })))

-- what is found of the trace of a replay's job is its ruling, at the start and for the ticks that are asked for
pub told_ruled : (laws : TraceLaws) (file trace : List ℕ) (job : Job) (start ticks : ℕ) → start ≡ job.start.second → ticks ≡ job.ticks → (files : Files)
    → IsOneOutcome files (rendering_by file start ticks None false) (outcome_of job) → (told : Told) → IsToldOf files trace (setting_by job) job.ready.clocks.running job.ticks told
    → IsOneRuling (Replay file start ticks trace) files (ruling_told job.plan job.ready.library job.ready.clocks told)
told_ruled laws file trace job start ticks start_is ticks_are files one told is =
    let base = base_of job.plan job.ready.library job.ready.clocks in
    let told_is = subst (λ n. IsToldOf files trace (base n) job.ready.clocks.running ticks told) (sym start_is)
    (subst (λ n. IsToldOf files trace (setting_by job) job.ready.clocks.running n told) (sym ticks_are) is) in
    replay_ruled file start ticks trace files job.plan job.ready.library job.ready.clocks one told
    (one_told laws files trace (base start) job.ready.clocks.running ticks told told_is)

-- the trace of a replay is not rendered again
pub ended_untold : {T : Type 0} (laws : TraceLaws) (file trace : List ℕ) (first old new : ShelfTold) (job : Job) (start ticks : ℕ) → start ≡ job.start.second → ticks ≡ job.ticks
    → ForSome first.files (λ files. IsOneOutcome files (rendering_by file start ticks None false) (outcome_of job)) → OnlyRead first old → (e : CallEnd)
    → TraceEnds {T = T} trace (setting_by job) job.ready.clocks.running job.ticks old new (Err e) → OnlyRead old new → Ended (Replay file start ticks trace) first new (Err e)
ended_untold laws file trace first old new job start ticks start_is ticks_are one read (refused_for fault) ends kept = (
  λ files t.
      let is = ends.fault fault refl files (read.files ∙ t) in
      for_one (Replay file start ticks trace) files (Denied (Fault.Replay is.untold)) (λ v. v ≡ Refused fault)
      (told_ruled laws file trace job start ticks start_is ticks_are files (one files t) (Untells is.untold) is.is_fault)
      (ap Refused (sym is.fault_is)),
  read_then first old new read kept,
)
ended_untold laws file trace first old new job start ticks start_is ticks_are one read Read ends kept =
    ((let rose : Rose old.reads new.reads = ends.read (cc) in let low = read.reads in omega (arith, rose, low)), read_then first old new read kept)
ended_untold laws file trace first old new job start ticks start_is ticks_are one read Write ends kept = absurd (ends.no_write (cc))
ended_untold laws file trace first old new job start ticks start_is ticks_are one read no_memory ends kept =
    ended_starved (Replay file start ticks trace) first new (read_then first old new read kept)

-- what is said of runs that may be relied on
pub record RunLaws : Type 0 where
  pub gapless : (files : Files) (station : Station) (run : Run) → IsWellFormed station.plan → IsRenderable files station.plan station.ticks station.library station.clocks → station.start < 604800
      → HasNoGaps station run
  pub begins : (files : Files) (station : Station) (run : Run) → IsWellFormed station.plan → IsRenderable files station.plan station.ticks station.library station.clocks → station.start < 604800
      → IsBegun station run → IsDetermined station → BeginsAsOneThread station run
  pub one : (files : Files) (station : Station) (run : Run) → IsWellFormed station.plan → IsRenderable files station.plan station.ticks station.library station.clocks → station.start < 604800
      → IsLawful station run → HasOneRecord station run
  pub renders : (files : Files) (station : Station) (run : Run) → IsWellFormed station.plan → IsRenderable files station.plan station.ticks station.library station.clocks → station.start < 604800
      → IsLawful station run → HasNoJoin (bare station) station.clocks.running → RendersAsOneThread station run
  pub ordered : (base : Setting) (clocks : ClockMap) → IsSetting base clocks → (W N : ℕ) (run : Run) → (lawful : AreWindows base clocks.running W N run) → (listing : List ℕ)
      → LeadOnward base clocks.running listing → IsOrdered (setting_in base run) clocks.running lawful.accepted N

-- a count that rose somewhere, told from before
rose_from : {A B : Type 0} (low count first : ℕ) → low ≤ count → A ⊎ Rose count first ⊎ B → A ⊎ Rose low first ⊎ B
rose_from low count first le (inl a) = inl a
rose_from low count first le (inr (inl rose)) = inr (inl (omega (arith, rose, le)))
rose_from low count first le (inr (inr b)) = inr (inr b)

-- what is asked for is a rendering, and this is its station; the shelf was only read before it
module _ (asked : Asked) (first old new : ShelfTold) (plan : Plan) (library : Sounds) (clocks : ClockMap) (way : Way)
    (is_accepted : verdict_of asked (Granted plan library clocks way) ≡ Accepted (station_for (rendering_of asked) plan library clocks way))
    (one : ForSome first.files (λ files. IsOneRuling asked files (Granted plan library clocks way))) (laws : RunLaws) (fit : IsFit plan library clocks (rendering_of asked).ticks) (early : (rendering_of asked).start < 604800)
    (read : OnlyRead first old) where
  abbrev station : Station
  station = station_for (rendering_of asked) plan library clocks way

  -- what is left is told from before
  some_from : (idle : Type 0) (device : Bool) (files : Files) (parts : List OutputPart) (now : Files) → HoldsSome idle device files parts now old new → HoldsSome idle device files parts now first new
  some_from idle device files parts now some = record {
    created = some.created;
    others = some.others;
    outputs_are = some.outputs_are;
    unbegun = some.unbegun;
    told = some.told ∙ ap (after_making (map (λ output. output.name) some.created)) read.created;
    begun = subst (λ (closed : Option (List Closing)). HaveClosed 1 (map (λ output. output.name) some.created) closed new.closed) read.closed some.begun;
    first = some.first;
    grew = (let low = read.writes in let high = some.grew in omega (arith, low, high));
    risen = λ failed. rose_from first.writes old.writes some.first read.writes (some.risen failed);
    parts = some.parts;
  }

  abbrev Behind : ShelfTold → Files → Run → Files → Type 0
  Behind shelf files run now = HoldsEnds shelf.writes files (ends_of station run) now new.writes ⊎ HoldsUpto (with_outputs files (output_files station run)) (later_files station run) now

  behind_from : (files : Files) (run : Run) (now : Files) → Behind old files run now → Behind first files run now
  behind_from files run now (inl ends) = inl (ends_within first.writes old.writes new.writes read.writes files (ends_of station run) now ends)
  behind_from files run now (inr upto) = inr upto

  front_from : CreatedFront (names_of station) old new → CreatedFront (names_of station) first new
  front_from front = record {
    made = front.made;
    others = front.others;
    names_are = front.names_are;
    told = front.told ∙ ap (after_making front.made) read.created;
    closed = subst (λ (closed : Option (List Closing)). HaveClosed 0 front.made closed new.closed) read.closed front.closed;
  }

  broke : (device : Bool) (files : Files) → first.files ≡ Some files → WrotePart station device files old new → CreatedFront (names_of station) old new → BrokeOff station device files first new
  broke device files t (inl stopped) front = record {
    left = inl (
      record {
        run = stopped.run;
        begun = stopped.begun;
        parts = λ rest. some_and new.files (λ now. HoldsSome ((m : ℕ) → stopped.begun.made m ≡ 0) device files (parts_with station stopped.run stopped.begun rest) now old new)
            (λ now. HoldsSome ((m : ℕ) → stopped.begun.made m ≡ 0) device files (parts_with station stopped.run stopped.begun rest) now first new)
            (some_from ((m : ℕ) → stopped.begun.made m ≡ 0) device files (parts_with station stopped.run stopped.begun rest)) (stopped.parts rest);
      },
      laws.begins (files_for asked files) station stopped.run fit.plan_is (one files t).holds.prepared.renderable early stopped.begun,
    );
    front = λ run. subst (λ ns. CreatedFront ns first new) (sym (files_named station run)) (front_from front);
  }
  broke device files t (inr stopped) front = record {
    left = inr (
      record {
        run = stopped.run;
        lawful = stopped.lawful;
        part = some_and new.files (Behind old files stopped.run) (Behind first files stopped.run) (behind_from files stopped.run) stopped.part;
        more = stopped.more;
        created = stopped.created ∙ ap (after_making (names_in station.plan.sinks ++ stopped.more)) read.created;
      },
      laws.one (files_for asked files) station stopped.run fit.plan_is (one files t).holds.prepared.renderable early stopped.lawful,
      laws.renders (files_for asked files) station stopped.run fit.plan_is (one files t).holds.prepared.renderable early stopped.lawful,
    );
    front = λ run. subst (λ ns. CreatedFront ns first new) (sym (files_named station run)) (front_from front);
  }

  -- what holds of the station holds of the verdict
  of_station : (P : Verdict → Type 0) → P (Accepted station) → P (verdict_of asked (Granted plan library clocks way))
  of_station P p = subst P (sym is_accepted) p

  starves : (files : Files) → BrokeOff station false files first new → IsStarved (Accepted station) files first new
  starves files broken = ((λ same. absurd (let e : Accepted station ≡ Usage = same in cc)), inr (station, refl, broken))

  -- a rendering broke off
  pub broke_off : (e : RenderFault) → ForSome old.files (λ files. WrotePart station (is_device e) files old new) → CreatedFront (names_of station) old new
      → (e ≡ render_write → Rose old.writes new.writes) → Ended asked first new (Err (halt_of_render e))
  broke_off render_write parts front cause = (
    (let rose : Rose old.writes new.writes = cause refl in let low = read.writes in omega (arith, rose, low)),
    λ files t. for_one asked files (Granted plan library clocks way) (λ v. IsBroken v true files first new) (one files t)
        (of_station (λ v. IsBroken v true files first new) (station, refl, broke true files t (parts files (read.files ∙ t)) front)),
  )
  broke_off render_memory parts front cause = λ files t. for_each asked files (Granted plan library clocks way) (λ v. IsStarved v files first new) (one files t)
      (of_station (λ v. IsStarved v files first new) (starves files (broke false files t (parts files (read.files ∙ t)) front)))

  -- the report of a rendering
  pub wrote : (report : List ℕ) (value : Shown) → IsRendered station old new value → ((run : Run) → IsTold station run value → report ≡ report_of station run)
      → ForOneOf asked first (λ files v. IsDone v files first new report)
  wrote report value is report_is = λ files t.
      let renderable = (one files t).holds.prepared.renderable in
      let own = files_for asked files in
      for_one asked files (Granted plan library clocks way) (λ v. IsDone v files first new report) (one files t) (of_station (λ v. IsDone v files first new report) (inl (
        station,
        refl,
        record {
          run = is.run;
          lawful = is.lawful;
          written = is.all_written files (read.files ∙ t);
          created = is.made ∙ ap (after_making (names_of station)) read.created ∙ ap (λ ns. after_making ns first.created) (sym (files_named station is.run));
          closed = subst (λ (closed : Option (List Closing)). HaveListed (closings_of station is.run) closed new.closed) read.closed is.closed;
          report_is = report_is is.run is.told;
          no_gaps = laws.gapless own station is.run fit.plan_is renderable early;
          one = laws.one own station is.run fit.plan_is renderable early is.lawful;
          ordered = λ window lawful listing lead. laws.ordered (bare station) clocks (fit_setting station fit early) window (rendering_of asked).ticks is.run lawful listing lead;
          as_one_thread = laws.renders own station is.run fit.plan_is renderable early is.lawful;
        },
      )))

  -- a rendering whose last step is its report: memory may be refused for that
  pub ended_rendered : (r : Result (String Global) CallEnd) (value : Shown) → IfErr r (λ e. e ≡ no_memory) → ForSome old.files (λ files. WrotePart station false files old new)
      → CreatedFront (names_of station) old new → IsRendered station old new value
      → IfOk r (λ text. (run : Run) → IsTold station run value → string_bytes text ≡ report_of station run) → Ended asked first new r
  ended_rendered (Ok text) value starved parts front is says = wrote (string_bytes text) value is says
  ended_rendered (Err e) value starved parts front is says =
      subst (λ x. Ended asked first new (Err x)) (sym starved) (broke_off render_memory parts front (λ at. absurd (cc)))
