-- What a run of all engines leaves in the sinks, once they are given back.
use Rattle.std.proofs.Common.{◌≡◌, ◌<◌, ◌+◌, ◌∙◌, ℕ, suc, List, [], ◌∷◌, length, map, slice_index_or, arith, refl, ap, sym, subst, Bool}
use Rattle.std.specs.Prelude.{Option, Result, Ok, Err, OnOk, IfOk}
use Rattle.liq_base.specs.Pieces.{HasRoom, SinkTold}
use Rattle.liq_base.specs.Shelves.{ShelfTold}
use Rattle.plan_core.specs.declared.plan.Plan.{Plan}
use Rattle.plan_core.specs.declared.sink.BufferPlan.{BufferPlan}
use Rattle.clock_infer.specs.declared.clock_map.ClockMap.{ClockMap}
use Rattle.clock_infer.specs.declared.clock_map.NodeClock.TheVariants.{Main}
use Rattle.frame_core.specs.Calls.{Answer}
use Rattle.frame_core.specs.Library.{Sounds}
use Rattle.stream_meaning.specs.Instants.{Setting, answered}
use Rattle.stream_meaning.specs.Settings.{IsSetting}
use Rattle.run_records.specs.Records.{Run, Window, answers_of, setting_in}
use Rattle.clock_ticks.specs.declared.engine.ClockEngine.{ClockEngine}
use Rattle.buffer_ends.specs.Local.{Answers}
use Rattle.buffer_ends.specs.declared.counts.Counts.{Counts}
use Rattle.buffer_ends.specs.declared.run_end.End.{End}
use Rattle.buffer_ends.specs.declared.run_end.End.TheVariants.{Write}
use Rattle.rounds_run.specs.Runs.{AreOver, counts_of_windows}
use Rattle.stations.specs.Creations.{after_making, names_in}
use Rattle.stations.specs.Findings.{IsFit}
use Rattle.stations.specs.Stations.{Station, Way, answers_with}
use Rattle.stations.specs.Cues.{marks_if}
use Rattle.stations.specs.Streams.{body_size, counts_in}
use Rattle.station_render.specs.Sinks.{AreCreated, HasFailed}
use Rattle.station_render.specs.Engines.{AreEmptyBelow, AreKeeping, ArePast, outs_of}
use Rattle.station_render.specs.Marks.{cues_of}
use Rattle.trace_records.specs.Traces.{base_of}
use Rattle.station_render.specs.Renders.{AreMain, IsPart, IsReady, IsWhole, order_of, written}
use Rattle.station_render.specs.EngineRuns.{AreOpened, RanAll, RanSome}
use Rattle.station_render.specs.Runs.{HasRecord, RanPart, RanWhole, counts_from}
use Rattle.station_render.specs.OutputSinks.{inner, output_told}
use Rattle.station_render.specs.declared.output_sink.OutputSink.{OutputSink}
use Rattle.station_render.specs.declared.rendered.Rendered.{Rendered}
use Rattle.station_render.proofs.Lists.{got_is}
use Rattle.station_render.proofs.Creating.{created_as, part_of_ready}
use Rattle.station_render.proofs.Ending.{begun_all}
use Rattle.station_render.proofs.Fits.{are_main}
use Rattle.station_render.proofs.Gathering.{lawful_many, not_begun}
use Rattle.station_render.proofs.Running.{LieInMain, all_part, all_whole, keep_after, may_run, stand_after}

-- the counts of a record are those of its buffers
counts_at : (run : Run) (b : ℕ) (xs : List (List Window)) (plans : List BufferPlan) → length xs ≡ length plans → ((k : ℕ) → slice_index_or run.buffers (b + k) [] ≡ slice_index_or xs k [])
    → map counts_of_windows xs ≡ counts_from run b plans
counts_at run b [] [] size at = refl
counts_at run b [] (plan ∷ plans) size at = absurd (omega (arith, size))
counts_at run b (x ∷ xs) [] size at = absurd (omega (arith, size))
counts_at run b (x ∷ xs) (plan ∷ plans) size at =
    let here : b + 0 ≡ b = omega arith in
    let first : counts_of_windows x ≡ counts_of_windows (slice_index_or run.buffers b []) = ap counts_of_windows (sym (at 0) ∙ ap (λ n. slice_index_or run.buffers n []) here) in
    let others = counts_at run (suc b) xs plans (omega (arith, size)) (λ k. let next : suc b + k ≡ b + suc k = omega arith in ap (λ n. slice_index_or run.buffers n []) next ∙ at (suc k)) in
    λ i. first i ∷ others i

module _ (plan : Plan) (library : Sounds) (clocks : ClockMap) (start ticks : ℕ) where
  abbrev setting : Setting
  setting = base_of plan library clocks start

  abbrev station : (way : Way) → (trace : Option (List ℕ)) → (cues : Bool) → Station
  station way trace cues = record { plan = plan; library = library; clocks = clocks; start = start; ticks = ticks; way = way; trace = trace; cues = cues }

  pub in_main : AreMain plan clocks → LieInMain setting plan.sinks
  in_main main k name node fallible wide at = let found = main k name node fallible wide at in (found.0, got_is clocks.of node (Main found.0) (Main 0) found.2)

  -- no engine was made, and the sinks are as they were
  pub starved : {O : Type 0} (told : O → SinkTold) (shelf : ShelfTold) (groups : List (List (OutputSink O))) (way : Way) (trace : Option (List ℕ)) (cues : Bool)
      → HasRecord setting clocks.running ticks way → (made_now : Option (List (List ℕ))) → made_now ≡ after_making (names_in plan.sinks) shelf.created
      → AreCreated (IsReady told shelf setting ticks) (written plan.sinks) (order_of setting (written plan.sinks)) groups
      → (ran : RanPart told shelf (station way trace cues) (order_of setting (written plan.sinks)) groups made_now) × ((m : ℕ) → ran.begun.made m ≡ 0)
  starved told shelf groups way trace cues may made_now is ready =
      let none = not_begun setting clocks.running ticks way may in
      let made = none.begun.made in let tried = none.begun.tried in (
        record {
          run = none.run;
          begun = none.begun;
          parts = begun_all told shelf setting (answers_with way none.run) ticks made tried (order_of setting (written plan.sinks)) groups made_now is
              (λ rest. created_as (IsReady told shelf setting ticks) (IsPart told shelf (answered setting (answers_with way none.run rest)) ticks made tried)
              (part_of_ready told shelf setting ticks made tried none.none (answers_with way none.run rest))
              (written plan.sinks) (order_of setting (written plan.sinks)) groups ready);
        },
        none.none,
      )

-- what a job fits has a meaning
pub is_setting : {plan : Plan} {library : Sounds} {clocks : ClockMap} {start ticks : ℕ} → IsFit plan library clocks ticks → start < 604800 → IsSetting (base_of plan library clocks start) clocks
is_setting fit low = record {
  plan = fit.plan_is;
  map = fit.map;
  each = refl;
  library = fit.sounds;
  leaves = fit.leaves;
  singles = fit.singles;
  start = low;
}

module _ {plan : Plan} {library : Sounds} {clocks : ClockMap} {start ticks : ℕ} {O : Type 0} {told : O → SinkTold} {shelf : ShelfTold} {order : List ℕ}
    {old : List (ClockEngine (OutputSink O))} {groups : List (List (OutputSink O))} (fit : IsFit plan library clocks ticks)
    (opened : AreOpened told shelf (base_of plan library clocks start) clocks ticks order old groups) where
  abbrev world : Setting
  world = base_of plan library clocks start

  mains : LieInMain world plan.sinks
  mains = in_main plan library clocks start ticks (are_main plan library clocks ticks fit)

  rooms : AreCreated (λ output sink. HasRoom (output_told told sink).room (body_size world output.wide ticks output.node)) (written plan.sinks) (order_of world (written plan.sinks)) (outs_of old)
  rooms = created_as (IsReady told shelf world ticks) (λ output sink. HasRoom (output_told told sink).room (body_size world output.wide ticks output.node)) (λ output sink is. is.room)
      (written plan.sinks) (order_of world (written plan.sinks)) (outs_of old) opened.ready

  -- the engines may begin
  pub over_plan : AreOver (output_told told) plan ticks world old
  over_plan = record { plan_is = refl; well = fit.plan_is; are = may_run world ticks mains (output_told told) old opened.at rooms }

  -- after a run; `last` are the engines that are handed back
  module _ {new last : List (ClockEngine (OutputSink O))} (last_is : last ≡ new) where
    pub last_many : length new ≡ length old → length last ≡ clocks.running
    last_many size = ap length last_is ∙ size ∙ opened.all

    -- the places of their sinks wait for them
    pub places_many : length new ≡ length old → length groups ≡ length last
    places_many size = opened.many ∙ sym size ∙ ap length (sym last_is)

    pub places_empty : length new ≡ length old → AreEmptyBelow (length last) groups
    places_empty size = subst (λ n. AreEmptyBelow n groups) (sym size ∙ ap length (sym last_is)) opened.taken

    groups_are : (groups_new : List (List (OutputSink O))) → groups_new ≡ outs_of last → groups_new ≡ outs_of new
    groups_are groups_new back = back ∙ ap outs_of last_is

    module _ {way : Way} where
      -- they stand for all ticks
      stand : {counts : List Counts} {logs : List (List Answers)} (ran : RanAll (output_told told) world clocks.running ticks way old new counts logs) → ArePast world (setting_in world ran.run) ticks last
      stand ran =
          subst (λ es. ArePast world (setting_in world ran.run) ticks es) (sym last_is) (stand_after (output_told told) world (setting_in world ran.run) ticks old new opened.at ran.engines)

      pub stand_so : {counts : List Counts} {logs : List (List Answers)} → RanAll (output_told told) world clocks.running ticks way old new counts logs
          → (other : Setting) × (meant : Setting) × (t : ℕ) × (other.plan ≡ plan) × (other.clocks ≡ clocks.of) × ArePast other meant t last
      stand_so ran = (world, setting_in world ran.run, ticks, refl, refl, stand ran)

      -- and keep their marks, where these are wanted
      pub keep_so : {counts : List Counts} {logs : List (List Answers)} (wanted : Bool) → AreKeeping wanted old → RanAll (output_told told) world clocks.running ticks way old new counts logs → AreKeeping wanted last
      keep_so wanted keep ran = subst (AreKeeping wanted) (sym last_is) (keep_after (output_told told) (setting_in world ran.run) ticks wanted old new keep ran.engines)

      module _ {groups_new : List (List (OutputSink O))} (back : groups_new ≡ outs_of last) where
        -- the sinks of all outputs hold as much
        pub parts_back : {end : End} (some : RanSome (output_told told) world clocks.running ticks way old new end) (rest : ℕ → List Answer)
            → AreCreated (IsPart told shelf (answered world (answers_with way some.run rest)) ticks some.begun.made some.begun.tried) (written plan.sinks) order groups_new
        parts_back some rest =
            subst (λ (z : List ℕ × List (List (OutputSink O))). AreCreated (IsPart told shelf (answered world (answers_with way some.run rest)) ticks some.begun.made some.begun.tried) (written plan.sinks) z.0 z.1)
            (λ i. (sym opened.order_is i, sym (groups_are groups_new back) i))
            (all_part told shelf world ticks mains old new opened.at opened.ready (answers_with way some.run) some.begun.made some.begun.tried some.part rest)

        abbrev pub part_back : (trace : Option (List ℕ)) (cues : Bool) {end : End} (made_now : Option (List (List ℕ))) → made_now ≡ after_making (names_in plan.sinks) shelf.created → RanSome (output_told told) world clocks.running ticks way old new end
            → RanPart told shelf (record { plan = plan; library = library; clocks = clocks; start = start; ticks = ticks; way = way; trace = trace; cues = cues }) order groups_new made_now
        part_back trace cues made_now is some = record {
          run = some.run;
          begun = some.begun;
          parts = begun_all told shelf world (answers_with way some.run) ticks some.begun.made some.begun.tried order groups_new made_now is (parts_back some);
        }

        pub failed_back : {end : End} → RanSome (output_told told) world clocks.running ticks way old new end → (clock sink : ℕ) → end ≡ Write clock sink → HasFailed (inner told) groups_new
        failed_back some clock sink is =
            let failed = some.failed clock sink is in
            subst (λ gs. HasFailed (inner told) gs) (sym (groups_are groups_new back))
            (record { clock = failed.clock; place = failed.place; group = failed.group; sink = failed.sink; there = failed.there; stands = failed.stands; failed = failed.failed })

        -- where all ticks were made, this is told of them
        whole_back : (trace : Option (List ℕ)) (cues : Bool) {counts : List Counts} {logs : List (List Answers)} (ran : RanAll (output_told told) world clocks.running ticks way old new counts logs) (rendered : Rendered)
            → rendered.counts.items ≡ counts → rendered.logs.items ≡ logs → rendered.gaps.items ≡ counts_in (setting_in world ran.run) ticks plan.sinks
            → cues_of rendered.cues.items ≡ marks_if cues (setting_in world ran.run) ticks plan.sinks
            → RanWhole told shelf (record { plan = plan; library = library; clocks = clocks; start = start; ticks = ticks; way = way; trace = trace; cues = cues }) order groups_new rendered
        whole_back trace cues ran rendered counts_are logs_are gaps_are cues_are =
            let few = fit.few in
            record {
              run = ran.run;
              lawful = ran.lawful;
              tells = record {
                gaps_are = gaps_are;
                counts_are = counts_are ∙ ran.counts_are
                    ∙ counts_at ran.run 0 ran.run.buffers plan.buffers (lawful_many world clocks.running ticks way ran.run ran.lawful) (λ k. let same : 0 + k ≡ k = omega arith in ap (λ n. slice_index_or ran.run.buffers n []) same);
                logs_are = logs_are ∙ ran.logs_are;
                cues_are = cues_are;
              };
              whole = subst (λ (z : List ℕ × List (List (OutputSink O))). AreCreated (IsWhole told shelf (setting_in world ran.run) ticks) (written plan.sinks) z.0 z.1) (λ i. (sym opened.order_is i, sym (groups_are groups_new back) i))
                  (all_whole told shelf world ticks mains old new opened.at opened.ready (omega (arith, few)) (answers_of ran.run) ran.engines);
            }

        pub whole_told : (trace : Option (List ℕ)) (cues : Bool) {counts : List Counts} {logs : List (List Answers)} {E Done : Type 0} (result : Result Rendered E)
            → (Done → RanAll (output_told told) world clocks.running ticks way old new counts logs) → OnOk result Done
            → IfOk result (λ rendered. (other meant : Setting) (t : ℕ) → other.plan ≡ plan → other.clocks ≡ clocks.of → ArePast other meant t last → rendered.gaps.items ≡ counts_in meant t plan.sinks)
            → IfOk result (λ rendered. (other meant : Setting) (t : ℕ) → other.plan ≡ plan → other.clocks ≡ clocks.of → ArePast other meant t last → cues_of rendered.cues.items ≡ marks_if cues meant t plan.sinks)
            → IfOk result (λ rendered. rendered.counts.items ≡ counts) → IfOk result (λ rendered. rendered.logs.items ≡ logs)
            → IfOk result (RanWhole told shelf (record { plan = plan; library = library; clocks = clocks; start = start; ticks = ticks; way = way; trace = trace; cues = cues }) order groups_new)
        whole_told trace cues (Ok rendered) all done gaps marks counts_are logs_are =
            let ran = all done in
            whole_back trace cues ran rendered counts_are logs_are (gaps world (setting_in world ran.run) ticks refl refl (stand ran)) (marks world (setting_in world ran.run) ticks refl refl (stand ran))
        whole_told trace cues (Err fault) all done gaps marks counts_are logs_are = tt
