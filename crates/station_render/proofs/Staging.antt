-- What is known between the parts of a rendering.
use Rattle.std.proofs.Common.{◌≡◌, ◌<◌, ℕ, List, [], length, get_or, refl, sym, subst, true}
use Rattle.std.specs.Prelude.{Option, Result, Err, OnOk, IfOk}
use Rattle.liq_base.specs.Pieces.{SinkTold}
use Rattle.liq_base.specs.Shelves.{ShelfTold}
use Rattle.stream_meaning.specs.Instants.{Setting}
use Rattle.clock_ticks.specs.declared.engine.ClockEngine.{ClockEngine}
use Rattle.buffer_ends.specs.declared.run_end.RunEnd.{RunEnd}
use Rattle.buffer_ends.specs.declared.run_end.End.TheVariants.{Done, Write}
use Rattle.clock_threads.specs.ThreadRuns as threads
use Rattle.stations.specs.Creations.{after_making, names_in}
use Rattle.stations.specs.Cues.{marks_if}
use Rattle.stations.specs.Stations.{Way}
use Rattle.stations.specs.Streams.{counts_in}
use Rattle.station_render.specs.Engines.{AreEmptyBelow, AreKeeping, ArePast, outs_of}
use Rattle.station_render.specs.EngineRuns.{AreOpened, HaveEnded}
use Rattle.station_render.specs.Faults.{is_device}
use Rattle.station_render.specs.Listed.{WillClose}
use Rattle.station_render.specs.Marks.{cues_of}
use Rattle.station_render.specs.OutputSinks.{inner, output_told}
use Rattle.station_render.specs.Runs.{IsFitting, RanPart, RanWhole, name_in, setting_by, station_in}
use Rattle.station_render.specs.Sinks.{AreCreated, HasFailed}
use Rattle.station_render.specs.Stages.{AreReady, HaveOpened, HaveTicked, MayClose}
use Rattle.station_render.specs.declared.fault.RenderFault.{RenderFault}
use Rattle.station_render.specs.declared.fault.RenderFault.TheVariants.{Write as write_fault, Memory as memory_fault}
use Rattle.station_render.specs.declared.job.Job.{Job}
use Rattle.station_render.specs.declared.output_sink.OutputSink.{OutputSink}
use Rattle.station_render.specs.declared.rendered.Rendered.{Rendered}
use Rattle.station_render.proofs.Listing.{part_closed}
use Rattle.station_render.proofs.Lists.{got}
use Rattle.station_render.proofs.Returning.{failed_back, is_setting, keep_so, last_many, over_plan, part_back, parts_back, places_empty, places_many, stand_so, whole_told}

-- one fault is the other
pub err_same : {T E : Type 0} (fault other : E) → ◌≡◌ {A = Result T E} (Err fault) (Err other) → fault ≡ other
err_same fault other e = cc

-- a device failed at a write
pub device_is : (fault : RenderFault) → is_device fault ≡ true → fault ≡ write_fault
device_is write_fault is = refl
device_is memory_fault is = absurd (cc)

-- the engines of opened outputs may begin
pub ready_of : {O : Type 0} {told : O → SinkTold} {shelf : ShelfTold} {job : Job} {order : List ℕ} {engines : List (ClockEngine (OutputSink O))} {groups : List (List (OutputSink O))}
    → IsFitting job → AreOpened told shelf (setting_by job) job.ready.clocks job.ticks order engines groups → AreReady (output_told told) job engines
ready_of fit opened = record { all = opened.all; at = opened.at; over = over_plan fit opened }

-- by threads
pub ready_by_threads : {S : Type 0} {told : S → SinkTold} {job : Job} {engines : List (ClockEngine S)} → IsFitting job → AreReady told job engines → job.start.second < 604800
    → threads.AreEngines told job.plan job.ready.clocks job.ticks (setting_by job) engines
ready_by_threads {S} {told} {job} {engines} fit ready low = record {
  is = is_setting fit low;
  plan_is = refl;
  all = ready.all;
  each = λ k d below.
      let there = got engines k d below in
      let is = ready.at.each k (get_or engines k d) there in
      record {
        over = is.over;
        clock = is.clock_is;
        stands = is.stands;
        rooms = (ready.over.are.each k (get_or engines k d) there).rooms;
      };
}

-- the same engines in another place
pub ready_at : {S : Type 0} {told : S → SinkTold} {job : Job} {engines old : List (ClockEngine S)} → old ≡ engines → AreReady told job engines → AreReady told job old
ready_at {S} {told} {job} {engines} {old} same ready = subst (λ es. AreReady told job es) (sym same) ready

pub ticked_at : {S : Type 0} {told : S → SinkTold} {job : Job} {way : Way} {old was new last : List (ClockEngine S)} {run : RunEnd} → was ≡ old → last ≡ new
    → HaveTicked told job way was new run → HaveTicked told job way old last run
ticked_at {S} {told} {job} {way} {old} {was} {new} {last} {run} was_is last_is ticked =
    subst (λ (z : List (ClockEngine S) × List (ClockEngine S)). HaveTicked told job way z.0 z.1 run) (λ i. (was_is i, sym last_is i)) ticked

-- opened engines made their ticks
pub may_close : {O : Type 0} (told : O → SinkTold) {shelf : ShelfTold} {job : Job} {way : Way} {order : List ℕ} {groups : List (List (OutputSink O))}
    {fresh engines : List (ClockEngine (OutputSink O))} {run : RunEnd} → HaveOpened told shelf job order groups fresh
    → HaveTicked (output_told told) job way fresh engines run → MayClose told shelf job way order groups engines run
may_close told {fresh = fresh} opened ticked = record { fresh = fresh; opened = opened; ticked = ticked }

module _ {O : Type 0} {told : O → SinkTold} {shelf : ShelfTold} {job : Job} {way : Way} {order : List ℕ} {groups : List (List (OutputSink O))}
    {engines : List (ClockEngine (OutputSink O))} {run : RunEnd} (fit : IsFitting job) (may : MayClose told shelf job way order groups engines run) where
  pub all_back : length engines ≡ job.ready.clocks.running
  all_back = last_many fit may.opened.opened refl may.ticked.some.part.size

  pub places_back : length groups ≡ length engines
  places_back = places_many fit may.opened.opened refl may.ticked.some.part.size

  pub empty_back : AreEmptyBelow (length engines) groups
  empty_back = places_empty fit may.opened.opened refl may.ticked.some.part.size

  pub ended_back : run.end ≡ Done → HaveEnded job engines
  ended_back done = stand_so fit may.opened.opened refl (may.ticked.all done)

  pub keep_back : run.end ≡ Done → AreKeeping job.cues engines
  keep_back done = keep_so fit may.opened.opened refl job.cues may.opened.keeping (may.ticked.all done)

  -- once the sinks are back in their places
  module _ {groups_new : List (List (OutputSink O))} (back : groups_new ≡ outs_of engines) where
    abbrev pub part_after : (made_now : Option (List (List ℕ))) → made_now ≡ after_making (names_in job.plan.sinks) shelf.created
        → RanPart told shelf (station_in job way) order groups_new made_now
    part_after made_now is = part_back fit may.opened.opened refl back (name_in job) job.cues made_now is may.ticked.some

    pub failed_after : (clock sink : ℕ) → run.end ≡ Write clock sink → HasFailed (inner told) groups_new
    failed_after clock sink is = failed_back fit may.opened.opened refl back may.ticked.some clock sink is

    pub closes_after : AreCreated (WillClose told shelf.closed) (names_in job.plan.sinks) order groups_new
    closes_after =
        part_closed told shelf _ job.ticks may.ticked.some.begun.made may.ticked.some.begun.tried job.plan.sinks order groups_new
        (parts_back fit may.opened.opened refl back may.ticked.some (λ buffer. []))

    module _ {E : Type 0} (result : Result Rendered E) (done : OnOk result (run.end ≡ Done)) where
      pub whole_after : IfOk result (λ rendered. (other meant : Setting) (t : ℕ) → other.plan ≡ job.plan → other.clocks ≡ job.ready.clocks.of → ArePast other meant t engines → rendered.gaps.items ≡ counts_in meant t job.plan.sinks)
          → IfOk result (λ rendered. (other meant : Setting) (t : ℕ) → other.plan ≡ job.plan → other.clocks ≡ job.ready.clocks.of → ArePast other meant t engines
          → cues_of rendered.cues.items ≡ marks_if job.cues meant t job.plan.sinks)
          → IfOk result (λ rendered. rendered.counts.items ≡ run.counts.items) → IfOk result (λ rendered. rendered.logs.items ≡ run.logs.items)
          → IfOk result (RanWhole told shelf (station_in job way) order groups_new)
      whole_after gaps marks counts_are logs_are = whole_told fit may.opened.opened refl back (name_in job) job.cues result may.ticked.all done gaps marks counts_are logs_are
