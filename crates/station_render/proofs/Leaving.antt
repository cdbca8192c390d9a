-- The files behind the outputs: the cue files, and the trace.
use Rattle.std.proofs.Common.{◌≡◌, ◌≤◌, ◌∙◌, ◌++◌, ℕ, suc, Bool, true, false, List, [], ◌∷◌, length, map, refl, ap, sym, subst, inr, true≢false}
use Rattle.std.specs.Prelude.{Option, Some, Result, Ok, Err, OnOk, IfOk, IsErrOf, IsSomeAnd, Vec}
use Rattle.std.specs.declared.alloc.Global.{Global}
use Rattle.std.specs.Option.{ForSome}
use Rattle.std.proofs.lemmas.List.{map-append}
use Rattle.liq_base.specs.Counts.{Rose}
use Rattle.liq_base.specs.Files.{Files, HoldsPart}
use Rattle.liq_base.specs.Shelves.{ShelfTold}
use Rattle.liq_base.specs.Kept.{some_and}
use Rattle.plan_core.specs.declared.sink.SinkPlan.{SinkPlan}
use Rattle.plan_core.specs.declared.sink.SinkPlan.TheVariants.{Output, Feed}
use Rattle.stream_meaning.specs.Instants.{Setting}
use Rattle.stream_meaning.specs.Sinks.{cues}
use Rattle.clock_ticks.specs.declared.cues.CueMark.{CueMark}
use Rattle.run_records.specs.Records.{Run}
use Rattle.buffer_ends.specs.Local.{Answers}
use Rattle.buffer_sides.specs.Logs.{told as told_of}
use Rattle.stations.specs.Creations.{CreatedFront, HaveListed, after_making, closing_at_once, closings_in, names_in, names_of, trace_names_in}
use Rattle.stations.specs.Cues.{cue_files, cue_names_if, cues_if, cues_in, marks_if, marks_in}
use Rattle.stations.specs.Outputs.{HoldsUpto, OutputFile, with_outputs}
use Rattle.stations.specs.Renderings.{WrotePart}
use Rattle.stations.specs.Stations.{Station, Way, InRounds, InWindows, Again, setting_of_run}
use Rattle.stations.specs.Streams.{output_files}
use Rattle.stations.specs.Traces.{later_files, traced, traces_in}
use Rattle.stations.proofs.Making.{front_made, then_listed, then_made}
use Rattle.stations.proofs.Parts.{both_outputs, upto_front, upto_none, upto_then}
use Rattle.station_render.specs.Faults.{ended_by_device, is_device}
use Rattle.station_render.specs.Marks.{cue_file, cue_files_if, cue_files_with, cues_of}
use Rattle.station_render.specs.Renders.{written}
use Rattle.station_render.specs.Renderings.{Renders}
use Rattle.station_render.specs.Runs.{IsRendered, IsTold, WroteOutputs, name_in, station_in, traces_by}
use Rattle.station_render.specs.declared.fault.RenderFault.{RenderFault}
use Rattle.station_render.specs.declared.fault.RenderFault.TheVariants.{Write}
use Rattle.station_render.specs.declared.job.Job.{Job}
use Rattle.station_render.specs.declared.rendered.Rendered.{Rendered}

-- the cue files, by the marks
cues_made : (setting : Setting) (ticks : ℕ) (sinks : List SinkPlan) → cue_files_with setting.library sinks (marks_in setting ticks sinks) ≡ cues_in setting ticks sinks
cues_made setting ticks [] = refl
cues_made setting ticks (Output name node fallible wide ∷ sinks) = ap (λ rest. cue_file setting.library name (cues setting node ticks) ∷ rest) (cues_made setting ticks sinks)
cues_made setting ticks (Feed buffer node ∷ sinks) = cues_made setting ticks sinks

pub cues_wanted : (wanted : Bool) (setting : Setting) (ticks : ℕ) (sinks : List SinkPlan) → cue_files_if wanted setting.library sinks (marks_if wanted setting ticks sinks) ≡ cues_if wanted setting ticks sinks
cues_wanted false setting ticks sinks = refl
cues_wanted true setting ticks sinks = cues_made setting ticks sinks

pub marks_many : (setting : Setting) (ticks : ℕ) (sinks : List SinkPlan) → length (marks_in setting ticks sinks) ≡ length (written sinks)
marks_many setting ticks [] = refl
marks_many setting ticks (Output name node fallible wide ∷ sinks) = ap suc (marks_many setting ticks sinks)
marks_many setting ticks (Feed buffer node ∷ sinks) = marks_many setting ticks sinks

-- the trace of a run, by its logs
traces_are : (way : Way) (station : Station) (run : Run) (logs : List (List Answers)) → logs ≡ map (map told_of) run.buffers → traces_in way station run ≡ traces_by way station.trace station.ticks logs
traces_are InRounds station run logs are = refl
traces_are (InWindows window) station run logs are = ap (λ (bs : List (List Answers)). traced station.trace (record { ticks = station.ticks; window = window; buffers = bs })) (sym are)
traces_are (Again trace) station run logs are = refl

-- files that were written up to one of them, where those before them are told
module _ (before mid after : Option Files) (cues traces : List OutputFile) where
  pub part_first : ForSome before (λ files. IsSomeAnd after (HoldsUpto files cues)) → ForSome before (λ files. IsSomeAnd after (HoldsUpto files (cues ++ traces)))
  part_first part files at = some_and after (HoldsUpto files cues) (HoldsUpto files (cues ++ traces)) (λ now upto. upto_front files cues traces now upto) (part files at)

  pub part_behind : ForSome before (λ files. mid ≡ Some (with_outputs files cues)) → ForSome mid (λ files. IsSomeAnd after (HoldsUpto files traces)) → ForSome before (λ files. IsSomeAnd after (HoldsUpto files (cues ++ traces)))
  part_behind whole part files at =
      some_and after (HoldsUpto (with_outputs files cues) traces) (HoldsUpto files (cues ++ traces)) (λ now upto. upto_then files cues traces now upto) (part (with_outputs files cues) (whole files at))

  pub whole_behind : ForSome before (λ files. mid ≡ Some (with_outputs files cues)) → ForSome mid (λ files. after ≡ Some (with_outputs files traces)) → ForSome before (λ files. after ≡ Some (with_outputs files (cues ++ traces)))
  whole_behind whole others files at = others (with_outputs files cues) (whole files at) ∙ ap Some (sym (both_outputs files cues traces))

-- none of them was written
pub part_none : (before : Option Files) (outputs : List OutputFile) → ForSome before (λ files. IsSomeAnd before (HoldsUpto files outputs))
part_none before outputs files at = subst (λ told. IsSomeAnd told (HoldsUpto files outputs)) (sym at) (upto_none files outputs)

-- one file, wholly or in part
pub one_part : (before after : Option Files) (name bytes : List ℕ) → ForSome before (λ files. IsSomeAnd after (HoldsPart files name bytes))
    → ForSome before (λ files. IsSomeAnd after (HoldsUpto files ((record { name = name; bytes = bytes }) ∷ [])))
one_part before after name bytes part files at =
    some_and after (HoldsPart files name bytes) (HoldsUpto files ((record { name = name; bytes = bytes }) ∷ [])) (λ now p. record {
      whole = [];
      others = (record { name = name; bytes = bytes }) ∷ [];
      outputs_are = refl;
      part = p;
    }) (part files at)

-- the outputs were written, and then the files behind them
module _ (station : Station) (first mid : ShelfTold) (rendered : Rendered) (wrote : WroteOutputs station first mid rendered) where
  pub later_part : mid.created ≡ after_making (names_in station.plan.sinks) first.created → (names : List (List ℕ)) (device : Bool) (last : ShelfTold) → CreatedFront names mid last → (later : List OutputFile) → later_files station wrote.run ≡ later → ForSome mid.files (λ files. IsSomeAnd last.files (HoldsUpto files later))
      → ForSome first.files (λ files. WrotePart station device files first last)
  later_part made names device last front later is part files at =
      let outputs = output_files station wrote.run in
      inr (record {
        run = wrote.run;
        lawful = wrote.lawful;
        part = some_and last.files (HoldsUpto (with_outputs files outputs) later) _ (λ now upto. inr (subst (λ l. HoldsUpto (with_outputs files outputs) l now) (sym is) upto)) (part (with_outputs files outputs) (wrote.outputs_written files at));
        more = front.made;
        created = then_made (names_in station.plan.sinks) front.made first.created mid.created last.created made front.told;
      })

  pub later_whole : (later : List OutputFile) (last : ShelfTold) (said : Rendered) → later_files station wrote.run ≡ later → IsTold station wrote.run said
      → ForSome mid.files (λ files. last.files ≡ Some (with_outputs files later)) → last.created ≡ after_making (names_of station) first.created → HaveListed (map closing_at_once later) mid.closed last.closed
      → IsRendered station first last said
  later_whole later last said is told whole made listed = record {
    run = wrote.run;
    lawful = wrote.lawful;
    told = told;
    all_written = λ files at.
        let outputs = output_files station wrote.run in
        whole (with_outputs files outputs) (wrote.outputs_written files at) ∙ ap Some (sym (both_outputs files outputs later) ∙ ap (λ l. with_outputs files (outputs ++ l)) (sym is));
    made = made;
    closed = then_listed (closings_in (setting_of_run station wrote.run) station.ticks station.plan.sinks) (map closing_at_once (later_files station wrote.run)) first.closed mid.closed last.closed wrote.listed
        (subst (λ l. HaveListed (map closing_at_once l) mid.closed last.closed) (sym is) listed);
  }

  -- the cue files are those of the marks
  pub cues_are : cue_files station wrote.run ≡ cue_files_if station.cues station.library station.plan.sinks (cues_of rendered.cues.items)
  cues_are =
      sym (cues_wanted station.cues (setting_of_run station wrote.run) station.ticks station.plan.sinks)
      ∙ ap (cue_files_if station.cues station.library station.plan.sinks) (sym wrote.told.cues_are)

  marks_of_all : (wanted : Bool) → wanted ≡ true → length (marks_if wanted (setting_of_run station wrote.run) station.ticks station.plan.sinks) ≡ length (written station.plan.sinks)
  marks_of_all true is = marks_many (setting_of_run station wrote.run) station.ticks station.plan.sinks
  marks_of_all false is = absurd (true≢false (sym is))

  -- each output has its marks
  pub has_marks : station.cues ≡ true → length rendered.cues.items ≡ length (written station.plan.sinks)
  has_marks wanted =
      sym (many_lists rendered.cues.items) ∙ ap length wrote.told.cues_are ∙ marks_of_all station.cues wanted
    where
      many_lists : (all : List (Vec CueMark Global)) → length (cues_of all) ≡ length all
      many_lists [] = refl
      many_lists (one ∷ others) = ap suc (many_lists others)

  abbrev cue_part : List OutputFile
  cue_part = cue_files_if station.cues station.library station.plan.sinks (cues_of rendered.cues.items)

  abbrev trace_part : List OutputFile
  trace_part = traces_by station.way station.trace station.ticks rendered.logs.items

  pub later_are : later_files station wrote.run ≡ cue_part ++ trace_part
  later_are = λ i. cues_are i ++ traces_are station.way station wrote.run rendered.logs.items wrote.told.logs_are i

  -- what is told stays, where the run's record is handed on
  pub told_again : (said : Rendered) → said.gaps.items ≡ rendered.gaps.items → said.counts.items ≡ rendered.counts.items → said.logs.items ≡ rendered.logs.items → said.cues.items ≡ rendered.cues.items
      → IsTold station wrote.run said
  told_again said gaps counts logs cues = record {
    gaps_are = gaps ∙ wrote.told.gaps_are;
    counts_are = counts ∙ wrote.told.counts_are;
    logs_are = logs ∙ wrote.told.logs_are;
    cues_are = ap cues_of cues ∙ wrote.told.cues_are;
  }

  pub rendered_by : {E : Type 0} (r : Result Rendered E) (between last : ShelfTold)
      → ForSome mid.files (λ files. between.files ≡ Some (with_outputs files cue_part)) → IfOk r (λ said. said.gaps.items ≡ rendered.gaps.items) → IfOk r (λ said. said.counts.items ≡ rendered.counts.items)
      → IfOk r (λ said. said.logs.items ≡ rendered.logs.items) → IfOk r (λ said. said.cues.items ≡ rendered.cues.items)
      → OnOk r (ForSome between.files (λ files. last.files ≡ Some (with_outputs files trace_part))) → OnOk r (last.created ≡ after_making (names_of station) first.created)
      → HaveListed (map closing_at_once cue_part) mid.closed between.closed → OnOk r (HaveListed (map closing_at_once trace_part) between.closed last.closed)
      → IfOk r (IsRendered station first last)
  rendered_by (Ok said) between last cues gaps counts logs marks traces made listed more =
      later_whole (cue_part ++ trace_part) last said later_are (told_again said gaps counts logs marks) (whole_behind mid.files between.files last.files cue_part trace_part cues traces) made
      (subst (λ cs. HaveListed cs mid.closed last.closed) (sym (map-append closing_at_once cue_part trace_part))
      (then_listed (map closing_at_once cue_part) (map closing_at_once trace_part) mid.closed between.closed last.closed listed more))
  rendered_by (Err e) between last cues gaps counts logs marks traces made listed more = tt

-- a rendering that broke off
pub broke_off : (station : Station) (old new : ShelfTold) (r : Result Rendered RenderFault) (e : RenderFault) → r ≡ Err e
    → ForSome old.files (λ files. WrotePart station (is_device e) files old new) → (IsErrOf r Write → Rose old.writes new.writes)
    → CreatedFront (names_of station) old new → old.reads ≤ new.reads → old.writes ≤ new.writes → Renders station old new r
broke_off station old new r e is part cause front reads writes = record {
  done = subst (λ x. IfOk x (IsRendered station old new)) (sym is) tt;
  part = subst (λ x. ForSome old.files (λ files. WrotePart station (ended_by_device x) files old new)) (sym is) part;
  cause = cause;
  front = front;
  reads_grew = reads;
  writes_grew = writes;
}

-- a rendering whose outputs were not opened
pub not_opened : (job : Job) (way : Way) (old new : ShelfTold) (r : Result Rendered RenderFault) (e : RenderFault) → r ≡ Err e
    → ForSome old.files (λ files. WrotePart (station_in job way) (is_device e) files old new) → (IsErrOf r Write → Rose old.writes new.writes)
    → CreatedFront (names_in job.plan.sinks) old new → old.reads ≤ new.reads → old.writes ≤ new.writes → Renders (station_in job way) old new r
not_opened job way old new r e is part cause front = broke_off (station_in job way) old new r e is part cause
    (front_made (names_in job.plan.sinks) (cue_names_if job.cues job.plan.sinks ++ trace_names_in way (name_in job)) old new front)
