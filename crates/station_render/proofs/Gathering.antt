-- What rounds and threads leave, as one record of a run.
use Rattle.std.proofs.Common.{◌≡◌, ◌≤◌, ◌+◌, ◌∙◌, ◌++◌, ◌⊎◌, true, false, ℕ, suc, Bool, List, [], ◌∷◌, length, map, flat_map, slice_get, slice_index_or, min, nat_lt, arith, refl, ap, sym, subst, inl, inr, if◌then◌else◌}
use Rattle.std.specs.Prelude.{Some, count_by, is_none, is_some, not}
use Rattle.std.proofs.lemmas.List.{map-append}
use native.Mathlib.Nat.{min-le_right}
use Rattle.std.proofs.Math.Nat.{min-eq_left, min-eq_right}
use Rattle.liq_base.specs.Counts.{Rose}
use Rattle.liq_base.specs.Pieces.{SinkTold}
use Rattle.clock_infer.specs.declared.clock_map.ClockMap.{ClockMap}
use Rattle.stream_meaning.specs.Instants.{Setting, with_rest}
use Rattle.stream_meaning.proofs.Answering.{begin_none}
use Rattle.stream_meaning.specs.Sinks.{IsOutput}
use Rattle.clock_ticks.specs.Pieces.{RoseAt}
use Rattle.run_records.specs.Records.{AreRoundsBegun, Follows, IsRounds, IsWithin, Run, Window, calls_in, capacity_of, made_by, on, setting_in, setting_then, ticks_by}
use Rattle.clock_ticks.specs.declared.engine.ClockEngine.{ClockEngine}
use Rattle.clock_ticks.specs.Engines.{setting_of}
use Rattle.buffer_queue.specs.Window.{is_chunk}
use Rattle.buffer_ends.specs.Local.{Answers, puts_of, takes_of_window, yes}
use Rattle.buffer_ends.specs.declared.counts.Counts.{Counts}
use Rattle.buffer_ends.specs.declared.run_end.End.{End}
use Rattle.rounds_run.specs.Rounds.{HaveRunPart}
use Rattle.run_records.specs.Buffers.{feeder}
use Rattle.run_records.proofs.Flattening.{start_most, start_zero}
use Rattle.clock_threads.proofs.Meeting.{low_or_high}
use Rattle.frame_core.specs.Legal.{Legal, IsHistory}
use Rattle.stream_meaning.specs.Calls.{IsBegin, joined_between, joined_upto}
use Rattle.std.proofs.lemmas.Bool.{le-ltb, lt-ltb}
use Rattle.rounds_run.specs.Runs.{HaveRunTicks, counts_of_windows}
use Rattle.rounds_run.specs.Runs as rounds
use Rattle.rounds_run.proofs.Lawful.{none_counted, some_counted}
use Rattle.rounds_run.proofs.Records.{run_of, window_at, windows_many}
use Rattle.buffer_sides.specs.Logs.{told as told_of}
use Rattle.clock_threads.specs.Logs.{counts_in}
use Rattle.clock_threads.specs.ThreadRuns as threads
use Rattle.trace_log.specs.Values.{TraceValue}
use Rattle.trace_replay.specs.Replays.{HasReplayedAll, HasReplayedSome}
use Rattle.trace_records.specs.Traces.{IsAccepted}
use Rattle.trace_records.proofs.Retelling.{record_of}
use Rattle.stations.specs.Stations.{Way, InRounds, InWindows, Again, IsBegunIn, IsLawfulIn, IsReplay}
use Rattle.station_render.specs.Sinks.{HasFailed}
use Rattle.station_render.specs.Engines.{AreAt, IsAt, outs_of}
use Rattle.station_render.specs.EngineRuns.{RanAll, RanSome}
use Rattle.station_render.specs.Runs.{HasRecord}
use Rattle.station_render.proofs.Lists.{got_is, mapped, within}

-- no tick before the first turn
none_by : (ticks k : ℕ) → ticks_by ticks 0 0 k ≡ 0
none_by ticks k = let low = min-le_right ticks (made_by 0 0 k) in let none : made_by 0 0 k ≡ 0 = rw (le-ltb k 0 (omega arith)) refl in omega (arith, low, none)

-- no clock makes more ticks than there are, or tries more than the one in which it stopped
least_of : (a b : ℕ) → ((min a b ≡ a) × (a ≤ b)) ⊎ ((min a b ≡ b) × (b ≤ a))
least_of a b = elim (low_or_high a b) [
  | inl low ↦ inl (min-eq_left (omega (arith, low)), omega (arith, low))
  | inr high ↦ inr (min-eq_right high, high)
]

within_all : (total made tried : ℕ) → made ≤ tried → tried ≤ suc made → IsWithin 0 total (min total made) (min total tried)
within_all total made tried no_fewer one_more = elim (least_of total made) [
  | inl a ↦ elim (least_of total tried) [
    | inl b ↦ (let e = a.0 in let f = b.0 in record { least = omega arith; most = omega (arith, f); no_fewer = omega (arith, e, f); one_more = omega (arith, e, f) })
    | inr b ↦ (let e = a.0 in let f = b.0 in let low = a.1 in let high = b.1 in record { least = omega arith; most = omega (arith, f, high); no_fewer = omega (arith, e, f, low, high, no_fewer); one_more = omega (arith, e, f, low, high) })
  ]
  | inr a ↦ elim (least_of total tried) [
    | inl b ↦ (let e = a.0 in let f = b.0 in let low = b.1 in let high = a.1 in record { least = omega arith; most = omega (arith, f); no_fewer = omega (arith, e, f, high); one_more = omega (arith, e, f, low, one_more) })
    | inr b ↦ (let e = a.0 in let f = b.0 in let high = b.1 in record { least = omega arith; most = omega (arith, f, high); no_fewer = omega (arith, e, f, no_fewer); one_more = omega (arith, e, f, one_more) })
  ]
]

-- of the turns of rounds
within_rounds : (total round clock k : ℕ) → IsWithin 0 total (ticks_by total round clock k) (ticks_by total round (clock + 1) k)
within_rounds total round clock k = elim (low_or_high k clock) [
  | inl low ↦ rw (lt-ltb k clock low, lt-ltb k (clock + 1) (omega (arith, low))) (within_all total (suc round) (suc round) (omega arith) (omega arith))
  | inr high ↦ rw (le-ltb k clock high) (by_next (nat_lt k (clock + 1)))
]
  where
    by_next : (b : Bool) → IsWithin 0 total (min total round) (min total (if b then suc round else round))
    by_next true = within_all total round (suc round) (omega arith) (omega arith)
    by_next false = within_all total round round (omega arith) (omega arith)

-- an accepted trace tells a record
record_there : (setting : Setting) (clocks ticks : ℕ) (trace : TraceValue) → IsAccepted setting clocks ticks trace → (run : Run) × IsReplay setting clocks ticks trace run
record_there setting clocks ticks trace accepted =
    let at : IsAccepted setting clocks trace.ticks trace = subst (λ n. IsAccepted setting clocks n trace) (sym accepted.ticks) accepted in
    (at.ordered.run, record { ticks_are = accepted.ticks; of = record_of setting clocks trace at })

-- a record of which no clock has made a tick
pub record NoneMade (setting : Setting) (clocks ticks : ℕ) (way : Way) : Type 0 where
  pub run : Run
  pub begun : IsBegunIn setting clocks ticks way run
  pub none : (k : ℕ) → begun.made k ≡ 0

-- that of a run that made no call, or of a trace
pub not_begun : (setting : Setting) (clocks ticks : ℕ) (way : Way) → HasRecord setting clocks ticks way → NoneMade setting clocks ticks way
not_begun setting clocks ticks InRounds may = record {
  run = run_of (length setting.plan.buffers) [];
  begun = record {
    made = ticks_by ticks 0 0;
    tried = ticks_by ticks 0 1;
    within = within_rounds ticks 0 0;
    came = record {
      rounds = record {
        buffers = windows_many [] 0 (length setting.plan.buffers);
        calls = [];
        round = 0;
        clock = 0;
        begun = λ rest. ((λ m t buffer. true), begin_none _);
        turn = λ rest. ((λ m t buffer. true), begin_none [], begin_none _);
        are = window_at (length setting.plan.buffers) [];
        in_order = λ buffer low. ([], refl);
      };
      made_are = λ m. refl;
      tried_are = λ m. refl;
    };
  };
  none = none_by ticks;
}
not_begun setting clocks ticks (InWindows window) may = record {
  run = run_of (length setting.plan.buffers) [];
  begun = record {
    made = λ m. 0;
    tried = λ m. 0;
    within = λ m. record { least = omega arith; most = omega arith; no_fewer = omega arith; one_more = omega arith };
    came = record {
      windows = record {
        buffers = windows_many [] 0 (length setting.plan.buffers);
        accepted = λ m t buffer. true;
        closed = 0;
        made = λ m. 0;
        tried = λ m. 0;
        since = λ m. [];
        within = λ m. record { least = (let z = start_zero window ticks in omega (arith, z)); most = omega arith; no_fewer = omega arith; one_more = omega arith };
        level = λ m n low less same again. refl;
        ended = λ m n low stopped same. absurd (omega (arith, stopped));
        border = λ none m low. inl (sym (start_zero window ticks));
        whole = λ rest m. subst (λ n. IsBegin (joined_between (calls_in (setting_then setting (run_of (length setting.plan.buffers) []) rest) clocks (λ m t buffer. true) m) n 0) []) (sym (start_zero window ticks)) (begin_none []);
        begun = λ rest m. begin_none _;
        are = λ rest. window_at (length setting.plan.buffers) [];
        legal = λ buffer low. ([], subst (λ (ws : List Window). IsHistory (capacity_of setting buffer) [] ws []) (sym (window_at (length setting.plan.buffers) [] buffer low)) ([], Legal.all_done, refl));
        in_order = λ rest buffer low one. (
          [],
          subst (λ n. Follows (capacity_of setting buffer) [] (on buffer (joined_upto (calls_in (setting_then setting (run_of (length setting.plan.buffers) []) rest) clocks (λ m t buffer. true) (feeder setting buffer)) n ++ [])) [])
              (sym (start_zero window ticks)) refl,
        );
      };
      made_are = λ m. refl;
      tried_are = λ m. refl;
    };
  };
  none = λ k. refl;
}
not_begun setting clocks ticks (Again trace) may =
    let there = record_there setting clocks ticks trace may in
    record {
      run = there.0;
      begun = record {
        made = λ m. 0;
        tried = λ m. 0;
        within = λ m. record { least = omega arith; most = omega arith; no_fewer = omega arith; one_more = omega arith };
        came = (there.1, λ m n is other. absurd (omega (arith, is)));
      };
      none = λ k. refl;
    }

-- the record of a run has the windows of each buffer
pub lawful_many : (setting : Setting) (clocks ticks : ℕ) (way : Way) (run : Run) → IsLawfulIn setting clocks ticks way run → length run.buffers ≡ length setting.plan.buffers
lawful_many setting clocks ticks InRounds run lawful = lawful.buffers
lawful_many setting clocks ticks (InWindows window) run lawful = lawful.buffers
lawful_many setting clocks ticks (Again trace) run lawful = lawful.of.lawful.buffers

-- a sink whose count of faults rose has failed
pub failed_at : {S : Type 0} (told : S → SinkTold) (clock place : ℕ) (new : List (ClockEngine S)) (before after : ClockEngine S) → slice_get new clock ≡ Some after
    → RoseAt told place before.outs after.outs → HasFailed told (outs_of new)
failed_at told clock place new before after is rose = record {
  clock = clock;
  place = place;
  group = after.outs;
  sink = rose.after;
  there = mapped (λ engine. engine.outs) new clock after is;
  stands = rose.is;
  failed = (let more : Rose (told rose.before).faults (told rose.after).faults = rose.rose in omega (arith, more));
}

-- the counts of the logs of a record are its own
puts_told : (windows : List Window) → flat_map puts_of (map told_of windows) ≡ map is_chunk (flat_map (λ (window : Window). window.0) windows)
puts_told [] = refl
puts_told (window ∷ windows) = ap (λ (bs : List Bool). map is_chunk window.0 ++ bs) (puts_told windows) ∙ sym (map-append is_chunk window.0 (flat_map (λ (w : Window). w.0) windows))

takes_told : (windows : List Window) → flat_map takes_of_window (map told_of windows) ≡ map is_chunk (flat_map (λ (window : Window). window.1) windows)
takes_told [] = refl
takes_told (window ∷ windows) = ap (λ (bs : List Bool). map is_chunk window.1 ++ bs) (takes_told windows) ∙ sym (map-append is_chunk window.1 (flat_map (λ (w : Window). w.1) windows))

count_told : (windows : List Window) → counts_in (map told_of windows) ≡ counts_of_windows windows
count_told windows =
    let puts = puts_told windows in
    let takes = takes_told windows in
    let put = flat_map (λ (window : Window). window.0) windows in
    let take = flat_map (λ (window : Window). window.1) windows in
    let accepted : count_by yes (flat_map puts_of (map told_of windows)) ≡ count_by is_some put = ap (count_by yes) puts ∙ some_counted put in
    let full : count_by not (flat_map puts_of (map told_of windows)) ≡ count_by is_none put = ap (count_by not) puts ∙ none_counted put in
    let got : count_by yes (flat_map takes_of_window (map told_of windows)) ≡ count_by is_some take = ap (count_by yes) takes ∙ some_counted take in
    let empty : count_by not (flat_map takes_of_window (map told_of windows)) ≡ count_by is_none take = ap (count_by not) takes ∙ none_counted take in
    λ i. record { accepted = accepted i; full = full i; got = got i; empty = empty i }

counts_told : (buffers : List (List Window)) → map counts_in (map (map told_of) buffers) ≡ map counts_of_windows buffers
counts_told [] = refl
counts_told (windows ∷ buffers) = λ i. count_told windows i ∷ counts_told buffers i

-- the records of rounds
module _ {S : Type 0} {told : S → SinkTold} {setting : Setting} {clocks ticks : ℕ} {old new : List (ClockEngine S)} (all : length old ≡ clocks) where
  pub rounds_all : {counts : List Counts} {logs : List (List Answers)} → rounds.HasRunAll told setting ticks old new counts logs → RanAll told setting clocks ticks InRounds old new counts logs
  rounds_all ran = record {
    run = ran.run;
    lawful = subst (λ n. IsRounds setting n ticks ran.run) all ran.rounds;
    engines = ran.engines;
    counts_are = ran.counts_are;
    logs_are = ran.logs_are;
  }

  pub rounds_some : {end : End} → rounds.HasRunSome told setting ticks old new end → RanSome told setting clocks ticks InRounds old new end
  rounds_some ran =
      let moved = subst (λ n. (begun : AreRoundsBegun setting n ticks ran.run)
      × HaveRunPart told (setting_then setting ran.run) (ticks_by ticks begun.round begun.clock) (ticks_by ticks begun.round (begun.clock + 1)) old new) all (ran.begun, ran.part) in
      record {
        run = ran.run;
        begun = record {
          made = ticks_by ticks moved.0.round moved.0.clock;
          tried = ticks_by ticks moved.0.round (moved.0.clock + 1);
          within = within_rounds ticks moved.0.round moved.0.clock;
          came = record { rounds = moved.0; made_are = λ m. refl; tried_are = λ m. refl };
        };
        part = moved.1;
        failed = λ failed sink is. let write = ran.write failed sink is in failed_at told ran.begun.clock write.place new write.before write.after write.is write.rose;
      }

-- the record of a replay
module _ {S : Type 0} {told : S → SinkTold} {setting : Setting} {clocks ticks : ℕ} {old new : List (ClockEngine S)} (trace : TraceValue) (ticks_are : trace.ticks ≡ ticks) where
  pub replay_all : {counts : List Counts} {logs : List (List Answers)} → HasReplayedAll told setting clocks trace old new counts logs → RanAll told setting clocks ticks (Again trace) old new counts logs
  replay_all ran = record {
    run = ran.run;
    lawful = record { ticks_are = ticks_are; of = ran.of };
    engines = subst (λ n. HaveRunTicks told (setting_in setting ran.run) n old new) ticks_are ran.engines;
    counts_are = ran.counts_are;
    logs_are = ran.logs_are;
  }

  pub replay_some : {end : End} → HasReplayedSome told setting clocks trace old new end → RanSome told setting clocks ticks (Again trace) old new end
  replay_some ran =
      let came = ran.part in
      record {
        run = ran.run;
        begun = record {
          made = came.made;
          tried = came.tried;
          within = λ m. subst (λ n. IsWithin 0 n (came.made m) (came.tried m)) ticks_are (came.within m);
          came = (record { ticks_are = ticks_are; of = ran.of }, came.one);
        };
        part = came.part;
        failed = λ failed sink is. let write = came.write failed sink is in failed_at told failed write.place new write.before write.after write.is write.rose;
      }

output_in : {S : Type 0} (setting : Setting) (k : ℕ) (engine : ClockEngine S) → IsAt setting k engine → (sink node : ℕ) → IsOutput (setting_of engine.parts) engine.parts.clock sink node → IsOutput setting k sink node
output_in setting k engine is sink node out = subst (λ (z : Setting × ℕ). IsOutput z.0 z.1 sink node) (λ i. (is.over i, is.clock_is i)) out

both_are : {A : Type 0} (old new : List A) (k : ℕ) (before after : A) → slice_get old k ≡ Some before → slice_get new k ≡ Some after
    → ◌≡◌ {A = A × A} (slice_index_or old k before, slice_index_or new k before) (before, after)
both_are old new k before after was is = λ i. (got_is old k before before was i, got_is new k after before is i)

-- the records of threads
module _ {S : Type 0} {told : S → SinkTold} {setting : Setting} {clocks : ClockMap} {window ticks : ℕ} {old new : List (ClockEngine S)} (at : AreAt setting old) where
  pub threads_all : {counts : List Counts} {logs : List (List Answers)} → threads.HasRunAll told setting clocks window ticks old new counts logs
      → RanAll told setting clocks.running ticks (InWindows window) old new counts logs
  unfolding output_in
  threads_all ran = record {
    run = ran.run;
    lawful = ran.has_run.lawful;
    engines = record {
      size = ran.has_run.many;
      each = λ k before after was is.
          let fresh = at.each k before was in
          let made = subst (λ (z : ClockEngine S × ClockEngine S). threads.HasMadeAll told setting ran.run ticks k z.0 z.1) (both_are old new k before after was is) (ran.has_run.engines k before (within old k before was)) in
          record {
            over = made.same.setting;
            clock = made.same.clock;
            keeping = made.same.keeping;
            answers = made.answers;
            rest = made.rest;
            given = ap (λ s. with_rest s made.answers made.rest) fresh.over ∙ made.are;
            stands = made.stands;
            grew = λ sink node out. made.bytes sink node (output_in setting k before fresh sink node out);
            pieces = made.pieces;
            outs = made.same.outs;
          };
    };
    counts_are = ran.tells.counts_are ∙ ap (map counts_in) ran.tells.logs_are ∙ counts_told ran.run.buffers;
    logs_are = ran.tells.logs_are;
  }

  pub threads_some : {end : End} → threads.HasRunSome told setting clocks window ticks old new end → RanSome told setting clocks.running ticks (InWindows window) old new end
  unfolding output_in
  threads_some ran = record {
    run = ran.run;
    begun = record {
      made = ran.begun.made;
      tried = ran.begun.tried;
      within = λ m.
          let low = (ran.begun.within m).most in
          let last = start_most window ticks (suc ran.begun.closed) in
          record { least = omega arith; most = omega (arith, low, last); no_fewer = (ran.begun.within m).no_fewer; one_more = (ran.begun.within m).one_more };
      came = record { windows = ran.begun; made_are = λ m. refl; tried_are = λ m. refl };
    };
    part = record {
      size = ran.many;
      each = λ k before after was is.
          let fresh = at.each k before was in
          let made = subst (λ (z : ClockEngine S × ClockEngine S). threads.HasMadePart told setting ran.run (ran.begun.made k) (ran.begun.tried k) k z.0 z.1) (both_are old new k before after was is) (ran.engines k before (within old k before was)) in
          record {
            setting = made.same.setting;
            clock = made.same.clock;
            part = λ rest sink node out.
                made.part rest sink node (output_in setting k before fresh sink node out);
            pieces = made.pieces;
            outs = made.same.outs;
          };
    };
    failed = λ clock sink is. let write = ran.write clock sink is in failed_at told clock write.place new write.before write.after write.is write.rose;
  }
