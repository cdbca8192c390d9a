-- How far each clock came in a run, by the record of the run.
use Rattle.std.proofs.Common.{◌≡◌, ◌⊎◌, ◌∙◌, ◌<◌, ◌≤◌, ◌-◌, ℕ, suc, true, Option, Some, None, List, [], ◌∷◌, ◌++◌, length, slice_index_or, arith, refl, ap, sym, subst, inl, inr, append-nil}
use Rattle.std.proofs.lemmas.Bool.{cases_lt}
use mathlib.Core.Path.{fun_ext}
use Rattle.liq_base.specs.Pieces.{IsPrefix, SinkTold, grown}
use Rattle.clock_infer.specs.declared.clock_map.ClockMap.{ClockMap}
use Rattle.buffer_ends.specs.declared.thread_taps.ThreadTaps.{ThreadTaps}
use Rattle.stream_meaning.specs.Instants.{Setting, with_rest}
use Rattle.stream_meaning.specs.Sinks.{ticks_bytes, IsOutput}
use Rattle.stream_meaning.specs.Calls.{after_calls, calls_of_tick, joined_upto}
use Rattle.stream_meaning.specs.Settings.{IsSetting}
use Rattle.run_records.specs.Records.{AreWindowsBegun, Follows, Run, setting_then, start}
use Rattle.clock_ticks.specs.Engines.{setting_of, held_of}
use Rattle.clock_ticks.specs.Pieces.{GotBetween}
use Rattle.clock_ticks.proofs.Pieces.{between_wider, got_between}
use Rattle.clock_ticks.specs.declared.engine.ClockEngine.{ClockEngine}
use Rattle.clock_ticks.specs.declared.fault.TickFault.{TickFault}
use Rattle.clock_threads.specs.declared.task.Task.{Task}
use Rattle.clock_threads.specs.TickCalls.{TickCalls, HasGone, HasGonePart, answers_by, joined_from}
use Rattle.clock_threads.specs.TaskRuns.{EngineGone, EngineGonePart, stands_for, stopped_for}
use Rattle.clock_threads.specs.declared.wires.Wire.{Wire}
use Rattle.clock_threads.specs.WindowRuns.{PartAt, StandsOrStopped}
use Rattle.clock_threads.specs.Lawful.{Answers, AreWires}
use Rattle.clock_threads.proofs.Breaking.{Came, Reach, begin_none, broken_run, fronts, given, itself, stood, windows_begun}
use Rattle.clock_threads.proofs.Starts.{start_up}
use Rattle.clock_threads.specs.Wires.{wire_at}
use Rattle.clock_threads.specs.Records.{windows_upto}
use Rattle.clock_threads.proofs.Running.{part_moved}
use Rattle.frame_core.specs.Legal.{IsHistory}
use Rattle.frame_core.specs.Calls.{Call, takes_of, puts_to}
use Rattle.buffer_ends.specs.Local.{on}

none_some : {A : Type 0} {x : A} → Some x ≡ None → ⊥
none_some e = cc

module _ {S : Type 0} (told : S → SinkTold) (setting : Setting) (m s e : ℕ) (tick_calls : TickCalls) (first : ℕ → Option (List ℕ)) (engine : ClockEngine S) (t : ℕ) where
  came_whole : HasGone setting stands_for (held_of told) m t tick_calls first engine → Came setting m s e tick_calls t t [] (λ b. true) first (held_of told engine)
  came_whole gone = record {
    inside = inl (refl, refl);
    ticks_are = gone.ticks;
    begun = λ rest. begin_none (calls_of_tick (with_rest setting (after_calls (answers_by tick_calls t) []) rest) (λ b. true) m t);
    front = λ rest sink node output.
        let same : with_rest setting (answers_by tick_calls t) rest ≡ with_rest setting (after_calls (answers_by tick_calls t) []) rest =
        ap (λ (A : Answers). with_rest setting A rest) (fun_ext (λ b. sym (append-nil (answers_by tick_calls t b)))) in
        let world = with_rest setting (answers_by tick_calls t) rest in (
          ticks_bytes world output.wide node t,
          subst (λ (w : Setting). IsPrefix (ticks_bytes w output.wide node t) (ticks_bytes world output.wide node t)) same (itself (ticks_bytes world output.wide node t)),
          subst (λ (w : Setting). IsPrefix (ticks_bytes world output.wide node t) (ticks_bytes w output.wide node t)) same (itself (ticks_bytes world output.wide node t)),
          gone.holds rest sink node output,
        );
  }

  came_part : (gone : HasGonePart setting stopped_for (held_of told) m t tick_calls first engine) → Came setting m s e tick_calls t (suc t) gone.made gone.accepted first (held_of told engine)
  came_part gone = record {
    inside = inr refl;
    ticks_are = gone.ticks;
    begun = gone.begun;
    front = gone.part;
  }

module _ {S R : Type 0} (told : S → SinkTold) (wires : List Wire) (W N : ℕ) (first now : List (Task S (ThreadTaps R))) (d : Task S (ThreadTaps R)) (part : PartAt told wires W N first now d)
    (setting : Setting) (map : ClockMap) (is : IsSetting setting map) (are : AreWires setting map.running wires) (all_run : length first ≡ map.running)
    (shared : (k : ℕ) → k < length first → (setting_of (slice_index_or first k d).engine.parts ≡ setting) × ((slice_index_or first k d).engine.parts.clock ≡ k)) where
  abbrev old : ℕ → ℕ → Option (List ℕ)
  old k = held_of told (slice_index_or first k d).engine

  abbrev new : ℕ → ℕ → Option (List ℕ)
  new k = held_of told (slice_index_or now k d).engine

  abbrev s : ℕ
  s = start W N part.closed

  abbrev e : ℕ
  e = start W N (suc part.closed)

  abbrev Stands : ℕ → (made tried : ℕ) → Answers → Type 0
  Stands k made tried answers = StandsOrStopped (slice_index_or now k d).engine made tried answers

  -- with the calls that the run has of it
  record Reached (k : ℕ) : Type 0 where
    reach : Reach setting map.running k s e (part.clock_calls k) (Stands k) (old k) (new k)
    calls : k < length first → reach.since ≡ part.since k
    came_at : k < length first → (low : k < length first) × (reach.ticks ≡ (part.clocks k low).ticks)
    stops : reach.tried ≡ suc reach.ticks → (k < length first) × (fault : TickFault) × ((slice_index_or now k d).engine.parts.stopped ≡ Some fault)
    runs : k < length first → reach.tried ≡ reach.ticks → (low : k < length first) × ((slice_index_or now k d).engine.parts.stopped ≡ None) × (reach.ticks ≡ (part.clocks k low).ticks)

  reached : (k : ℕ) → k < length first → Reached k
  reached k low = by (part.clocks k low).came
    where
      known : (setting_of (slice_index_or now k d).engine.parts ≡ setting) × ((slice_index_or now k d).engine.parts.clock ≡ k)
      known = ((part.clocks k low).same.setting ∙ (shared k low).0, (part.clocks k low).same.clock ∙ (shared k low).1)

      by : (((part.clocks k low).ticks ≤ e) × EngineGone told (part.clocks k low).ticks (part.clock_calls k) (old k) (slice_index_or now k d).engine
          × (part.since k ≡ joined_from (part.clock_calls k).calls s ((part.clocks k low).ticks - s)))
          ⊎ (((part.clocks k low).ticks < e) × (gone : EngineGonePart told (part.clocks k low).ticks (part.clock_calls k) (old k) (slice_index_or now k d).engine)
          × (part.since k ≡ joined_from (part.clock_calls k).calls s ((part.clocks k low).ticks - s) ++ gone.made))
          → Reached k
      by (inl gone) =
          (let t = (part.clocks k low).ticks in let least = (part.clocks k low).least in let most = gone.0 in
          let on : HasGone setting stands_for (held_of told) k t (part.clock_calls k) (old k) (slice_index_or now k d).engine =
          subst (λ (z : Setting × ℕ). HasGone z.0 stands_for (held_of told) z.1 t (part.clock_calls k) (old k) (slice_index_or now k d).engine) (λ i. (known.0 i, known.1 i)) gone.1 in
          record {
            reach = record {
              ticks = t;
              tried = t;
              within = record { least = least; most = most; no_fewer = omega arith; one_more = omega arith };
              made = [];
              accepted = λ b. true;
              since = part.since k;
              since_is = λ runs. gone.2 ∙ sym (append-nil (joined_from (part.clock_calls k).calls s (t - s)));
              came = λ runs. came_whole told setting k s e (part.clock_calls k) (old k) (slice_index_or now k d).engine t on;
              stands = λ runs. inl (refl, gone.1.stand);
              rests = λ high. absurd (omega (arith, low, high, all_run));
            };
            calls = λ again. refl;
            came_at = λ again. (low, refl);
            stops = λ one. absurd (omega (arith, one));
            runs = λ again same. (low, gone.1.stand.runs, refl);
          })
      by (inr gone) =
          (let t = (part.clocks k low).ticks in let least = (part.clocks k low).least in let less = gone.0 in
          let on = part_moved (setting_of (slice_index_or now k d).engine.parts) setting (slice_index_or now k d).engine.parts.clock k (held_of told) t (part.clock_calls k) (old k) (slice_index_or now k d).engine known.0 known.1 gone.1 in
          record {
            reach = record {
              ticks = t;
              tried = suc t;
              within = record { least = least; most = omega (arith, less); no_fewer = omega arith; one_more = omega arith };
              made = on.0.made;
              accepted = on.0.accepted;
              since = part.since k;
              since_is = λ runs. gone.2 ∙ ap (λ l. joined_from (part.clock_calls k).calls s (t - s) ++ l) (sym on.1);
              came = λ runs. came_part told setting k s e (part.clock_calls k) (old k) (slice_index_or now k d).engine t on.0;
              stands = λ runs. inr (refl, gone.1.made, gone.1.halted);
              rests = λ high. absurd (omega (arith, low, high, all_run));
            };
            calls = λ again. refl;
            came_at = λ again. (low, refl);
            stops = λ one. (low, gone.1.halted.fault, gone.1.halted.stopped);
            runs = λ again same. absurd (omega (arith, same));
          })

  reach_at : (k : ℕ) → Reached k
  reach_at k = elim (cases_lt k (length first)) [
    | inl low ↦ reached k low
    | inr high ↦ record {
      reach = record {
        ticks = s;
        tried = s;
        within = record { least = omega arith; most = start_up W N part.closed; no_fewer = omega arith; one_more = omega arith };
        made = [];
        accepted = λ b. true;
        since = [];
        since_is = λ runs. absurd (omega (arith, runs, high, all_run));
        came = λ runs. absurd (omega (arith, runs, high, all_run));
        stands = λ runs. absurd (omega (arith, runs, high, all_run));
        rests = λ over. (refl, refl);
      };
      calls = λ low. absurd (omega (arith, low, high));
      came_at = λ low. absurd (omega (arith, low, high));
      stops = λ one. absurd (omega (arith, one));
      runs = λ low same. absurd (omega (arith, low, high));
    }
  ]

  pub reach : (k : ℕ) → Reach setting map.running k s e (part.clock_calls k) (Stands k) (old k) (new k)
  reach k = (reach_at k).reach

  pub since_are : (k : ℕ) → k < length first → part.since k ≡ (reach k).since
  unfolding reach
  since_are k low = sym ((reach_at k).calls low)

  -- those that did not stop made as many ticks
  pub level_are : (m n : ℕ) → m < map.running → n < map.running → (reach m).tried ≡ (reach m).ticks → (reach n).tried ≡ (reach n).ticks → (reach m).ticks ≡ (reach n).ticks
  unfolding reach
  level_are m n runs less same again =
      let here = (reach_at m).runs (omega (arith, runs, all_run)) same in let there = (reach_at n).runs (omega (arith, less, all_run)) again in
      elim part.ended [
        | inl all ↦ here.2 ∙ (all m here.0).1 ∙ sym (there.2 ∙ (all n there.0).1)
        | inr each ↦ here.2 ∙ each m here.0 here.1 ∙ sym (there.2 ∙ each n there.0 there.1)
      ]

  -- where one clock stopped, they ended the window
  pub ended_are : (m n : ℕ) → m < map.running → (reach n).tried ≡ suc (reach n).ticks → (reach m).tried ≡ (reach m).ticks → (reach m).ticks ≡ e
  unfolding reach
  ended_are m n runs stopped same =
      let low : m < length first = omega (arith, runs, all_run) in let here = (reach_at m).runs low same in let there = (reach_at n).stops stopped in
      elim part.ended [
        | inl all ↦ absurd (none_some (sym there.2 ∙ (all n there.0).0))
        | inr each ↦ here.2 ∙ each m here.0 here.1
      ]

  -- where none stopped, they stand at a border
  pub border_is : ((m : ℕ) → m < map.running → (reach m).tried ≡ (reach m).ticks) → (m : ℕ) → m < map.running → ((reach m).ticks ≡ s) ⊎ ((reach m).ticks ≡ e)
  unfolding reach
  border_is none m runs =
      let here = (reach_at m).runs (omega (arith, runs, all_run)) (none m runs) in
      elim part.ended [
        | inl all ↦ inl (here.2 ∙ (all m here.0).1)
        | inr each ↦ inr (here.2 ∙ each m here.0 here.1)
      ]

  abbrev pub part_run : Run
  part_run = broken_run setting map is wires are W N part.closed part.clock_calls Stands old new reach

  -- its record
  abbrev pub part_begun : ((b : ℕ) → b < length wires → (wire_at wires b).from < length first × ((wire_at wires b).to < length first)) → AreWindowsBegun setting map.running W N part_run
  part_begun places = windows_begun setting map is wires are W N part.closed part.clock_calls Stands old new reach level_are ended_are border_is
      (λ b low. (let r = part.runs b low in let p = places b low in (
        r.0,
        subst (λ (z : List Call × List Call). IsHistory (wire_at wires b).capacity [] (windows_upto (wire_at wires b) part.clock_calls b W N part.closed ++ (puts_to b z.0, takes_of b z.1) ∷ []) r.0)
            (λ i. (since_are (wire_at wires b).from p.0 i, since_are (wire_at wires b).to p.1 i)) r.1,
      )))
      (λ b low one. (let r = part.in_order b low one in let k = (wire_at wires b).from in
      (r.0, subst (λ (z : List Call). Follows (wire_at wires b).capacity [] (on b (joined_upto (part.clock_calls k).calls s ++ z)) r.0) (since_are k (places b low).0) r.1)))

  -- what each output holds
  pub part_fronts : (k : ℕ) → k < length first → (rest : Answers) (sink node : ℕ) (output : IsOutput setting k sink node)
      → (front : List ℕ) × IsPrefix (ticks_bytes (setting_then setting part_run rest) output.wide node (reach k).ticks) front × IsPrefix front (ticks_bytes (setting_then setting part_run rest) output.wide node (reach k).tried)
      × (held_of told (slice_index_or now k d).engine sink ≡ grown front (held_of told (slice_index_or first k d).engine sink))
  part_fronts k low rest sink node out = fronts setting map is wires are W N part.closed part.clock_calls Stands old new reach k (omega (arith, low, all_run)) rest sink node out

  -- for which answers each engine stands, or stopped
  pub part_stood : (k : ℕ) → k < length first → StandsOrStopped (slice_index_or now k d).engine (reach k).ticks (reach k).tried (answers_by (part.clock_calls k) (reach k).ticks)
  part_stood k low = stood setting map is wires are W N part.closed part.clock_calls Stands old new reach k (omega (arith, low, all_run))

  pub part_given : (k : ℕ) → k < length first → (rest : Answers) → (more : Answers) × (with_rest setting (answers_by (part.clock_calls k) (reach k).ticks) more ≡ setting_then setting part_run rest)
  part_given k low rest = given setting map is wires are W N part.closed part.clock_calls Stands old new reach k (omega (arith, low, all_run)) rest

  -- how many pieces each sink got
  pub part_pieces : (k : ℕ) → k < length first → GotBetween told (reach k).ticks (reach k).tried (slice_index_or first k d).engine.outs (slice_index_or now k d).engine.outs
  unfolding reach
  part_pieces k low =
      let at = (reach_at k).came_at low in let c = part.clocks k at.0 in let ticks = at.1 in
      let old = (slice_index_or first k d).engine.outs in let new = (slice_index_or now k d).engine.outs in
      elim (part_stood k low) [
        | inl whole ↦ (let all = whole.0 in got_between told c.ticks (reach k).ticks (reach k).tried old new (omega (arith, ticks)) (omega (arith, ticks, all)) (c.pieces whole.1.runs))
        | inr stop ↦ (let next = stop.0 in between_wider told c.ticks (suc c.ticks) (reach k).ticks (reach k).tried old new (omega (arith, ticks)) (omega (arith, ticks, next)) c.pieces_part)
      ]
