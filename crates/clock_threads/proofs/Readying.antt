-- Tasks that are ready, and what a run of them tells of their engines.
use Rattle.std.proofs.Common.{◌≡◌, ◌⊎◌, ℕ, suc, ◌<◌, true, None, Some, List, [], ◌∷◌, length, map, slice_get, slice_index_or, sym, refl, ap, ◌∙◌, subst, arith, Option, append-nil}
use Rattle.std.proofs.lemmas.Option.{get_or_from_slice_get, slice_get-get_or as read}
use Rattle.liq_base.specs.Pieces.{SinkTold, grown}
use Rattle.plan_core.specs.declared.plan.Plan.{Plan}
use Rattle.plan_core.specs.declared.sink.BufferPlan.{BufferPlan}
use Rattle.buffer_ends.specs.Local.{Answers, LocalBuffer, planned}
use Rattle.buffer_ends.specs.Ends.{Has, ListsStand, EndsStand}
use Rattle.buffer_ends.proofs.Windows.{stand_planned}
use Rattle.buffer_ends.specs.declared.run_end.End.{End}
use Rattle.buffer_ends.specs.declared.run_end.End.TheVariants.{Write}
use Rattle.buffer_ends.specs.declared.thread_taps.ThreadTaps.{ThreadTaps}
use Rattle.stream_meaning.specs.Instants.{Setting, answered}
use Rattle.stream_meaning.specs.Sinks.{ticks_bytes}
use Rattle.stream_meaning.specs.Calls.{joined_upto}
use Rattle.clock_ticks.specs.Engines.{EngineStands, outputs_of, setting_of, held_of}
use Rattle.clock_ticks.specs.Ticks.{HaveTicksRoom}
use Rattle.clock_ticks.specs.Pieces.{GotPieces}
use Rattle.clock_ticks.proofs.Pieces.{got_none, kept_none}
use Rattle.clock_ticks.specs.declared.engine.ClockEngine.{ClockEngine}
use Rattle.clock_threads.specs.declared.task.Task.{Task}
use Rattle.clock_threads.specs.TickCalls.{TickCalls, answers_by}
use Rattle.clock_threads.specs.TaskRuns.{EngineGone, IsSameClock}
use Rattle.clock_threads.specs.declared.wires.Wire.{Wire}
use Rattle.clock_threads.specs.Wires.{wire_at, kept}
use Rattle.clock_threads.specs.Ends.{puts_of as put_ends, takes_of as take_ends}
use Rattle.run_records.specs.Records.{Run, Window, start, answers_of as answers_in_run}
use Rattle.clock_infer.specs.declared.clock_map.ClockMap.{ClockMap}
use Rattle.frame_core.specs.declared.cell.Cell.{Cell}
use Rattle.clock_threads.specs.Records.{ClockGoing, SameEngines}
use Rattle.clock_threads.specs.WindowRuns.{IsReady, IsWriteAt, DoneAt, RunDone, PartAt, RunPart, StandsOrStopped}
use Rattle.clock_threads.specs.Lawful.{IsWiredHistory, answers_of, meant}
use Rattle.clock_threads.proofs.Starts.{start_zero}
use Rattle.clock_threads.proofs.Ending.{with_one}
use Rattle.clock_threads.proofs.Finishing.{done_windows, done_wired, done_bytes, done_stands}
use Rattle.clock_threads.proofs.Breaking.{Reach}
use Rattle.clock_threads.proofs.Partly.{part_begun, part_fronts, part_given, part_pieces, part_run, part_stood, reach}
use Rattle.clock_threads.proofs.Recording.{run_of, run_answers, run_is_lawful}
use Rattle.clock_threads.specs.Logs.{AreNoLogs}
use Rattle.clock_threads.specs.Starts.{AreJoined}
use Rattle.clock_threads.specs.EngineTasks.{engine_of, AreTasks}
use Rattle.clock_threads.specs.ThreadRuns.{IsFresh, HasMadeAll, HasMadePart, HasRunSome, IsWriteEnd}
use Rattle.clock_threads.specs.WiredRuns.{AreLaid, AreFresh, HasRunTasks}
use Rattle.clock_threads.proofs.Making.{map_get, map_long}

nothing : TickCalls
nothing = record { calls = λ t. []; accepted = λ t b. true }

pub grown_none : (held : Option (List ℕ)) → held ≡ grown [] held
grown_none None = refl
grown_none (Some bytes) = ap Some (sym (append-nil bytes))

-- an engine is as it was
pub same_not : {S : Type 0} (told : S → SinkTold) (e : ClockEngine S) → IsSameClock told e e
same_not told e = record {
  setting = refl;
  clock = refl;
  outs = refl;
  kept = kept_none told e.outs;
  keeping = refl;
}

-- an engine that has made no tick
gone_none : {S : Type 0} (told : S → SinkTold) (e : ClockEngine S) → EngineStands e.parts 0 (λ b. []) → EngineGone told 0 nothing (held_of told e) e
gone_none told e st = record { stand = st; ticks = λ i less rest. absurd (omega (arith, less)); holds = λ rest sink node out. grown_none (held_of told e sink) }

map_same : {S R : Type 0} (old new : List (Task S (ThreadTaps R))) → length new ≡ length old → ((k : ℕ) (d : Task S (ThreadTaps R)) → k < length old → (slice_index_or new k d).engine ≡ (slice_index_or old k d).engine)
    → map (engine_of {S = S} {R = R}) new ≡ map engine_of old
map_same [] [] many each = refl
map_same [] (y ∷ new) many each = absurd (omega (arith, many))
map_same (x ∷ old) [] many each = absurd (omega (arith, many))
map_same (x ∷ old) (y ∷ new) many each =
    (λ i. each 0 x (omega arith) i ∷ map_same old new (omega (arith, many)) (λ k d h. each (suc k) d (omega (arith, h))) i)

pub engines_same : {S R : Type 0} (old new : List (Task S (ThreadTaps R))) → SameEngines old new → map (engine_of {S = S} {R = R}) new ≡ map engine_of old
engines_same old new same = map_same old new same.many same.each

module _ {S R : Type 0} (told : S → SinkTold) (plan : Plan) (wires : List Wire) (W N : ℕ) (bare joined : List (Task S (ThreadTaps R)))
    (some : 0 < length bare) (are : AreLaid plan (length bare) wires) (tasks : AreTasks plan (map engine_of bare) bare) (setting : Setting) (map_of : ClockMap) (fresh : AreFresh told plan wires N setting map_of (map engine_of bare)) (j : AreJoined wires 0 bare joined) where
  in_bare : (k : ℕ) → k < length joined → k < length bare
  in_bare k h = let m = j.many in omega (arith, h, m)

  engine_is : (k : ℕ) (d : Task S (ThreadTaps R)) → k < length bare → (slice_index_or joined k d).engine ≡ (slice_index_or bare k d).engine
  engine_is k d h = (j.same k d h).engine

  fresh_at : (k : ℕ) (d : Task S (ThreadTaps R)) → k < length bare → IsFresh told setting N k (slice_index_or joined k d).engine
  fresh_at k d h = subst (IsFresh told setting N k) (map_get engine_of bare k d d.engine h ∙ sym (engine_is k d h)) (fresh.engines_are.each k d.engine (let n = map_long (engine_of {S = S} {R = R}) bare in omega (arith, h, n)))

  local_is : (k : ℕ) (d : Task S (ThreadTaps R)) → k < length bare → (slice_index_or joined k d).taps.local ≡ map planned plan.buffers
  local_is k d h = (j.same k d h).local ∙ (tasks.each k d h).local

  no_plan : BufferPlan
  no_plan = record { pre = 0; capacity = 0 }

  places_joined : (b : ℕ) → b < length wires → (wire_at wires b).from < length joined × ((wire_at wires b).to < length joined)
  places_joined b low = (let p = are.places b low in let m = j.many in (omega (arith, p.0, m), omega (arith, p.1, m)))

  -- each list is empty
  list_is : (d : Task S (ThreadTaps R)) (k b : ℕ) (e : LocalBuffer) → k < length joined → b < length wires → slice_index_or (slice_index_or joined k d).taps.local b e ≡ planned (slice_index_or plan.buffers b no_plan)
  list_is d k b e h low =
      let in_plan : b < length plan.buffers = (let n = are.many in omega (arith, low, n)) in
      ap (λ (bs : List LocalBuffer). slice_index_or bs b e) (local_is k d (in_bare k h)) ∙ map_get planned plan.buffers b no_plan e in_plan

  clock_ready : (d : Task S (ThreadTaps R)) (k : ℕ) → k < length joined → ClockGoing told wires N (start W N 0) k nothing (slice_index_or joined k d) (slice_index_or joined k d)
  clock_ready d k h =
      let x = slice_index_or joined k d in let f = fresh_at k d (in_bare k h) in let zero_is = start_zero W N in let l = local_is k d (in_bare k h) in
      record {
        gone = subst (λ t. EngineGone told t nothing (held_of told x.engine) x.engine) (sym zero_is) (gone_none told x.engine f.stands);
        same = same_not told x.engine;
        pieces = subst (λ t. GotPieces told t x.engine.outs x.engine.outs) (sym zero_is) (got_none told x.engine.outs);
        rooms = λ n is. subst (λ m. HaveTicksRoom told x.engine.parts x.engine.outs m) (let e : N ≡ n = omega (arith, is, zero_is) in e) f.rooms;
        wired = record {
          puts = λ p e low. (let g = j.puts k p d e (in_bare k h) low in (g.1, g.2, g.3));
          takes = λ p e low. (let g = j.takes k p d e (in_bare k h) low in (g.1, g.2, g.3));
        };
        stand = subst (λ t. EndsStand (put_ends x) (take_ends x) x.taps.local (kept wires k (joined_upto nothing.calls t))) (sym zero_is) (
          (λ p e low. (j.puts k p d e (in_bare k h) low).4),
          (λ p e low. (j.takes k p d e (in_bare k h) low).4),
          subst (λ bs. ListsStand (λ b. Has (put_ends x) b ⊎ Has (take_ends x) b) bs []) (sym l) (λ b e low away. stand_planned plan.buffers b e low (λ n. n)),
        );
        lists = ap length l ∙ map_long planned plan.buffers ∙ sym are.many;
        capacities = λ b e low. ap (λ (z : LocalBuffer). z.capacity) (list_is d k b e h low) ∙ are.capacities b no_plan low;
      }

  pub ready : (logs : List (List Answers)) → AreNoLogs (length wires) logs → IsReady told wires W N joined logs
  ready logs none = record {
    some = (let m = j.many in omega (arith, some, m));
    few = are.few;
    places = places_joined;
    buffers = λ k d h. (let f = fresh_at k d (in_bare k h) in
        ap (λ (s : Setting). length s.plan.buffers) f.over ∙ ap (λ (p : Plan). length p.buffers) fresh.engines_are.plan_is ∙ sym are.many);
    begun = λ d. record {
      clock_calls = λ k. nothing;
      many = refl;
      clocks = clock_ready d;
      joins = λ b low apart. record { chunks = []; run = refl; opens = j.opens b (omega arith) low apart };
      logged = record {
        many = none.are_many;
        joined = λ b e low apart. none.each b e (let n = none.are_many in omega (arith, low, n));
        local = λ b e low is. (let l = list_is d (wire_at wires b).from b e (places_joined b low).0 low in
            record { closed_are = ap (λ (z : LocalBuffer). z.closed) l; opens = ap (λ (z : LocalBuffer). z.current) l });
      };
    };
  }

  long : length joined ≡ map_of.running
  long = j.many ∙ sym (map_long (engine_of {S = S} {R = R}) bare) ∙ fresh.engines_are.all

  shared : (d : Task S (ThreadTaps R)) (k : ℕ) → k < length joined → (setting_of (slice_index_or joined k d).engine.parts ≡ setting) × ((slice_index_or joined k d).engine.parts.clock ≡ k)
  shared d k h = (let f = fresh_at k d (in_bare k h) in (f.over, f.clock))

  module _ (now : List (Task S (ThreadTaps R))) (logs : List (List Answers)) (d : Task S (ThreadTaps R)) (done : DoneAt told wires W N joined now logs d) (inside : 0 < length joined) where
    abbrev wins : ℕ → List Window
    wins = done_windows told wires W N joined now logs d done setting map_of fresh.engines_are.is fresh.wires_are long inside (shared d) places_joined

    abbrev wired : IsWiredHistory (meant setting) wires W N done.windows wins
    wired = done_wired told wires W N joined now logs d done setting map_of fresh.engines_are.is fresh.wires_are long inside (shared d) places_joined

    abbrev the_run : Run
    the_run = run_of setting map_of fresh.engines_are.is wires fresh.wires_are W N done.windows wins wired

    answers_are : answers_in_run the_run ≡ answers_of wins
    answers_are = run_answers setting map_of fresh.engines_are.is wires fresh.wires_are W N done.windows wins wired

    made_all : (k : ℕ) → k < length joined → HasMadeAll told setting the_run N k (slice_index_or joined k d).engine (slice_index_or now k d).engine
    made_all k h =
        let c = done.going.clocks k h in
        let st = done_stands told wires W N joined now logs d done setting map_of fresh.engines_are.is fresh.wires_are long inside (shared d) places_joined k h in
        record {
          same = c.same;
          answers = st.0;
          rest = st.1;
          stands = st.2;
          are = ap (answered setting) (st.3 ∙ sym answers_are);
          bytes = λ sink node output.
              done_bytes told wires W N joined now logs d done setting map_of fresh.engines_are.is fresh.wires_are long inside (shared d) places_joined k h sink node output
              ∙ ap (λ (A : ℕ → List (Option (List Cell))). grown (ticks_bytes (answered setting A) output.wide node N) (held_of told (slice_index_or joined k d).engine sink)) (sym answers_are);
          pieces = subst (λ n. GotPieces told n (slice_index_or joined k d).engine.outs (slice_index_or now k d).engine.outs) done.all c.pieces;
        }

    tasks_run : HasRunTasks told wires setting map_of W N (map engine_of bare) now logs
    tasks_run = record {
      windows = wins;
      run = record {
        many = map_long engine_of now ∙ done.going.many ∙ j.many ∙ sym (map_long engine_of bare);
        lawful = run_is_lawful setting map_of fresh.engines_are.is wires fresh.wires_are W N done.windows wins wired;
        engines = λ k e h. (let low : k < length bare = (let n = map_long (engine_of {S = S} {R = R}) bare in omega (arith, h, n)) in let m = j.many in let n = done.going.many in
            subst (λ (z : ClockEngine S × ClockEngine S). HasMadeAll told setting the_run N k z.0 z.1)
            (λ i. ((engine_is k d low ∙ sym (map_get engine_of bare k d e low)) i, sym (map_get engine_of now k d e (omega (arith, low, m, n))) i)) (made_all k (omega (arith, low, m))));
      };
      one = d;
      logged = done.going.logged;
      places = λ b low. (let p = (places_joined b low).0 in let n = done.going.many in omega (arith, p, n));
      lists = λ k h. (done.going.clocks k (let n = done.going.many in omega (arith, h, n))).lists;
    }

  pub has_run : (now : List (Task S (ThreadTaps R))) (logs : List (List Answers)) → RunDone told wires W N joined now logs → HasRunTasks told wires setting map_of W N (map engine_of bare) now logs
  has_run now logs done = let inside : 0 < length joined = (let m = j.many in omega (arith, some, m)) in with_one joined inside (λ d. tasks_run now logs d (done d) inside)

  module _ (now : List (Task S (ThreadTaps R))) (d : Task S (ThreadTaps R)) (p : PartAt told wires W N joined now d) where
    abbrev begun_run : Run
    begun_run = part_run told wires W N joined now d p setting map_of fresh.engines_are.is fresh.wires_are long (shared d)

    abbrev reached : (k : ℕ) → Reach setting map_of.running k (start W N p.closed) (start W N (suc p.closed)) (p.clock_calls k) (StandsOrStopped (slice_index_or now k d).engine) (held_of told (slice_index_or joined k d).engine) (held_of told (slice_index_or now k d).engine)
    reached = reach told wires W N joined now d p setting map_of fresh.engines_are.is fresh.wires_are long (shared d)

    made_part : (k : ℕ) → k < length joined → HasMadePart told setting begun_run (reached k).ticks (reached k).tried k (slice_index_or joined k d).engine (slice_index_or now k d).engine
    made_part k h = record {
      same = (p.clocks k h).same;
      answers = answers_by (p.clock_calls k) (reached k).ticks;
      given = part_given told wires W N joined now d p setting map_of fresh.engines_are.is fresh.wires_are long (shared d) k h;
      stands = part_stood told wires W N joined now d p setting map_of fresh.engines_are.is fresh.wires_are long (shared d) k h;
      part = part_fronts told wires W N joined now d p setting map_of fresh.engines_are.is fresh.wires_are long (shared d) k h;
      pieces = part_pieces told wires W N joined now d p setting map_of fresh.engines_are.is fresh.wires_are long (shared d) k h;
    }

    -- the end names a sink of the lowest clock that stopped
    write_end : (clock sink : ℕ) → IsWriteAt told clock sink joined now → IsWriteEnd told setting clock sink (map engine_of bare) (map engine_of now)
    write_end clock sink w =
        let k = w.place in let h = w.within in let sh = shared d k h in let one = w.write d in
        let low : k < length bare = in_bare k h in
        let in_now : k < length now = (let n = p.many in omega (arith, h, n)) in
        let in_engines : k < length (map (engine_of {S = S} {R = R}) bare) = (let n = map_long (engine_of {S = S} {R = R}) bare in omega (arith, low, n)) in
        let in_new : k < length (map (engine_of {S = S} {R = R}) now) = (let n = map_long (engine_of {S = S} {R = R}) now in omega (arith, in_now, n)) in
        let place : k ≡ clock = sym ((p.clocks k h).same.clock ∙ sh.1) ∙ w.clock_is d in
        subst (λ c. IsWriteEnd told setting c sink (map engine_of bare) (map engine_of now)) place (record {
          before = (slice_index_or joined k d).engine;
          after = (slice_index_or now k d).engine;
          was = read (map engine_of bare) k d.engine in_engines ∙ ap Some (map_get engine_of bare k d d.engine low ∙ sym (engine_is k d low));
          is = read (map engine_of now) k d.engine in_new ∙ ap Some (map_get engine_of now k d d.engine in_now);
          stopped = w.stopped d;
          lowest = λ j engine below there. (let inside : j < length now = omega (arith, below, in_now) in
              ap (λ (e : ClockEngine S). e.parts.stopped) (sym (get_or_from_slice_get (map engine_of now) j engine d.engine there) ∙ map_get engine_of now j d d.engine inside) ∙ w.lowest j d below);
          place = one.place;
          node = one.node;
          there = (λ i. slice_get (outputs_of (sym sh.0 i) (sym sh.1 i)) one.place) ∙ one.there;
          rose = one.rose;
        })

    some_run : (end : End) → ((clock sink : ℕ) → end ≡ Write clock sink → IsWriteAt told clock sink joined now)
        → HasRunSome told setting map_of W N (map engine_of bare) (map engine_of now) end
    some_run end write = record {
      run = begun_run;
      begun = part_begun told wires W N joined now d p setting map_of fresh.engines_are.is fresh.wires_are long (shared d) places_joined;
      many = map_long engine_of now ∙ p.many ∙ j.many ∙ sym (map_long engine_of bare);
      engines = λ k e h. (let low : k < length bare = (let n = map_long (engine_of {S = S} {R = R}) bare in omega (arith, h, n)) in let m = j.many in let n = p.many in
          subst (λ (z : ClockEngine S × ClockEngine S). HasMadePart told setting begun_run (reached k).ticks (reached k).tried k z.0 z.1)
          (λ i. ((engine_is k d low ∙ sym (map_get engine_of bare k d e low)) i, sym (map_get engine_of now k d e (omega (arith, low, m, n))) i)) (made_part k (omega (arith, low, m))));
      write = λ clock sink e. write_end clock sink (write clock sink e);
    }

  pub has_run_some : (now : List (Task S (ThreadTaps R))) (end : End) → RunPart told wires W N joined now → ((clock sink : ℕ) → end ≡ Write clock sink → IsWriteAt told clock sink joined now)
      → HasRunSome told setting map_of W N (map engine_of bare) (map engine_of now) end
  has_run_some now end part write = with_one joined (let m = j.many in omega (arith, some, m)) (λ d. some_run now d (part d) end write)
