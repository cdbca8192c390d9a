-- The whole run.
use Rattle.std.proofs.Common.{◌≡◌, ◌⊎◌, ℕ, suc, ◌<◌, ◌≤◌, ◌+◌, ◌-◌, All, List, [], ◌∷◌, length, slice_index_or, min, sym, refl, ap, ◌∙◌, subst, arith, inl, inr, Option, Some, None, ◌++◌, add-suc, append-nil}
use Rattle.std.specs.Prelude.{IfSome}
use Rattle.liq_base.specs.Pieces.{SinkTold}
use Rattle.clock_ticks.specs.declared.engine.ClockEngine.{ClockEngine}
use Rattle.frame_core.specs.Legal.{Legal, IsHistory}
use Rattle.frame_core.specs.Calls.{Call, takes_of, puts_to}
use Rattle.frame_core.proofs.Laws.{run_more}
use Rattle.buffer_ends.specs.Local.{Answers, on}
use Rattle.buffer_ends.specs.declared.thread_taps.ThreadTaps.{ThreadTaps}
use Rattle.buffer_ends.specs.declared.run_end.End.{End}
use Rattle.buffer_ends.specs.declared.run_end.End.TheVariants.{Done, Write}
use Rattle.clock_ticks.specs.declared.fault.TickFault.{TickFault}
use Rattle.clock_ticks.specs.declared.fault.TickFault.TheVariants.{Memory as OutOfMemory, Write as Refused}
use Rattle.clock_threads.specs.declared.task.Task.{Task}
use Rattle.clock_threads.specs.TickCalls.{TickCalls, Agree, answers_by, joined_from}
use Rattle.stream_meaning.specs.Calls.{joined_upto}
use Rattle.clock_ticks.specs.Engines.{held_of}
use Rattle.clock_ticks.specs.Pieces.{GotBetween, GotPieces}
use Rattle.clock_ticks.proofs.Pieces.{between_then, got_between, got_then}
use Rattle.clock_threads.specs.TaskRuns.{CanRun, WasRun, EngineGone, EngineGonePart, IsSameClock, IsWriteOf}
use Rattle.clock_threads.proofs.Walking.{agree_none, joined_alike}
use Rattle.clock_threads.proofs.Running.{rooms_fewer, same_then}
use Rattle.clock_threads.proofs.Writing.{write_since}
use Rattle.clock_threads.specs.declared.wires.Wire.{Wire}
use Rattle.clock_threads.specs.Wires.{wire_at, kept}
use Rattle.clock_threads.specs.Ends.{MayClose, AllClosed, AllShut}
use Rattle.run_records.specs.Records.{Follows, start}
use Rattle.clock_threads.specs.Records.{windows_upto, Going, AllEndedTasks, HaveLists, SameEngines}
use Rattle.clock_threads.specs.WindowRuns.{CameTo, IsReady, IsToldByLowest, IsWriteAt, RunDone, RunPart, end_by}
use Rattle.clock_threads.proofs.Sets.{same_or_other}
use Rattle.clock_threads.proofs.Starts.{start_zero, start_most, start_up, start_next, start_climbs}
use Rattle.clock_threads.proofs.Lists.{going_local, going_runs}
use Rattle.clock_threads.proofs.Meeting.{low_or_high, windows_alike}
use Rattle.clock_threads.proofs.Since.{TapsStand, TapsBuffers, SameTaps, all_shut, ends_close, list_follows}
use Rattle.clock_threads.proofs.Goings.{going_more}

joined_none : (calls : ℕ → List Call) (t : ℕ) → joined_from calls t (t - t) ≡ []
joined_none calls t = let e : t - t ≡ 0 = omega arith in ap (joined_from calls t) e

some_none : {A : Type 0} {x : A} → Some x ≡ None → ⊥
some_none e = cc

-- what is known of an answer that is there, or is not
pub told_some : {A : Type 0} (P : A → Type 0) {o : Option A} {x : A} → o ≡ Some x → IfSome o P → P x
told_some {A} P {o} {x} e p = subst (λ z. IfSome z P) e p

-- the end of a fault
pub not_done : (clock : ℕ) (fault : TickFault) → end_by clock fault ≡ Done → ⊥
not_done clock (Refused sink) e = cc
not_done clock OutOfMemory e = cc

write_clock : (clock : ℕ) (fault : TickFault) (other sink : ℕ) → end_by clock fault ≡ Write other sink → clock ≡ other
write_clock clock (Refused named) other sink e = cc
write_clock clock OutOfMemory other sink e = absurd cc

write_sink : (clock : ℕ) (fault : TickFault) (other sink : ℕ) → end_by clock fault ≡ Write other sink → fault ≡ Refused sink
write_sink clock (Refused named) other sink e = cc
write_sink clock OutOfMemory other sink e = absurd cc

pub all_by : {A : Type 0} (P : A → Type 0) (xs : List A) → ((d : A) (k : ℕ) → k < length xs → P (slice_index_or xs k d)) → All P xs
all_by P xs h k d less = h d k less

pub with_one : {A G : Type 0} (xs : List A) → 0 < length xs → (A → G) → G
with_one [] less f = absurd (omega (arith, less))
with_one (x ∷ xs) less f = f x

module _ {S R : Type 0} where
  module _ (told : S → SinkTold) (wires : List Wire) (W N : ℕ) where
    pub record LoopAt (made : ℕ) (first now : List (Task S (ThreadTaps R))) (logs : List (List Answers)) (d : Task S (ThreadTaps R)) : Type 0 where
      pub windows : ℕ
      pub is : made ≡ start W N windows
      pub tight : (i : ℕ) → i < windows → start W N i < N
      pub going : Going told wires W N windows first now logs d

    pub record Loop (made : ℕ) (first now : List (Task S (ThreadTaps R))) (logs : List (List Answers)) : Type 0 where
      pub many : length now ≡ length first
      pub at : (d : Task S (ThreadTaps R)) → LoopAt made first now logs d

    pub loop_none : (first : List (Task S (ThreadTaps R))) (logs : List (List Answers)) → IsReady told wires W N first logs → Loop 0 first first logs
    loop_none first logs ready = record { many = refl; at = λ d. record { windows = 0; is = sym (start_zero W N); tight = λ i low. absurd (omega (arith, low)); going = ready.begun d } }

    -- a run to its end, as far as any run
    pub loop_part : (made : ℕ) (first now : List (Task S (ThreadTaps R))) (start_logs logs : List (List Answers)) → IsReady told wires W N first start_logs → Loop made first now logs → RunPart told wires W N first now
    loop_part made first now start_logs logs ready loop d = let l = loop.at d in
        record {
          closed = l.windows;
          clock_calls = l.going.clock_calls;
          since = λ k. [];
          many = loop.many;
          clocks = λ k h. (let c = l.going.clocks k h in
              record {
                same = c.same;
                ticks = start W N l.windows;
                least = omega arith;
                pieces = λ runs. c.pieces;
                pieces_part = got_between told (start W N l.windows) (start W N l.windows) (suc (start W N l.windows)) (slice_index_or first k d).engine.outs (slice_index_or now k d).engine.outs (omega arith) (omega arith) c.pieces;
                came = inl (start_up W N l.windows, c.gone, sym (joined_none (l.going.clock_calls k).calls (start W N l.windows)));
              });
          ended = inl (λ k h. ((l.going.clocks k h).gone.stand.runs, refl));
          runs = λ b low. (let g = going_runs told wires W N l.windows first now logs d l.going ready.places b low in
              (g.0, run_more (wire_at wires b).capacity [] g.0 g.0 (windows_upto (wire_at wires b) l.going.clock_calls b W N l.windows) [] [] g.1 Legal.all_done));
          in_order = λ b low e. (let f = going_local told wires W N l.windows first now logs d l.going ready.places b low e in
              (f.0, subst (λ cs. Follows (wire_at wires b).capacity [] (on b cs) f.0) (sym (append-nil (joined_upto (l.going.clock_calls (wire_at wires b).from).calls (start W N l.windows)))) f.1));
        }

    pub loop_all : (made : ℕ) (first now : List (Task S (ThreadTaps R))) (logs : List (List Answers)) → N ≤ made → Loop made first now logs → RunDone told wires W N first now logs
    loop_all made first now logs high loop d = let l = loop.at d in
        record { windows = l.windows; all = (let m = start_most W N l.windows in let i = l.is in omega (arith, m, i, high)); tight = l.tight; going = l.going }

    -- each clock may make the ticks of the next window
    pub loop_can : (made count : ℕ) (first now : List (Task S (ThreadTaps R))) (start_logs logs : List (List Answers)) → IsReady told wires W N first start_logs → N ≤ 1000000000 → made < N → count ≡ min W (N - made) → Loop made first now logs → All (CanRun told TapsBuffers count) now
    loop_can made count first now start_logs logs ready few less is loop = all_by (CanRun told TapsBuffers count) now (λ d k within.
        let l = loop.at d in let here : k < length first = (let m = loop.many in omega (arith, within, m)) in
        let c = l.going.clocks k here in let r = ready.buffers k d here in
        let next = start_next W N l.windows made count l.is less is in let most = start_most W N (suc l.windows) in let at = l.is in
        let most_left : made + count ≤ N = omega (arith, next, most, at) in
        record {
          many = c.lists ∙ sym r ∙ ap (λ set. length set.plan.buffers) (sym c.same.setting);
          stands = record { ticks = start W N l.windows; answers = answers_by (l.going.clock_calls k) (start W N l.windows); stand = c.gone.stand };
          few = (let t = c.gone.stand.made in omega (arith, t, at, most_left, few));
          rooms = rooms_fewer told (slice_index_or now k d).engine.parts (slice_index_or now k d).engine.outs count (N - made) (omega (arith, most_left)) (c.rooms (N - made) (omega (arith, at, less)));
        })

    module _ (made count : ℕ) (first now mid : List (Task S (ThreadTaps R))) (start_logs logs : List (List Answers)) (ready : IsReady told wires W N first start_logs) (less : made < N) (count_is : count ≡ min W (N - made)) (loop : Loop made first now logs)
        (ran : (k : ℕ) (d : Task S (ThreadTaps R)) → k < length now → WasRun told TapsStand TapsBuffers SameTaps count (slice_index_or now k d) (slice_index_or mid k d)) (mid_many : length mid ≡ length now) where
      next_at : (d : Task S (ThreadTaps R)) → start W N (suc (loop.at d).windows) ≡ start W N (loop.at d).windows + count
      next_at d = start_next W N (loop.at d).windows made count (loop.at d).is less count_is

      pub loop_logs : length logs ≡ length wires
      loop_logs = with_one mid (let s = ready.some in let m = loop.many in omega (arith, s, m, mid_many)) (λ d. (loop.at d).going.logged.many)

      pub loop_lists : (shut : List (Task S (ThreadTaps R))) (after : List (List Answers)) → AllClosed wires mid shut logs after → HaveLists wires shut
      loop_lists shut after closed = record {
        few = ready.few;
        places = λ b low. (let p = (ready.places b low).0 in let m = loop.many in let n = closed.shut.tasks.many in omega (arith, p, m, n, mid_many));
        lists = λ k d h.
            let n = closed.shut.tasks.many in let in_mid : k < length mid = omega (arith, h, n) in let in_now : k < length now = omega (arith, in_mid, mid_many) in
            let in_first : k < length first = (let m = loop.many in omega (arith, in_now, m)) in
            ap length (closed.shut.tasks.same k d in_mid).local ∙ (ran k d in_now).many ∙ ((loop.at d).going.clocks k in_first).lists;
      }

      pub loop_more : (all_run : (k : ℕ) (d : Task S (ThreadTaps R)) → k < length mid → (slice_index_or mid k d).engine.parts.stopped ≡ None)
          (shut last : List (Task S (ThreadTaps R))) (after : List (List Answers)) → AllClosed wires mid shut logs after → AllEndedTasks wires shut last → Loop (made + count) first last after
      loop_more all_run shut last after closed ends = record {
        many = (let a = ends.many in let b = closed.shut.tasks.many in let c = loop.many in omega (arith, a, b, c, mid_many));
        at = λ d. record {
          windows = suc (loop.at d).windows;
          is = (let n = next_at d in let i = (loop.at d).is in omega (arith, n, i));
          tight = λ i low. (elim (same_or_other i (loop.at d).windows) [
            | inl is ↦ subst (λ n. start W N n < N) (sym is) (subst (λ n. n < N) (loop.at d).is less)
            | inr off ↦ (loop.at d).tight i (omega (arith, low, off))
          ]);
          going = going_more told wires W N (loop.at d).windows d count first now mid logs (next_at d) ready.places (λ i h. start_up W N i) (loop.at d).going (λ k h. ran k d h) mid_many (λ k h. all_run k d h) shut after closed last ends;
        };
      }

      same_from : (d : Task S (ThreadTaps R)) (k : ℕ) → k < length first → IsSameClock told (slice_index_or first k d).engine (slice_index_or mid k d).engine
      same_from d k h =
          let m = loop.many in let within : k < length now = omega (arith, h, m) in
          same_then told (slice_index_or first k d).engine (slice_index_or now k d).engine (slice_index_or mid k d).engine ((loop.at d).going.clocks k h).same (ran k d within).clock

      -- how far a clock came, and what it called since the border
      record At (d : Task S (ThreadTaps R)) (k : ℕ) (g : TickCalls) : Type 0 where
        agree : Agree (start W N (loop.at d).windows) ((loop.at d).going.clock_calls k) g
        since : List Call
        reached : k < length first → CameTo told W N (loop.at d).windows g since (slice_index_or first k d) (slice_index_or mid k d)
        ended : (low : k < length first) → (slice_index_or mid k d).engine.parts.stopped ≡ None → (reached low).ticks ≡ start W N (suc (loop.at d).windows)
        stood : k < length first → TapsStand (slice_index_or mid k d).taps (kept wires k (joined_upto ((loop.at d).going.clock_calls k).calls (start W N (loop.at d).windows)) ++ since)

      stops : (d : Task S (ThreadTaps R)) (k : ℕ) → k < length first → (o : Option TickFault) → (slice_index_or mid k d).engine.parts.stopped ≡ o → (g : TickCalls) × At d k g
      stops d k less' None e =
          let c = (loop.at d).going in let t = start W N (loop.at d).windows in let m = loop.many in let within : k < length now = omega (arith, less', m) in
          let r = ran k d within in let n = next_at d in
          let w = r.ran.on t (c.clock_calls k) (held_of told (slice_index_or first k d).engine) (c.clocks k less').gone e in
          let long : count ≡ t + count - t = omega arith in
          let pieces : GotPieces told (t + count) (slice_index_or first k d).engine.outs (slice_index_or mid k d).engine.outs =
          got_then told t count (slice_index_or first k d).engine.outs (slice_index_or now k d).engine.outs (slice_index_or mid k d).engine.outs (c.clocks k less').same.outs (c.clocks k less').pieces w.pieces in (
            w.after,
            record {
              agree = w.agree;
              since = joined_from w.after.calls t count;
              reached = λ again. record {
                same = same_from d k less';
                ticks = t + count;
                least = omega arith;
                pieces = λ runs. pieces;
                pieces_part = got_between told (t + count) (t + count) (suc (t + count)) (slice_index_or first k d).engine.outs (slice_index_or mid k d).engine.outs (omega arith) (omega arith) pieces;
                came = inl (omega (arith, n), w.gone, ap (joined_from w.after.calls t) long);
              };
              ended = λ again runs. sym n;
              stood = λ again. w.taps (kept wires k (joined_upto (c.clock_calls k).calls t)) (c.clocks k less').stand;
            },
          )
      stops d k less' (Some fault) e =
          let c = (loop.at d).going in let t = start W N (loop.at d).windows in let m = loop.many in let within : k < length now = omega (arith, less', m) in
          let r = ran k d within in let n = next_at d in
          let w = r.ran.halted t (c.clock_calls k) (held_of told (slice_index_or first k d).engine) (c.clocks k less').gone (λ n. some_none (sym e ∙ n)) in
          let long : w.made ≡ t + w.made - t = omega arith in (
            w.after,
            record {
              agree = w.agree;
              since = joined_from w.after.calls t w.made ++ w.part.made;
              reached = λ again. record {
                same = same_from d k less';
                ticks = t + w.made;
                least = omega arith;
                pieces = λ runs. absurd (some_none (sym e ∙ runs));
                pieces_part =
                    subst (λ n. GotBetween told (t + w.made) n (slice_index_or first k d).engine.outs (slice_index_or mid k d).engine.outs) (add-suc t w.made)
                    (between_then told t w.made (suc w.made) (slice_index_or first k d).engine.outs (slice_index_or now k d).engine.outs (slice_index_or mid k d).engine.outs (c.clocks k less').same.outs (c.clocks k less').pieces w.pieces);
                came = inr ((let f = w.fewer in omega (arith, f, n)), w.part, ap (λ l. joined_from w.after.calls t l ++ w.part.made) long);
              };
              ended = λ again runs. absurd (some_none (sym e ∙ runs));
              stood = λ again. w.taps (kept wires k (joined_upto (c.clock_calls k).calls t)) (c.clocks k less').stand;
            },
          )

      abbrev chosen : (d : Task S (ThreadTaps R)) (k : ℕ) → (g : TickCalls) × At d k g
      chosen d k = elim (low_or_high k (length first)) [
        | inl low ↦ stops d k low (slice_index_or mid k d).engine.parts.stopped refl
        | inr high ↦ (
          (loop.at d).going.clock_calls k,
          record {
            agree = agree_none (start W N (loop.at d).windows) ((loop.at d).going.clock_calls k);
            since = [];
            reached = λ low. absurd (omega (arith, low, high));
            ended = λ low. absurd (omega (arith, low, high));
            stood = λ low. absurd (omega (arith, low, high));
          },
        )
      ]

      abbrev called : (d : Task S (ThreadTaps R)) (k : ℕ) → List Call
      called d k = (chosen d k).1.since

      stood_by : (d : Task S (ThreadTaps R)) (k : ℕ) → k < length first → TapsStand (slice_index_or mid k d).taps (kept wires k (joined_upto ((loop.at d).going.clock_calls k).calls (start W N (loop.at d).windows)) ++ called d k)
      stood_by d k h = (chosen d k).1.stood h

      -- the windows may be closed, whatever the clocks did
      pub loop_close : MayClose wires mid
      loop_close = with_one mid (let s = ready.some in let m = loop.many in omega (arith, s, m, mid_many)) (λ d.
          ends_close told wires W N (loop.at d).windows d count first now mid logs ready.places (loop.at d).going (λ k h. ran k d h) mid_many (called d) (stood_by d) ready.few)

      module _ (shut : List (Task S (ThreadTaps R))) (closed : AllShut wires mid shut) where
        -- how far the clocks came
        came_to : RunPart told wires W N first mid
        came_to d =
            let l = loop.at d in let j = l.windows in let t = start W N j in
            let gs : ℕ → TickCalls = λ k. (chosen d k).0 in
            let same : (b : ℕ) → windows_upto (wire_at wires b) gs b W N j ≡ windows_upto (wire_at wires b) l.going.clock_calls b W N j =
            λ b. windows_alike (wire_at wires b) l.going.clock_calls gs b W N j t (λ k. (chosen d k).1.agree) (λ i low'. start_climbs W N (suc i) (j - suc i) j (omega (arith, low'))) (λ i low'. start_up W N i) in
            record {
              closed = j;
              clock_calls = gs;
              since = called d;
              many = (let m = loop.many in omega (arith, m, mid_many));
              clocks = λ k h. (chosen d k).1.reached h;
              ended = inr (λ k h. (chosen d k).1.ended h);
              runs = λ b low. (let wire = wire_at wires b in
                  let g = all_shut told wires W N j d count first now mid logs ready.places l.going (λ k h. ran k d h) mid_many (called d) (stood_by d) shut closed b low in
                  (g.0, subst (λ ws. IsHistory wire.capacity [] (ws ++ (puts_to b (called d wire.from), takes_of b (called d wire.to)) ∷ []) g.0) (sym (same b)) g.1));
              in_order = λ b low e. (let k = (wire_at wires b).from in
                  let f = list_follows told wires W N j d count first now mid logs ready.places l.going (λ k h. ran k d h) mid_many (called d) (stood_by d) b low e in
                  (f.0, subst (λ cs. Follows (wire_at wires b).capacity [] (on b (cs ++ called d k)) f.0) (sym (joined_alike (gs k).calls (l.going.clock_calls k).calls t (λ i less. (chosen d k).1.agree.calls i less))) f.1));
            }

        -- a clock stopped, or the log of a buffer could not take a window
        pub loop_broke : (last : List (Task S (ThreadTaps R))) → SameEngines mid last → RunPart told wires W N first last
        loop_broke last same d =
            let p = came_to d in
            record {
              closed = p.closed;
              clock_calls = p.clock_calls;
              since = p.since;
              many = same.many ∙ p.many;
              clocks = λ k h. (let c = p.clocks k h in
                  let is : (slice_index_or mid k d).engine ≡ (slice_index_or last k d).engine = sym (same.each k d (let m = p.many in omega (arith, h, m))) in
                  let from = start W N p.closed in let to = start W N (suc p.closed) in
                  record {
                    same = subst (IsSameClock told (slice_index_or first k d).engine) is c.same;
                    ticks = c.ticks;
                    least = c.least;
                    pieces = λ runs. subst (λ (e : ClockEngine S). GotPieces told c.ticks (slice_index_or first k d).engine.outs e.outs) is (c.pieces (ap (λ (e : ClockEngine S). e.parts.stopped) is ∙ runs));
                    pieces_part = subst (λ (e : ClockEngine S). GotBetween told c.ticks (suc c.ticks) (slice_index_or first k d).engine.outs e.outs) is c.pieces_part;
                    came = subst (λ (e : ClockEngine S). ((c.ticks ≤ to) × EngineGone told c.ticks (p.clock_calls k) (held_of told (slice_index_or first k d).engine) e × (p.since k ≡ joined_from (p.clock_calls k).calls from (c.ticks - from)))
                        ⊎ ((c.ticks < to) × (part : EngineGonePart told c.ticks (p.clock_calls k) (held_of told (slice_index_or first k d).engine) e) × (p.since k ≡ joined_from (p.clock_calls k).calls from (c.ticks - from) ++ part.made))) is c.came;
                  });
              ended = elim p.ended [
                | inl all ↦ inl (λ k h. (ap (λ (e : ClockEngine S). e.parts.stopped) (same.each k d (let m = p.many in omega (arith, h, m))) ∙ (all k h).0, (all k h).1))
                | inr each ↦ inr (λ k h runs. each k h (ap (λ (e : ClockEngine S). e.parts.stopped) (sym (same.each k d (let m = p.many in omega (arith, h, m)))) ∙ runs))
              ];
              runs = p.runs;
              in_order = p.in_order;
            }

      -- and its sink refused bytes
      pub loop_write : (end : End) → IsToldByLowest mid end → (clock sink : ℕ) → end ≡ Write clock sink → IsWriteAt told clock sink first mid
      loop_write end ended_by clock sink e =
          let m = loop.many in let within : ended_by.place < length first = (let w = ended_by.within in omega (arith, w, m, mid_many)) in
          let refused : (d : Task S (ThreadTaps R)) → ended_by.fault ≡ Refused sink = λ d. write_sink (slice_index_or mid ended_by.place d).engine.parts.clock ended_by.fault clock sink (sym (ended_by.end_is d) ∙ e) in
          let stopped : (d : Task S (ThreadTaps R)) → (slice_index_or mid ended_by.place d).engine.parts.stopped ≡ Some (Refused sink) = λ d. ended_by.stopped d ∙ ap Some (refused d) in
          record {
            place = ended_by.place;
            within = within;
            clock_is = λ d. write_clock (slice_index_or mid ended_by.place d).engine.parts.clock ended_by.fault clock sink (sym (ended_by.end_is d) ∙ e);
            stopped = stopped;
            lowest = ended_by.lowest;
            write = λ d. (let here : ended_by.place < length now = omega (arith, within, m) in
                write_since told (slice_index_or first ended_by.place d).engine (slice_index_or now ended_by.place d).engine (slice_index_or mid ended_by.place d).engine sink
                ((loop.at d).going.clocks ended_by.place within).same ((ran ended_by.place d here).write sink (stopped d)));
          }

      -- the same engines in other tasks
      pub write_moved : (last : List (Task S (ThreadTaps R))) → SameEngines mid last → (clock sink : ℕ) → IsWriteAt told clock sink first mid → IsWriteAt told clock sink first last
      write_moved last same clock sink w =
          let m = loop.many in let within = w.within in let here : w.place < length mid = omega (arith, within, m, mid_many) in
          record {
            place = w.place;
            within = w.within;
            clock_is = λ d. ap (λ (e : ClockEngine S). e.parts.clock) (same.each w.place d here) ∙ w.clock_is d;
            stopped = λ d. ap (λ (e : ClockEngine S). e.parts.stopped) (same.each w.place d here) ∙ w.stopped d;
            lowest = λ k d low. ap (λ (e : ClockEngine S). e.parts.stopped) (same.each k d (omega (arith, low, here))) ∙ w.lowest k d low;
            write = λ d. subst (λ (e : ClockEngine S). IsWriteOf told sink (slice_index_or first w.place d).engine e) (sym (same.each w.place d here)) (w.write d);
          }
