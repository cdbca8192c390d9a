-- From window to window.
use Rattle.std.proofs.Common.{◌≡◌, ◌≢◌, ◌⊎◌, ℕ, zero, suc, ◌<◌, ◌≤◌, ◌+◌, ◌-◌, true, false, List, [], ◌∷◌, ◌++◌, length, map, slice_index_or, sym, refl, ap, ◌∙◌, subst, arith, inl, inr, ⊎_elim, Option, None}
use Rattle.std.proofs.lemmas.List.{get_or_default}
use Rattle.liq_base.specs.Pieces.{SinkTold}
use Rattle.frame_core.specs.declared.cell.Cell.{Cell}
use Rattle.frame_core.specs.Legal.{IsHistory}
use Rattle.frame_core.specs.Calls.{Call, takes_of, puts_to}
use Rattle.buffer_queue.specs.Window.{Window as QueueWindow, opened}
use Rattle.buffer_ends.specs.Local.{Answers, LocalBuffer, closed as closed_list, on, Leads, empty_list, held as held_by}
use Rattle.buffer_ends.specs.Sides.{Side}
use Rattle.buffer_ends.specs.Ends.{ListsStand, Has}
use Rattle.buffer_ends.specs.Borders.{HasEnd}
use Rattle.buffer_ends.specs.declared.thread_taps.ThreadTaps.{ThreadTaps}
use Rattle.clock_ticks.specs.Ticks.{HaveTicksRoom}
use Rattle.clock_ticks.specs.Pieces.{GotPieces}
use Rattle.clock_ticks.proofs.Pieces.{got_then}
use Rattle.clock_threads.specs.declared.task.Task.{Task}
use Rattle.clock_threads.specs.TickCalls.{TickCalls, joined_from, Agree}
use Rattle.stream_meaning.specs.Calls.{joined_upto}
use Rattle.clock_ticks.specs.declared.engine.ClockEngine.{ClockEngine}
use Rattle.clock_ticks.specs.Engines.{held_of}
use Rattle.clock_threads.specs.TaskRuns.{EngineGone, WentOn, WasRun, IsSameClock}
use Rattle.clock_threads.proofs.Walking.{joined_alike, agree_none}
use Rattle.clock_threads.proofs.Running.{same_then}
use Rattle.clock_threads.specs.declared.wires.Wire.{Wire}
use Rattle.clock_threads.specs.Wires.{wire_at, ended, kept}
use Rattle.clock_threads.specs.Ends.{puts_of as put_ends, takes_of as take_ends, JoinOpen, JoinRan, AllClosed}
use Rattle.run_records.specs.Records.{start, Window}
use Rattle.buffer_sides.specs.Logs.{told as told_of}
use Rattle.clock_threads.specs.Records.{window_of, windows_upto, IsWired, IsLogged, ClockGoing, JoinGoing, Going, AllEndedTasks}
use Rattle.clock_threads.proofs.Sets.{one_window}
use Rattle.clock_threads.proofs.Since.{SameTaps, TapsBuffers, TapsStand, ends_ran, ends_shut}
use Rattle.clock_threads.proofs.Keeping.{puts_kept, takes_kept, on_kept, on-append}
use Rattle.clock_threads.proofs.Logging.{map_joined, current_is, has_back, not_ended}
use Rattle.clock_threads.proofs.Ended.{ended_capacity}
use Rattle.clock_threads.proofs.Meeting.{joined_split, windows_alike, ends_from, ends_to, ends_tell, true_or_false, low_or_high, has_moved, has_end}

module _ {S R : Type 0} (told : S → SinkTold) (wires : List Wire) (W N j : ℕ) (d : Task S (ThreadTaps R)) where
  module _ (count : ℕ) (first now mid : List (Task S (ThreadTaps R))) (logs : List (List Answers)) (next : start W N (suc j) ≡ start W N j + count)
      (places : (b : ℕ) → b < length wires → (wire_at wires b).from < length first × ((wire_at wires b).to < length first))
      (up : (i : ℕ) → i ≤ j → start W N i ≤ start W N (suc i))
      (going : Going told wires W N j first now logs d)
      (ran : (k : ℕ) → k < length now → WasRun told TapsStand TapsBuffers SameTaps count (slice_index_or now k d) (slice_index_or mid k d))
      (mid_many : length mid ≡ length now)
      (all_run : (k : ℕ) → k < length mid → (slice_index_or mid k d).engine.parts.stopped ≡ None) where
    abbrev within : (k : ℕ) → k < length first → k < length now
    within k h = let m = going.many in omega (arith, h, m)

    abbrev went : (k : ℕ) (h : k < length first) → WentOn told TapsStand count (start W N j) (going.clock_calls k) (held_of told (slice_index_or first k d).engine) (slice_index_or now k d) (slice_index_or mid k d)
    went k h = (ran k (within k h)).ran.on (start W N j) (going.clock_calls k) (held_of told (slice_index_or first k d).engine) (going.clocks k h).gone (all_run k (let m = within k h in omega (arith, m, mid_many)))

    record Goes (k : ℕ) (h : TickCalls) : Type 0 where
      agree : Agree (start W N j) (going.clock_calls k) h
      engine : (less : k < length first) → EngineGone told (start W N j + count) h (held_of told (slice_index_or first k d).engine) (slice_index_or mid k d).engine
      taps : (less : k < length first) → TapsStand (slice_index_or mid k d).taps (kept wires k (joined_upto (going.clock_calls k).calls (start W N j)) ++ joined_from h.calls (start W N j) count)

    abbrev chosen : (k : ℕ) → (h : TickCalls) × Goes k h
    chosen k = elim (low_or_high k (length first)) [
      | inl less ↦ (
        (went k less).after,
        record {
          agree = (went k less).agree;
          engine = λ again. (went k less).gone;
          taps = λ again. (went k less).taps (kept wires k (joined_upto (going.clock_calls k).calls (start W N j))) (going.clocks k less).stand;
        },
      )
      | inr high ↦ (
        going.clock_calls k,
        record {
          agree = agree_none (start W N j) (going.clock_calls k);
          engine = λ less. absurd (omega (arith, less, high));
          taps = λ less. absurd (omega (arith, less, high));
        },
      )
    ]

    abbrev after : ℕ → TickCalls
    after k = (chosen k).0

    agrees : (k : ℕ) → Agree (start W N j) (going.clock_calls k) (after k)
    agrees k = (chosen k).1.agree

    goes : (k : ℕ) (less : k < length first) → EngineGone told (start W N j + count) (after k) (held_of told (slice_index_or first k d).engine) (slice_index_or mid k d).engine
        × TapsStand (slice_index_or mid k d).taps (kept wires k (joined_upto (going.clock_calls k).calls (start W N j)) ++ joined_from (after k).calls (start W N j) count)
    goes k less = ((chosen k).1.engine less, (chosen k).1.taps less)

    here : (k : ℕ) (e : Task S (ThreadTaps R)) → k < length first → slice_index_or mid k e ≡ slice_index_or mid k d
    here k e h = get_or_default mid k e d (let m = within k h in omega (arith, m, mid_many))

    abbrev since : ℕ → List Call
    since k = joined_from (after k).calls (start W N j) count

    stood : (k : ℕ) → k < length first → TapsStand (slice_index_or mid k d).taps (kept wires k (joined_upto (going.clock_calls k).calls (start W N j)) ++ since k)
    stood k less = (goes k less).1

    -- a buffer between clocks, after the window
    join_ran : (b : ℕ) → b < length wires → (wire_at wires b).from ≢ (wire_at wires b).to
        → (put : QueueWindow) × (take : QueueWindow) × JoinRan (wire_at wires b) b put take mid
        × (put.opening ≡ take.opening) × IsHistory (wire_at wires b).capacity [] (windows_upto (wire_at wires b) going.clock_calls b W N j) put.opening
        × (put.answers ≡ puts_to b (since (wire_at wires b).from)) × (take.answers ≡ takes_of b (since (wire_at wires b).to))
    join_ran = ends_ran told wires W N j d count first now mid logs places going ran mid_many since stood

    module _ (shut : List (Task S (ThreadTaps R))) (after_logs : List (List Answers)) (closed : AllClosed wires mid shut logs after_logs) where
      climbs : (i n : ℕ) → i + n ≡ j → start W N i ≤ start W N j
      climbs i zero e = let same : i ≡ j = omega (arith, e) in subst (λ k. start W N i ≤ start W N k) same (omega arith)
      climbs i (suc n) e = let a = up i (omega (arith, e)) in let b' = climbs (suc i) n (omega (arith, e)) in omega (arith, a, b')

      reaches : (i : ℕ) → i < j → start W N (suc i) ≤ start W N j
      reaches i low = climbs (suc i) (j - suc i) (omega (arith, low))

      -- the windows of a buffer between clocks, with this one, and what is open
      pub join_shut : (b : ℕ) (less : b < length wires) (apart : (wire_at wires b).from ≢ (wire_at wires b).to)
          → (rest : List (List Cell)) × IsHistory (wire_at wires b).capacity [] (windows_upto (wire_at wires b) after b W N (suc j)) rest × JoinOpen (wire_at wires b) b rest shut
      join_shut b less apart =
          let wire = wire_at wires b in let old = windows_upto wire going.clock_calls b W N j in
          let r = ends_shut told wires W N j d count first now mid logs places going ran mid_many since stood shut closed.shut b less apart in
          let more : count ≡ start W N (suc j) - start W N j = omega (arith, next) in
          let same : windows_upto wire after b W N j ≡ old = windows_alike wire going.clock_calls after b W N j (start W N j) agrees (λ i low. reaches i low) (λ i low. up i (omega (arith, low))) in
          (r.0, subst (λ (l : List Window). IsHistory wire.capacity [] l r.0) (λ i. sym same i ++ window_of wire after b (start W N j) (more i) ∷ []) r.1, r.2)

      module _ (last : List (Task S (ThreadTaps R))) (ends : AllEndedTasks wires shut last) where
        in_mid : (k : ℕ) → k < length first → k < length mid
        in_mid k h = let m = within k h in omega (arith, m, mid_many)

        in_shut : (k : ℕ) → k < length first → k < length shut
        in_shut k h = let m = in_mid k h in let n = closed.shut.tasks.many in omega (arith, m, n)

        join_on : (b : ℕ) (less : b < length wires) (apart : (wire_at wires b).from ≢ (wire_at wires b).to) → JoinGoing (wire_at wires b) b (windows_upto (wire_at wires b) after b W N (suc j)) last
        join_on b less apart =
            let wire = wire_at wires b in let r = join_shut b less apart in
            let f_in = (places b less).0 in let t_in = (places b less).1 in
            record {
              chunks = r.0;
              run = r.1;
              opens = record {
                queue = r.2.queue;
                capacity = r.2.capacity;
                put = λ e. subst (λ l. HasEnd l b (opened r.2.queue r.0)) (sym (ends.each wire.from e (in_shut wire.from f_in)).puts) (r.2.put e);
                take = λ e. subst (λ l. HasEnd l b (opened r.2.queue r.0)) (sym (ends.each wire.to e (in_shut wire.to t_in)).takes) (r.2.take e);
              };
            }

        lists_on : (k : ℕ) (h : k < length first) → ListsStand (λ b. Has (put_ends (slice_index_or last k d)) b ⊎ Has (take_ends (slice_index_or last k d)) b) (slice_index_or last k d).taps.local
            (kept wires k (joined_upto (after k).calls (start W N (suc j))))
        lists_on k h b f low away =
            let c = going.clocks k h in let r = ran k (within k h) in let g = goes k h in
            let s = closed.shut.tasks.same k d (in_mid k h) in let e = ends.each k d (in_shut k h) in
            let y = slice_index_or mid k d in let z = slice_index_or shut k d in let u = slice_index_or last k d in
            let old = kept wires k (joined_upto (going.clock_calls k).calls (start W N j)) in let more = joined_from (after k).calls (start W N j) count in
            -- the lists after the ticks, at the closed ends, and after the border
            let Away : ℕ → Type 0 = λ x. Has (put_ends z) x ⊎ Has (take_ends z) x in
            let at_z : ListsStand Away z.taps.local (old ++ more) = subst (λ l. ListsStand Away l (old ++ more)) (sym s.local) (λ x f' low' out. g.1.2 x f' low' (λ has. out (moved has))) in
            let at_u = e.lists (old ++ more) at_z in
            let there = at_u b f low (λ has. away (gone_on has)) in
            let none : ended wires k b ≡ false = elim (true_or_false (ended wires k b)) [ inr off ↦ off | inl on_end ↦ absurd (away (end_there on_end)) ] in
            let same : on b (old ++ more) ≡ on b (kept wires k (joined_upto (after k).calls (start W N (suc j)))) =
            on-append b old more ∙ (λ i. on_kept wires k b (joined_upto (going.clock_calls k).calls (start W N j)) none i ++ on b more)
            ∙ ap (λ l. on b l ++ on b more) (sym (joined_alike (after k).calls (going.clock_calls k).calls (start W N j) (λ n less. (agrees k).calls n less)))
            ∙ sym (on-append b (joined_upto (after k).calls (start W N j)) more) ∙ ap (on b) (sym (joined_split (after k).calls (start W N j) count) ∙ ap (joined_upto (after k).calls) (sym next))
            ∙ sym (on_kept wires k b (joined_upto (after k).calls (start W N (suc j))) none) in
            subst (λ l. Leads (empty_list (slice_index_or u.taps.local b f).capacity) l (held_by (slice_index_or u.taps.local b f))) same there
          where
            moved : {x : ℕ} → Has (put_ends (slice_index_or mid k d)) x ⊎ Has (take_ends (slice_index_or mid k d)) x → Has (put_ends (slice_index_or shut k d)) x ⊎ Has (take_ends (slice_index_or shut k d)) x
            moved {x} (inl has) = inl (has_moved _ _ x (closed.shut.tasks.puts_many k d (in_mid k h)) (λ p e. closed.shut.tasks.puts k p d e (in_mid k h)) has)
            moved {x} (inr has) = inr (has_moved _ _ x (closed.shut.tasks.takes_many k d (in_mid k h)) (λ p e. closed.shut.tasks.takes k p d e (in_mid k h)) has)

            gone_on : Has (put_ends (slice_index_or shut k d)) b ⊎ Has (take_ends (slice_index_or shut k d)) b → Has (put_ends (slice_index_or last k d)) b ⊎ Has (take_ends (slice_index_or last k d)) b
            gone_on (inl has) = inl (subst (λ l. Has l b) (sym (ends.each k d (in_shut k h)).puts) has)
            gone_on (inr has) = inr (subst (λ l. Has l b) (sym (ends.each k d (in_shut k h)).takes) has)

            few : b < length wires
            few = let a = ends.each k d (in_shut k h) in let s' = ap length (closed.shut.tasks.same k d (in_mid k h)).local in let r' = (ran k (within k h)).many in let c' = (going.clocks k h).lists in
                let m = a.many in omega (arith, low, m, s', r', c')

            end_there : ended wires k b ≡ true → Has (put_ends (slice_index_or last k d)) b ⊎ Has (take_ends (slice_index_or last k d)) b
            end_there is_end = let t = ends_tell (wire_at wires b) k is_end in let g' = join_on b few t.0 in
                elim t.1 [
                  | inl f' ↦ inl (has_end _ b _ (subst (λ n. HasEnd (put_ends (slice_index_or last n d)) b (opened g'.opens.queue g'.chunks)) f' (g'.opens.put d)))
                  | inr t' ↦ inr (has_end _ b _ (subst (λ n. HasEnd (take_ends (slice_index_or last n d)) b (opened g'.opens.queue g'.chunks)) t' (g'.opens.take d)))
                ]

        clock_on : (k : ℕ) → k < length first → ClockGoing told wires N (start W N (suc j)) k (after k) (slice_index_or first k d) (slice_index_or last k d)
        clock_on k h =
            let c = going.clocks k h in let r = ran k (within k h) in let g = goes k h in
            let s = closed.shut.tasks.same k d (in_mid k h) in let e = ends.each k d (in_shut k h) in
            let engine : (slice_index_or last k d).engine ≡ (slice_index_or mid k d).engine = e.engine ∙ s.engine in
            let x = slice_index_or now k d in let y = slice_index_or mid k d in let z = slice_index_or shut k d in let u = slice_index_or last k d in
            let running = all_run k (in_mid k h) in
            let put_many : length (put_ends u) ≡ length (put_ends x) = ap length e.puts ∙ closed.shut.tasks.puts_many k d (in_mid k h) ∙ r.taps.0.many in
            let take_many : length (take_ends u) ≡ length (take_ends x) = ap length e.takes ∙ closed.shut.tasks.takes_many k d (in_mid k h) ∙ r.taps.1.many in
            let put_buffer : (p : ℕ) (f : Side) → p < length (put_ends u) → (slice_index_or (put_ends u) p f).buffer ≡ (slice_index_or (put_ends x) p f).buffer =
            λ p f low. ap (λ l. (slice_index_or l p f).buffer) e.puts ∙ closed.shut.tasks.puts k p d f (in_mid k h) ∙ (r.taps.0.each p f (omega (arith, low, put_many))).buffer in
            let take_buffer : (p : ℕ) (f : Side) → p < length (take_ends u) → (slice_index_or (take_ends u) p f).buffer ≡ (slice_index_or (take_ends x) p f).buffer =
            λ p f low. ap (λ l. (slice_index_or l p f).buffer) e.takes ∙ closed.shut.tasks.takes k p d f (in_mid k h) ∙ (r.taps.1.each p f (omega (arith, low, take_many))).buffer in
            let wired : IsWired wires k u = record {
              puts = λ p f low. subst (λ b. (b < length wires) × ((wire_at wires b).from ≡ k) × ((wire_at wires b).to ≢ k)) (sym (put_buffer p f low)) (c.wired.puts p f (omega (arith, low, put_many)));
              takes = λ p f low. subst (λ b. (b < length wires) × ((wire_at wires b).to ≡ k) × ((wire_at wires b).from ≢ k)) (sym (take_buffer p f low)) (c.wired.takes p f (omega (arith, low, take_many)));
            } in
            let calls = joined_upto (after k).calls (start W N (suc j)) in
            let all = kept wires k (joined_upto (going.clock_calls k).calls (start W N j)) ++ joined_from (after k).calls (start W N j) count in
            record {
              gone = subst (λ (q : ℕ × _). EngineGone told q.0 (after k) (held_of told (slice_index_or first k d).engine) q.1) (λ i. (sym next i, sym engine i)) g.0;
              same = same_then told (slice_index_or first k d).engine x.engine u.engine c.same (subst (λ f. IsSameClock told x.engine f) (sym engine) r.clock);
              pieces = subst (λ (q : ℕ × ClockEngine S). GotPieces told q.0 (slice_index_or first k d).engine.outs q.1.outs) (λ i. (sym next i, sym engine i))
                  (got_then told (start W N j) count (slice_index_or first k d).engine.outs x.engine.outs y.engine.outs c.same.outs c.pieces (went k h).pieces);
              rooms = λ n is. subst (λ f. HaveTicksRoom told f.parts f.outs n) (sym engine) (r.rooms n running (c.rooms (n + count) (omega (arith, is, next))));
              wired = wired;
              stand = (
                (λ p f low.
                    let w = wired.puts p f low in let b = (slice_index_or (put_ends u) p f).buffer in let g' = join_on b w.0 (λ eq. w.2 (sym eq ∙ w.1)) in
                    let q : HasEnd (put_ends u) b (opened g'.opens.queue g'.chunks) = subst (λ n. HasEnd (put_ends (slice_index_or last n d)) b (opened g'.opens.queue g'.chunks)) w.1 (g'.opens.put d) in
                    let one : opened g'.opens.queue g'.chunks ≡ (slice_index_or (put_ends u) p f).window =
                    one_window (put_ends u) b p (opened g'.opens.queue g'.chunks) (slice_index_or (put_ends u) p f).window u.taps.falling.0 q (record { within = low; is = λ f'. get_or_default (put_ends u) p f' f low }) in
                    ap (λ (v : QueueWindow). v.answers) (sym one) ∙ sym (puts_kept wires k b calls (ends_from (wire_at wires b) k w.1 w.2))),
                (λ p f low.
                    let w = wired.takes p f low in let b = (slice_index_or (take_ends u) p f).buffer in let g' = join_on b w.0 (λ eq. w.2 (eq ∙ w.1)) in
                    let q : HasEnd (take_ends u) b (opened g'.opens.queue g'.chunks) = subst (λ n. HasEnd (take_ends (slice_index_or last n d)) b (opened g'.opens.queue g'.chunks)) w.1 (g'.opens.take d) in
                    let one : opened g'.opens.queue g'.chunks ≡ (slice_index_or (take_ends u) p f).window =
                    one_window (take_ends u) b p (opened g'.opens.queue g'.chunks) (slice_index_or (take_ends u) p f).window u.taps.falling.1 q (record { within = low; is = λ f'. get_or_default (take_ends u) p f' f low }) in
                    ap (λ (v : QueueWindow). v.answers) (sym one) ∙ sym (takes_kept wires k b calls (ends_to (wire_at wires b) k w.1 w.2))),
                lists_on k h,
              );
              lists = e.many ∙ ap length s.local ∙ r.many ∙ c.lists;
              capacities = λ b f low.
                  let mid_in : b < length y.taps.local = (let n = r.many in let m = c.lists in omega (arith, low, n, m)) in
                  ended_capacity wires k z u e b f (omega (arith, low)) ∙ ap (λ (l : List LocalBuffer). (slice_index_or l b f).capacity) s.local
                  ∙ (r.taps.2.each b f (let n = r.many in omega (arith, mid_in, n))).capacity ∙ c.capacities b f low;
            }

        abbrev window_more : ℕ → Window
        window_more b = window_of (wire_at wires b) after b (start W N j) (start W N (suc j) - start W N j)

        -- the answers of the windows before this one, and of this one
        told_more : (b : ℕ) (x y : List Answers) (z : Answers) → y ≡ x ++ z ∷ [] → x ≡ map told_of (windows_upto (wire_at wires b) going.clock_calls b W N j) → z ≡ told_of (window_more b)
            → y ≡ map told_of (windows_upto (wire_at wires b) after b W N (suc j))
        told_more b x y z is before last_is =
            let same : windows_upto (wire_at wires b) after b W N j ≡ windows_upto (wire_at wires b) going.clock_calls b W N j =
            windows_alike (wire_at wires b) going.clock_calls after b W N j (start W N j) agrees (λ i low. reaches i low) (λ i low. up i (omega (arith, low))) in
            is ∙ (λ i. (before ∙ ap (map told_of) (sym same)) i ++ last_is i ∷ []) ∙ sym (map_joined told_of (windows_upto (wire_at wires b) after b W N j) (window_more b ∷ []))

        joined_on : (b : ℕ) (e : List Answers) → b < length wires → (wire_at wires b).from ≢ (wire_at wires b).to → slice_index_or after_logs b e ≡ map told_of (windows_upto (wire_at wires b) after b W N (suc j))
        joined_on b e less apart =
            let wire = wire_at wires b in let r = join_ran b less apart in
            let more : count ≡ start W N (suc j) - start W N j = omega (arith, next) in
            told_more b (slice_index_or logs b e) (slice_index_or after_logs b e) (told_of (r.0.answers, r.1.answers)) (closed.logged b r.0 r.1 e less apart r.2) (going.logged.joined b e less apart)
            ((λ i. told_of (r.5 i, r.6 i)) ∙ (λ i. told_of (window_of wire after b (start W N j) (more i))))

        local_on : (b : ℕ) (f : LocalBuffer) → b < length wires → (wire_at wires b).from ≡ (wire_at wires b).to
            → IsLogged (windows_upto (wire_at wires b) after b W N (suc j)) (slice_index_or (slice_index_or last (wire_at wires b).from d).taps.local b f)
        local_on b f less is =
            let wire = wire_at wires b in let k = wire.from in let h = (places b less).0 in
            let c = going.clocks k h in let r = ran k (within k h) in let s = closed.shut.tasks.same k d (in_mid k h) in let e = ends.each k d (in_shut k h) in
            let x = slice_index_or now k d in let y = slice_index_or mid k d in let z = slice_index_or shut k d in let u = slice_index_or last k d in
            let l = slice_index_or x.taps.local b f in let m = slice_index_or y.taps.local b f in
            let in_x : b < length x.taps.local = (let n = c.lists in omega (arith, less, n)) in
            let in_y : b < length y.taps.local = (let n = r.many in omega (arith, in_x, n)) in
            let was = going.logged.local b f less is in let same = r.taps.2.each b f in_x in
            let old = kept wires k (joined_upto (going.clock_calls k).calls (start W N j)) in let more = joined_from (after k).calls (start W N j) count in
            let away : Has (put_ends x) b ⊎ Has (take_ends x) b → ⊥ = not_ended wires k b x c.wired is in
            let away_after : Has (put_ends y) b ⊎ Has (take_ends y) b → ⊥ =
            λ has. ⊎_elim (λ (p : Has (put_ends y) b). away (inl (has_back (put_ends x) (put_ends y) b r.taps.0 p))) (λ (p : Has (take_ends y) b). away (inr (has_back (take_ends x) (take_ends y) b r.taps.1 p))) has in
            let now_is : m.current ≡ told_of (puts_to b more, takes_of b more) = current_is b old more l m same.closed was.opens (c.stand.2 b f in_x away) ((goes k h).1.2 b f in_y away_after) in
            let list_is : slice_index_or u.taps.local b f ≡ closed_list m =
            e.own b f less (refl, sym is) ∙ ap (λ (ls : List LocalBuffer). closed_list (slice_index_or ls b f)) s.local in
            let long : count ≡ start W N (suc j) - start W N j = omega (arith, next) in
            record {
              closed_are = told_more b l.closed (slice_index_or u.taps.local b f).closed m.current (ap (λ (q : LocalBuffer). q.closed) list_is ∙ ap (λ q. q ++ m.current ∷ []) same.closed) was.closed_are
                  (now_is ∙ (λ i. told_of (puts_to b (joined_from (after k).calls (start W N j) (long i)), takes_of b (joined_from (after (is i)).calls (start W N j) (long i)))));
              opens = ap (λ (q : LocalBuffer). q.current) list_is;
            }

        pub going_more : Going told wires W N (suc j) first last after_logs d
        going_more = record {
          clock_calls = after;
          many = (let m = ends.many in let n = closed.shut.tasks.many in let o = going.many in omega (arith, m, n, o, mid_many));
          clocks = λ k h. clock_on k h;
          joins = λ b less apart. join_on b less apart;
          logged = record {
            many = closed.logs_many ∙ going.logged.many;
            joined = joined_on;
            local = local_on;
          };
        }
