-- The calls of the clocks since the last border, whatever they are: the ends of a buffer between clocks have its window, and a clock's own
-- lists follow them. Once the ends are closed, all windows of a buffer are one history.
use Rattle.std.proofs.Common.{◌≡◌, ◌≢◌, ◌⊎◌, ℕ, ◌<◌, ◌^◌, List, [], ◌∷◌, ◌++◌, length, slice_index_or, sym, refl, ap, ◌∙◌, subst, arith, inl, inr, ⊎_elim, Option}
use Rattle.std.proofs.lemmas.List.{get_or_default}
use Rattle.liq_base.specs.Pieces.{SinkTold}
use Rattle.frame_core.specs.declared.cell.Cell.{Cell}
use Rattle.frame_core.specs.Legal.{Legal, IsHistory}
use Rattle.frame_core.specs.Calls.{Call, takes_of, puts_to}
use Rattle.frame_core.proofs.Laws.{run_more}
use Rattle.buffer_queue.specs.Window.{Window as QueueWindow, opened, capacity_of}
use Rattle.buffer_ends.specs.Local.{Answers, LocalBuffer, on, empty_buffer, empty_list, held as held_by}
use Rattle.buffer_ends.specs.Sides.{Side, SameSides}
use Rattle.buffer_ends.specs.Same.{SameBuffers}
use Rattle.buffer_ends.specs.Ends.{EndsStand, PutsStand, TakesStand, Has}
use Rattle.buffer_ends.specs.Borders.{HasEnd}
use Rattle.buffer_ends.specs.declared.thread_taps.ThreadTaps.{ThreadTaps}
use Rattle.clock_threads.specs.declared.task.Task.{Task}
use Rattle.clock_threads.specs.TaskRuns.{WasRun}
use Rattle.stream_meaning.specs.Calls.{joined_upto}
use Rattle.clock_threads.specs.declared.wires.Wire.{Wire}
use Rattle.clock_threads.specs.Wires.{wire_at, kept}
use Rattle.clock_threads.specs.Ends.{puts_of as put_ends, takes_of as take_ends, JoinOpen, JoinRan, MayClose, AllShut}
use Rattle.run_records.specs.Records.{Follows, start}
use Rattle.run_records.proofs.Rounding.{follows_split}
use Rattle.clock_threads.specs.Records.{windows_upto, Going}
use Rattle.clock_threads.proofs.Sets.{same_or_other, side}
use Rattle.clock_threads.proofs.Keeping.{puts_kept, takes_kept, on_kept, puts-append, takes-append, on-append}
use Rattle.clock_threads.proofs.Logging.{has_back, not_ended}
use Rattle.clock_threads.proofs.Lawfully.{follows_legal, leads_follows, local_run}
use Rattle.clock_threads.proofs.Lists.{none_ended}
use Rattle.clock_threads.proofs.Meeting.{ends_from, ends_to}

abbrev pub SameTaps : {R : Type 0} → ThreadTaps R → ThreadTaps R → Type 0
SameTaps s t = SameSides s.puts.items t.puts.items × SameSides s.takes.items t.takes.items × SameBuffers s.local t.local

abbrev pub TapsStand : {R : Type 0} → ThreadTaps R → List Call → Type 0
TapsStand s calls = EndsStand s.puts.items s.takes.items s.local calls

abbrev pub TapsBuffers : {R : Type 0} → ThreadTaps R → ℕ
TapsBuffers s = length s.local

-- an end before and after a window in which its clock made these calls
module _ (sides after : List Side) (b : ℕ) (w : QueueWindow) (same : SameSides sides after) (e : HasEnd sides b w) where
  abbrev pub later_window : QueueWindow
  later_window = (slice_index_or after e.place (side b w)).window

  pub later_end : HasEnd after b later_window
  later_end = record {
    place = e.place;
    at = record {
      within = (let h = e.at.within in let m = same.many in omega (arith, h, m));
      is = λ d. get_or_default after e.place d (side b w) (let h = e.at.within in let m = same.many in omega (arith, h, m))
          ∙ (λ i. record { buffer = ((same.each e.place (side b w) e.at.within).buffer ∙ ap (λ (s : Side). s.buffer) (e.at.is (side b w))) i; window = later_window });
    };
  }

  pub later_queue : later_window.queue ≡ w.queue
  later_queue = (same.each e.place (side b w) e.at.within).queue ∙ ap (λ (s : Side). s.window.queue) (e.at.is (side b w))

  pub later_opening : later_window.opening ≡ w.opening
  later_opening = (same.each e.place (side b w) e.at.within).opening ∙ ap (λ (s : Side). s.window.opening) (e.at.is (side b w))

  within_after : e.place < length after
  within_after = let h = e.at.within in let m = same.many in omega (arith, h, m)

  buffer_after : (slice_index_or after e.place (side b w)).buffer ≡ b
  buffer_after = (same.each e.place (side b w) e.at.within).buffer ∙ ap (λ (s : Side). s.buffer) (e.at.is (side b w))

  pub later_puts : (old more : List Call) → PutsStand after (old ++ more) → puts_to b old ≡ [] → later_window.answers ≡ puts_to b more
  later_puts old more s none = s e.place (side b w) within_after ∙ ap (λ n. puts_to n (old ++ more)) buffer_after ∙ puts-append b old more ∙ ap (λ l. l ++ puts_to b more) none

  pub later_takes : (old more : List Call) → TakesStand after (old ++ more) → takes_of b old ≡ [] → later_window.answers ≡ takes_of b more
  later_takes old more s none = s e.place (side b w) within_after ∙ ap (λ n. takes_of n (old ++ more)) buffer_after ∙ takes-append b old more ∙ ap (λ l. l ++ takes_of b more) none

module _ {S R : Type 0} (told : S → SinkTold) (wires : List Wire) (W N j : ℕ) (d : Task S (ThreadTaps R))
    (count : ℕ) (first now mid : List (Task S (ThreadTaps R))) (logs : List (List Answers))
    (places : (b : ℕ) → b < length wires → (wire_at wires b).from < length first × ((wire_at wires b).to < length first))
    (going : Going told wires W N j first now logs d)
    (ran : (k : ℕ) → k < length now → WasRun told TapsStand TapsBuffers SameTaps count (slice_index_or now k d) (slice_index_or mid k d))
    (mid_many : length mid ≡ length now) (since : ℕ → List Call)
    (stood : (k : ℕ) → k < length first → TapsStand (slice_index_or mid k d).taps (kept wires k (joined_upto (going.clock_calls k).calls (start W N j)) ++ since k)) where
  within : (k : ℕ) → k < length first → k < length now
  within k h = let m = going.many in omega (arith, h, m)

  here : (k : ℕ) (e : Task S (ThreadTaps R)) → k < length first → slice_index_or mid k e ≡ slice_index_or mid k d
  here k e h = get_or_default mid k e d (let m = within k h in omega (arith, m, mid_many))

  -- a buffer between clocks, after these calls
  pub ends_ran : (b : ℕ) → b < length wires → (wire_at wires b).from ≢ (wire_at wires b).to
      → (put : QueueWindow) × (take : QueueWindow) × JoinRan (wire_at wires b) b put take mid
      × (put.opening ≡ take.opening) × IsHistory (wire_at wires b).capacity [] (windows_upto (wire_at wires b) going.clock_calls b W N j) put.opening
      × (put.answers ≡ puts_to b (since (wire_at wires b).from)) × (take.answers ≡ takes_of b (since (wire_at wires b).to))
  ends_ran b less apart =
      let wire = wire_at wires b in let g = going.joins b less apart in let f = (places b less).0 in let t = (places b less).1 in
      let put = g.opens.put d in let take = g.opens.take d in
      let o = opened g.opens.queue g.chunks in
      let same_f = (ran wire.from (within wire.from f)).taps.0 in let same_t = (ran wire.to (within wire.to t)).taps.1 in
      let w = later_window _ _ b o same_f put in let v = later_window _ _ b o same_t take in
      let end_f = ends_from wire wire.from refl (λ e. apart (sym e)) in let end_t = ends_to wire wire.to refl apart in (
        w,
        v,
        record {
          capacity = ap capacity_of (later_queue _ _ b o same_f put) ∙ g.opens.capacity;
          queue = later_queue _ _ b o same_t take ∙ sym (later_queue _ _ b o same_f put);
          put_end = λ e. subst (λ (x : Task S (ThreadTaps R)). HasEnd (put_ends x) b w) (sym (here wire.from e f)) (later_end _ _ b o same_f put);
          take_end = λ e. subst (λ (x : Task S (ThreadTaps R)). HasEnd (take_ends x) b v) (sym (here wire.to e t)) (later_end _ _ b o same_t take);
        },
        later_opening _ _ b o same_f put ∙ sym (later_opening _ _ b o same_t take),
        subst (λ l. IsHistory wire.capacity [] (windows_upto wire going.clock_calls b W N j) l) (sym (later_opening _ _ b o same_f put)) g.run,
        later_puts _ _ b o same_f put (kept wires wire.from (joined_upto (going.clock_calls wire.from).calls (start W N j))) (since wire.from) (stood wire.from f).0 (puts_kept wires wire.from b (joined_upto (going.clock_calls wire.from).calls (start W N j)) end_f),
        later_takes _ _ b o same_t take (kept wires wire.to (joined_upto (going.clock_calls wire.to).calls (start W N j))) (since wire.to) (stood wire.to t).1 (takes_kept wires wire.to b (joined_upto (going.clock_calls wire.to).calls (start W N j)) end_t),
      )

  pub ends_close : length wires < 2 ^ 32 → MayClose wires mid
  ends_close few = record {
    few = few;
    places = λ b less. ((let x = (places b less).0 in let m = going.many in omega (arith, x, m, mid_many)), (let x = (places b less).1 in let m = going.many in omega (arith, x, m, mid_many)));
    ran = λ b less apart. (let r = ends_ran b less apart in (r.0, r.1, r.2));
  }

  -- a buffer of one clock: these calls go on where those before them ended
  pub list_follows : (b : ℕ) → b < length wires → (wire_at wires b).from ≡ (wire_at wires b).to
      → (rest : List (List Cell)) × Follows (wire_at wires b).capacity [] (on b (joined_upto (going.clock_calls (wire_at wires b).from).calls (start W N j) ++ since (wire_at wires b).from)) rest
  list_follows b less e =
      let k = (wire_at wires b).from in let h = (places b less).0 in
      let c = going.clocks k h in let r = ran k (within k h) in
      let x = slice_index_or now k d in let y = slice_index_or mid k d in
      let l : LocalBuffer = slice_index_or y.taps.local b (empty_buffer 0) in
      let in_x : b < length x.taps.local = (let n = c.lists in omega (arith, less, n)) in
      let in_y : b < length y.taps.local = (let n = r.many in omega (arith, in_x, n)) in
      let away : Has (put_ends x) b ⊎ Has (take_ends x) b → ⊥ = not_ended wires k b x c.wired e in
      let away_after : Has (put_ends y) b ⊎ Has (take_ends y) b → ⊥ =
      λ has. ⊎_elim (λ (p : Has (put_ends y) b). away (inl (has_back (put_ends x) (put_ends y) b r.taps.0 p))) (λ (p : Has (take_ends y) b). away (inr (has_back (take_ends x) (take_ends y) b r.taps.1 p))) has in
      let before = joined_upto (going.clock_calls k).calls (start W N j) in
      let follows = leads_follows (empty_list l.capacity) (on b (kept wires k before ++ since k)) (held_by l) ((stood k h).2 b (empty_buffer 0) in_y away_after) in
      let capacity : l.capacity ≡ (wire_at wires b).capacity = (r.taps.2.each b (empty_buffer 0) in_x).capacity ∙ c.capacities b (empty_buffer 0) less in
      let calls : on b (kept wires k before ++ since k) ≡ on b (before ++ since k) =
      on-append b (kept wires k before) (since k) ∙ ap (λ z. z ++ on b (since k)) (on_kept wires k b before (none_ended (wire_at wires b) k e)) ∙ sym (on-append b before (since k)) in
      (l.chunks, subst (λ (z : ℕ × List Call). Follows z.0 [] z.1 l.chunks) (λ i. (capacity i, calls i)) follows)

  module _ (shut : List (Task S (ThreadTaps R))) (closed : AllShut wires mid shut) where
    -- the windows of a buffer between clocks, with the open one
    pub ends_shut : (b : ℕ) → b < length wires → (wire_at wires b).from ≢ (wire_at wires b).to
        → (rest : List (List Cell)) × IsHistory (wire_at wires b).capacity [] (windows_upto (wire_at wires b) going.clock_calls b W N j ++ (puts_to b (since (wire_at wires b).from), takes_of b (since (wire_at wires b).to)) ∷ []) rest
        × JoinOpen (wire_at wires b) b rest shut
    ends_shut b less apart =
        let wire = wire_at wires b in let r = ends_ran b less apart in let t = closed.each b r.0 r.1 less apart r.2 in
        let legal : Legal wire.capacity t.rest r.0.opening (puts_to b (since wire.from)) (takes_of b (since wire.to)) =
        subst (λ (z : List (Option (List Cell)) × List (Option (List Cell))). Legal wire.capacity t.rest r.0.opening z.0 z.1) (λ i. (r.5 i, r.6 i)) t.legal in
        (t.rest, run_more wire.capacity [] r.0.opening t.rest (windows_upto wire going.clock_calls b W N j) (puts_to b (since wire.from)) (takes_of b (since wire.to)) r.4 legal, t.opens)

    -- those of any buffer
    pub all_shut : (b : ℕ) → b < length wires
        → (rest : List (List Cell)) × IsHistory (wire_at wires b).capacity [] (windows_upto (wire_at wires b) going.clock_calls b W N j ++ (puts_to b (since (wire_at wires b).from), takes_of b (since (wire_at wires b).to)) ∷ []) rest
    all_shut b less = elim (same_or_other (wire_at wires b).from (wire_at wires b).to) [
      | inl e ↦ (
          let wire = wire_at wires b in let f = list_follows b less e in let before = joined_upto (going.clock_calls wire.from).calls (start W N j) in
          let cut = follows_split wire.capacity (on b before) (on b (since wire.from)) [] f.0 (subst (λ l. Follows wire.capacity [] l f.0) (on-append b before (since wire.from)) f.1) in
          let legal : Legal wire.capacity f.0 cut.0 (puts_to b (since wire.from)) (takes_of b (since wire.to)) =
          subst (λ k. Legal wire.capacity f.0 cut.0 (puts_to b (since wire.from)) (takes_of b (since k))) e (follows_legal wire.capacity b (since wire.from) cut.0 f.0 cut.2) in
          (f.0, run_more wire.capacity [] cut.0 f.0 (windows_upto wire going.clock_calls b W N j) (puts_to b (since wire.from)) (takes_of b (since wire.to)) (local_run W N wire going.clock_calls b j cut.0 e cut.1) legal))
      | inr apart ↦ (let s = ends_shut b less apart in (s.0, s.1))
    ]
